-- What is promised of the call that says why a read is refused is kept, by every program that meets its contract.
-- Assumes nothing.
use Rattle.std.specs.Prelude.{Result, Ok, Err}
use Rattle.rules_calls.specs.declared.Refusal.{Refusal}
use mathlib.Core.Path.{◌≡◌, refl, sym, ap, ◌∙◌, subst}
use mathlib.Core.Bool.{true}
use mathlib.Core.List.{List}
use Prim.Native.Nat.{ℕ, ◌/◌, ◌%◌}
use Rattle.rules_chips.specs.Chips.{hard_recording}
use Rattle.rules_frame.specs.Frame.{kind_of}
use Rattle.rules_calls.specs.declared.Record.{Record}
use Rattle.rules_calls.specs.declared.Reading.{Reading}
use Rattle.rules_calls.specs.Answers.{record_of}
use Rattle.rules_reading.specs.Reading.{reading_of}
use Rattle.rules_calls.proofs.AnswerFacts.{some_number}
use Rattle.rules_why.specs.declared.Reason.{Reason}
use Rattle.rules_why.specs.Why.{reason, reason_of}
use Rattle.rules_why.specs.Plain.{LengthWanted}
use Rattle.rules_why.proofs.Numbers.{wanted_none}
use Rattle.rules_why.proofs.Laws.{reason_good, why_is, why_number, why_place}
use Rattle.promises_why.specs.Calls.{Explains}
use Rattle.promises_why.specs.Table.{Table, row_13, row_15}
use Rattle.promises_why.specs.Promises.{
  WhyAgrees,
  WhyTable,
  Alike,
  signal_0,
  length_0,
  WhyDiffers,
  OneReason,
  WhyPromised,
}
use Rattle.promises_why.proofs.Rows.{Shows, why_shows}
use Rattle.promises_why.proofs.Only.{row_once}

good_zeros : (kind : ℕ) (chips : List ℕ) (room : ℕ) (g : Result Reading Refusal) → (record_of g).number ≡ 0
    → reason_of kind (kind_of kind) chips (hard_recording chips) room g ≡ reason 0 0 0 0
good_zeros kind chips room (Err e) z = absurd (some_number e z)
good_zeros kind chips room (Ok g) z =
    reason_good kind (kind_of kind) chips (hard_recording chips) room g.told g.used g.least

why_agrees : WhyAgrees
why_agrees kind chips room r a left x f = (
  ap (λ (s : Reason). s.number) x.answer ∙ why_number kind chips room
      ∙ sym (ap (λ (b : Record). b.number) f.answer),
  ap (λ (s : Reason). s.place) x.answer ∙ why_place kind chips room
      ∙ sym (ap (λ (b : Record). b.place) f.answer),
  λ z. x.answer ∙ why_is kind chips room
      ∙ good_zeros kind chips room (reading_of kind true (hard_recording chips) room)
      (sym (ap (λ (b : Record). b.number) f.answer) ∙ z),
)

shows : (kind : ℕ) (chips : List ℕ) (room : ℕ) {r : Reason} → Explains kind chips room r → Shows kind chips room r
shows kind chips room x = subst (Shows kind chips room) (sym x.answer) (why_shows kind chips room)

why_table : WhyTable
why_table kind chips room r x =
    let s = shows kind chips room x in
    (s.row, λ e f t. row_once kind chips room t s.row)

-- 13 of SIGNAL 0 and 15 of LENGTH 0 show 0 and 0
thirteen : {kind : ℕ} {chips : List ℕ} {room place e f : ℕ} → Table kind chips room 13 place e f
    → (place ≡ 0) × (e ≡ 0)
thirteen (row_13 h) = (refl, refl)

fifteen : {kind : ℕ} {chips : List ℕ} {room place e f : ℕ} → Table kind chips room 15 place e f → f ≡ 0
    → (place ≡ 0) × (e ≡ 0)
fifteen {e = e} (row_15 {rate = rate} {service = service} h w) z =
    (refl, wanted_none (subst (λ (l : ℕ). LengthWanted rate l (service / 128 % 2) e) z w))

why_differs : WhyDiffers
why_differs kind chips room r x =
    let s = shows kind chips room x in
    let Row : ℕ → Type 0 = λ n. Table kind chips room n r.place r.expected r.found in (
      s.apart,
      λ n z. let w = thirteen (subst Row n s.row) in
          subst Alike (λ i. reason (sym n i) (sym w.0 i) (sym w.1 i) (sym z i)) signal_0,
      λ n z. let w = fifteen (subst Row n s.row) z in
          subst Alike (λ i. reason (sym n i) (sym w.0 i) (sym w.1 i) (sym z i)) length_0,
    )

one_reason : OneReason
one_reason kind chips room r s x y = x.answer ∙ sym y.answer

pub kept : WhyPromised
kept = record {
  why_agrees = why_agrees;
  why_table = why_table;
  why_differs = why_differs;
  one_reason = one_reason;
}
