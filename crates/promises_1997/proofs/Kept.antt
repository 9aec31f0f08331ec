-- What is promised of the call that reads as the guides of 1997 do is kept, by every program that meets its contract.
-- Assumes nothing.
use mathlib.Core.Path.{◌≡◌, sym, ap, ◌∙◌, subst}
use mathlib.Core.List.{List}
use Prim.Native.Nat.{ℕ, ◌-◌}
use lib.ListN.{length, drop, replicate}
use Rattle.rules_chips.specs.Chips.{Taken, hard_recording}
use Rattle.rules_frame.specs.declared.Kind.TheVariants.{Long}
use Rattle.rules_calls.specs.declared.Record.{Record}
use Rattle.rules_calls.specs.Answers.{record_of}
use Rattle.rules_calls.specs.Headers.{of1997}
use Rattle.rules_reading.specs.Reading.{front_by, whole_of}
use Rattle.rules_reading.specs.Guides.{reading1997, octets1997}
use Rattle.rules_reading.proofs.Buffers.{after_fits, filled_octets}
use Rattle.promises_1997.specs.Calls.{Read1997}
use Rattle.promises_1997.specs.Promises.{Fills1997, OneAnswer1997, GuidesPromised}
use Rattle.promises_1997.proofs.Beside.{beside_ours, accepted_ours}
use Rattle.promises_1997.proofs.Exactly.{numbers, answers_1997}
use Rattle.promises_1997.proofs.SentTo.{sent_1997, begun_1997}

filled : (rec : List Taken) (room : ℕ)
    → (length (octets1997 rec room) ≡ room)
    × (((record_of (reading1997 rec room)).number ≡ 0 → ⊥) → octets1997 rec room ≡ replicate room 0)
    × ((record_of (reading1997 rec room)).number ≡ 0
    → drop (record_of (reading1997 rec room)).n (octets1997 rec room)
    ≡ replicate (room - (record_of (reading1997 rec room)).n) 0)
unfolding reading1997 octets1997
filled rec room =
    filled_octets Long rec room (reading1997 rec room)
    (after_fits Long rec room (whole_of Long rec (front_by of1997 Long rec)))

fills_1997 : Fills1997
fills_1997 chips room a left f =
    let rec = hard_recording chips in
    let w = filled rec room in
    let same = sym f.answer in (
      ap length f.octets ∙ w.0,
      (λ z. let n = numbers chips room a left f z in
          (f.octets ∙ w.1 (λ e. z (f_number f ∙ e)), n.0, n.1)),
      λ z. subst (λ (v : Record). drop v.n left ≡ replicate (room - v.n) 0) same
          (ap (drop (record_of (reading1997 rec room)).n) f.octets ∙ w.2 (sym (f_number f) ∙ z)),
    )
  where
    f_number : {chips : List ℕ} {room : ℕ} {a : Record} {left : List ℕ} → Read1997 chips room a left
        → a.number ≡ (record_of (reading1997 (hard_recording chips) room)).number
    f_number f = ap (λ (v : Record). v.number) f.answer

one_answer_1997 : OneAnswer1997
one_answer_1997 chips room a b left kept f g = (f.answer ∙ sym g.answer, f.octets ∙ sym g.octets)

pub kept : GuidesPromised
kept = record {
  fills_1997 = fills_1997;
  answers_1997 = answers_1997;
  beside_ours = beside_ours;
  accepted_ours = accepted_ours;
  sent_1997 = sent_1997;
  begun_1997 = begun_1997;
  one_answer_1997 = one_answer_1997;
}
