-- Sizes that a front tells: at most 4,095 octets, refusal 15 having refused all others; the numbers that a front is
-- refused with; and refusal 16, whether the recording has the frame's chips. Assumes nothing.
use Rattle.std.specs.Prelude.{Result, Ok, Err}
use mathlib.Core.Path.{◌≡◌, sym, subst, ◌∙◌}
use mathlib.Core.List.{List}
use Prim.Native.Nat.{ℕ, ◌≤◌}
use native.Mathlib.Omega.{arith}
use lib.ListN.{length}
use borrow.Author.Tests.{le-ltb}
use Rattle.rules_chips.specs.Chips.{Taken}
use Rattle.rules_frame.specs.declared.Kind.{Kind}
use Rattle.rules_calls.specs.declared.Refusal.{Refusal}
use Rattle.rules_calls.specs.declared.Told.{Told}
use Rattle.rules_frame.specs.Frame.{frame_chips}
use Rattle.rules_calls.specs.Answers.{refusal_number}
use Rattle.rules_calls.specs.Headers.{Accepted, header_of}
use Rattle.rules_calls.proofs.Accepting.{
  FieldsCome,
  signal_out,
  service_out,
  length_out,
  fields_told,
  signal_in,
  service_in,
  length_in,
  HeaderComes,
  sfd_other,
  crc_other,
  fields_behind,
  header_comes,
}
use Rattle.rules_reading.specs.Reading.{front_by, whole_of}
use Rattle.rules_reading.proofs.Readers.{front_few}
use Rattle.read_fronts.specs.Openings.{Opens, OpensWhole}
use Rattle.read_fronts.specs.declared.Opening.{Opening}

-- ---- at most 4,095 octets

told_not : (A : Type 0) (e : Refusal) (t : Told) → Err e ≡ Ok t → A
told_not A e t w = let z : ◌≡◌ {A = ℕ} 0 1 = cc in absurd (omega arith)

pub header_few : (accepted : Accepted) (k : Kind) (sfd header : List ℕ) (t : Told)
    → header_of accepted k sfd header ≡ Ok t → t.n ≤ 4095
header_few accepted k sfd header t e = by (header_comes accepted k sfd header) e
  where
    fields : {f : Result Told Refusal} → FieldsCome accepted k (signal_in accepted k sfd header) (service_in accepted k sfd header)
        (length_in accepted k sfd header) f → f ≡ Ok t → t.n ≤ 4095
    fields (signal_out a) w = told_not _ _ t w
    fields (service_out a b) w = told_not _ _ t w
    fields (length_out a b c) w = told_not _ _ t w
    fields (fields_told u h) w = let z : u ≡ t = cc in subst (λ (v : Told). v.n ≤ 4095) z h.few

    by : {f : Result Told Refusal} → HeaderComes accepted k sfd header f → f ≡ Ok t → t.n ≤ 4095
    by (sfd_other a) w = told_not _ _ t w
    by (crc_other a b) w = told_not _ _ t w
    by (fields_behind a b f) w = fields f w

-- ---- 10 to 15

abbrev pub Late : Refusal → Type 0
Late e = (10 ≤ refusal_number e) × (refusal_number e ≤ 15)

refused_same : (d e : Refusal) → Late d → ◌≡◌ {A = Result Told Refusal} (Err d) (Err e) → Late e
refused_same d e h w = let z : d ≡ e = cc in subst Late z h

pub header_late : (accepted : Accepted) (k : Kind) (sfd header : List ℕ) (e : Refusal)
    → header_of accepted k sfd header ≡ Err e → Late e
header_late accepted k sfd header e w = by (header_comes accepted k sfd header) w
  where
    fields : {f : Result Told Refusal} → FieldsCome accepted k (signal_in accepted k sfd header) (service_in accepted k sfd header)
        (length_in accepted k sfd header) f → f ≡ Err e → Late e
    fields (signal_out a) v = refused_same _ e (omega arith, omega arith) v
    fields (service_out a b) v = refused_same _ e (omega arith, omega arith) v
    fields (length_out a b c) v = refused_same _ e (omega arith, omega arith) v
    fields (fields_told u h) v = told_not _ e u (sym v)

    by : {f : Result Told Refusal} → HeaderComes accepted k sfd header f → f ≡ Err e → Late e
    by (sfd_other a) v = refused_same _ e (omega arith, omega arith) v
    by (crc_other a b) v = refused_same _ e (omega arith, omega arith) v
    by (fields_behind a b f) v = fields f v

-- ---- 16

-- an opening that refuses needs neither line nor lead nor sizes
opens_none : (accepted : Accepted) (k : Kind) (rec : List Taken) (o : Opening) (e : Refusal) → o.front ≡ Err e
    → whole_of k rec (front_by accepted k rec) ≡ Err e → OpensWhole accepted k rec o
opens_none accepted k rec o e p q =
    let none : (A : Type 0) (t : Told) → o.front ≡ Ok t → A =
    λ A t w. let z : ◌≡◌ {A = ℕ} 0 1 = cc in absurd (omega arith) in
    record {
      told = p ∙ sym q;
      line = λ t. none _ t;
      least = λ t. none _ t;
      few = λ t. none _ t;
      chips = λ t. none _ t;
    }

module _ (accepted : Accepted) (k : Kind) (rec : List Taken) (a : Opening) (x : Opens k rec (front_by accepted k rec) a)
  where
    module _ (t : Told) (f : a.front ≡ Ok t) where
      pub whole_few : t.n ≤ 4095
      whole_few = front_few accepted k rec t (sym x.told ∙ f)

      pub whole_kept : frame_chips k t.rate t.n ≤ length rec → OpensWhole accepted k rec a
      whole_kept h = record {
        told = f ∙ sym (rw (← x.told, f, le-ltb (length rec) (frame_chips k t.rate t.n) h));
        line = x.line;
        least = x.least;
        few = λ u w. let e : t ≡ u = cc in subst (λ (v : Told). v.n ≤ 4095) e whole_few;
        chips = λ u w. let e : t ≡ u = cc in subst (λ (v : Told). frame_chips k v.rate v.n ≤ length rec) e h;
      }
