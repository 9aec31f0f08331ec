-- What the smallest lead of a list of readings is: the smallest of the frames accepted, and the first that has it.
-- By induction over the list, recordings being counted from any number on. Assumes nothing.
use mathlib.Core.Path.{◌≡◌, refl, sym, ◌∙◌, subst}
use mathlib.Core.Bool.{Bool, true, false, cond}
use mathlib.Core.List.{List, [], ◌∷◌}
use Rattle.std.specs.Prelude.{Option, None, Some}
use Prim.Native.Nat.{ℕ, zero, suc, ◌+◌, ◌≤◌, ◌<◌}
use native.Mathlib.Nat.{add-zero, zero-add, not-suc-le-zero, le_of_suc-le-suc}
use native.Mathlib.Decide.{dec_lt}
use native.Mathlib.Omega.{arith}
use borrow.Author.Tests.{lt-ltb, le-ltb, eqb-true, eq-eqb}
use lib.Dec.{T}
use Rattle.rules_report.specs.Totals.{Outcome, accepted, Closest, closer, closest_from}
use Rattle.rules_report.specs.Report.{is_there, lead_told, recording_told}
use Rattle.promises_report.specs.Promises.{FrameAt, LeadTold, no_frame, smallest}

-- ---- frames of a list and of its end

ended : {o : Outcome} {os : List Outcome} {j lead : ℕ} → FrameAt (o ∷ os) (suc j) lead → FrameAt os j lead
ended f = record { there = le_of_suc-le-suc f.there; good = f.good; lead_is = f.lead_is }

begun : {o : Outcome} {os : List Outcome} {j lead : ℕ} → FrameAt os j lead → FrameAt (o ∷ os) (suc j) lead
begun f = record { there = omega (arith, f.there); good = f.good; lead_is = f.lead_is }

-- ---- what is told, recordings being counted from `at`

record Led (at : ℕ) (os : List Outcome) (c : Closest) : Type 0 where
  i : ℕ
  recording_is : c.recording ≡ at + i
  frame : FrameAt os i c.lead
  low : (j other : ℕ) → FrameAt os j other → c.lead ≤ other
  first : (j other : ℕ) → FrameAt os j other → j < i → c.lead < other

abbrev LedIf : ℕ → List Outcome → Option Closest → Type 0
LedIf at os None = (j lead : ℕ) → FrameAt os j lead → ⊥
LedIf at os (Some c) = Led at os c

module _ (at : ℕ) (o : Outcome) (os : List Outcome) where
  -- this one: it has the smallest lead
  here : o.answer.number ≡ 0 → ((j other : ℕ) → FrameAt os j other → o.answer.lead ≤ other)
      → Led at (o ∷ os) (record { lead = o.answer.lead; recording = at })
  here z h = record {
    i = 0;
    recording_is = sym (add-zero at);
    frame = record { there = omega arith; good = z; lead_is = refl };
    low = low_is;
    first = λ j other f l. absurd (not-suc-le-zero l);
  }
    where
      low_is : (j other : ℕ) → FrameAt (o ∷ os) j other → o.answer.lead ≤ other
      low_is zero other f = omega (arith, f.lead_is)
      low_is (suc j) other f = h j other (ended f)

  -- one of those behind it, which has a smaller lead if this one is accepted
  later : (c : Closest) → (o.answer.number ≡ 0 → c.lead < o.answer.lead) → Led (suc at) os c → Led at (o ∷ os) c
  later c h l = record {
    i = suc l.i;
    recording_is = l.recording_is ∙ next l.i;
    frame = begun l.frame;
    low = low_is;
    first = first_is;
  }
    where
      next : (n : ℕ) → suc at + n ≡ at + suc n
      next n = omega arith

      low_is : (j other : ℕ) → FrameAt (o ∷ os) j other → c.lead ≤ other
      low_is zero other f = omega (arith, f.lead_is, h f.good)
      low_is (suc j) other f = l.low j other (ended f)

      first_is : (j other : ℕ) → FrameAt (o ∷ os) j other → j < suc l.i → c.lead < other
      first_is zero other f b = omega (arith, f.lead_is, h f.good)
      first_is (suc j) other f b = l.first j other (ended f) (le_of_suc-le-suc b)

  accepted_one : o.answer.number ≡ 0 → (c : Option Closest) → LedIf (suc at) os c
      → Led at (o ∷ os) (closer o.answer.lead at c)
  accepted_one z None h = here z (λ j other f. absurd (h j other f))
  accepted_one z (Some c) h = by (dec_lt c.lead o.answer.lead)
    where
      by : Dec (c.lead < o.answer.lead) → Led at (o ∷ os) (closer o.answer.lead at (Some c))
      by (yes p) = rw (lt-ltb c.lead o.answer.lead p) (later c (λ z. p) h)
      by (no q) =
          rw (le-ltb c.lead o.answer.lead (omega arith)) (here z (λ j other f. omega (arith, h.low j other f)))

  refused_one : (o.answer.number ≡ 0 → ⊥) → (c : Option Closest) → LedIf (suc at) os c → LedIf at (o ∷ os) c
  refused_one n None h = none_is
    where
      none_is : (j lead : ℕ) → FrameAt (o ∷ os) j lead → ⊥
      none_is zero lead f = n f.good
      none_is (suc j) lead f = h j lead (ended f)
  refused_one n (Some c) h = later c (λ z. absurd (n z)) h

closest_is : (at : ℕ) (os : List Outcome) → LedIf at os (closest_from at os)
unfolding closest_from
closest_is at [] = λ j lead f. not-suc-le-zero f.there
closest_is at (o ∷ os) = by (accepted o) refl (closest_from (suc at) os) (closest_is (suc at) os)
  where
    by : (t : Bool) → accepted o ≡ t → (c : Option Closest) → LedIf (suc at) os c
        → LedIf at (o ∷ os) (cond t (Some (closer o.answer.lead at c)) c)
    by true e c h = accepted_one at o os (eqb-true o.answer.number 0 e) c h
    by false e c h =
        refused_one at o os (λ z. subst T (sym (eq-eqb o.answer.number 0 z) ∙ e) tt) c h

-- ---- counted from 0
pub lead_told_lem : (os : List Outcome)
    → LeadTold os (is_there (closest_from 0 os)) (lead_told (closest_from 0 os)) (recording_told (closest_from 0 os))
lead_told_lem os = by (closest_from 0 os) (closest_is 0 os)
  where
    by : (c : Option Closest) → LedIf 0 os c → LeadTold os (is_there c) (lead_told c) (recording_told c)
    by None h = no_frame h
    by (Some c) h =
        let e : h.i ≡ c.recording = sym (h.recording_is ∙ zero-add h.i) in
        smallest c.lead c.recording (subst (λ (n : ℕ). FrameAt os n c.lead) e h.frame) h.low
        (λ j other f l. h.first j other f (omega (arith, e)))
