-- Laws of the totals of a list of readings, with one reading more.
--     total_more, total_most       one reading more in a total, and the most that a total comes to
--     closest_more                 one more behind the smallest lead so far
-- Assumes nothing.
use mathlib.Core.Path.{◌≡◌, refl, sym, ap, ◌∙◌}
use mathlib.Core.Bool.{Bool, true, false, cond}
use mathlib.Core.List.{List, [], ◌∷◌, ◌++◌, map}
use Rattle.std.specs.Prelude.{Option, None, Some}
use Prim.Native.Nat.{ℕ, suc, ◌+◌, ◌*◌, ◌≤◌, ◌<◌}
use native.Mathlib.Nat.{add-zero, mul-suc, mul-zero, add_assoc}
use native.Mathlib.Decide.{dec_lt}
use native.Mathlib.Omega.{arith}
use borrow.Author.Tests.{lt-ltb, le-ltb}
use lib.Dec.{ltb}
use lib.ListN.{length}
use Rattle.rules_report.specs.Totals.{
  Recording,
  Outcome,
  outcome_of,
  total,
  accepted,
  Closest,
  closer,
  closest_from,
}

-- ---- totals

pub total_more : (f : Outcome → ℕ) (os : List Outcome) (o : Outcome) → total f (os ++ (o ∷ [])) ≡ total f os + f o
unfolding total
total_more f [] o = omega arith
total_more f (p ∷ os) o = ap (λ (n : ℕ). f p + n) (total_more f os o) ∙ sym (add_assoc (f p) (total f os) (f o))

-- of recordings that each count for at most m
pub total_most : (f : Outcome → ℕ) (m : ℕ) → ((r : Recording) → f (outcome_of r) ≤ m) → (rs : List Recording)
    → total f (map outcome_of rs) ≤ m * length rs
unfolding total
total_most f m h [] = rw mul-zero (omega arith)
total_most f m h (r ∷ rs) = rw (mul-suc m (length rs)) (omega (arith, h r, total_most f m h rs))

-- ---- the smallest lead

-- one reading more, behind the smallest so far: its lead is taken if it is smaller
abbrev pub nearest : ℕ → ℕ → Option Closest → Closest
nearest lead at None = record { lead = lead; recording = at }
nearest lead at (Some c) = cond (ltb lead c.lead) (record { lead = lead; recording = at }) c

abbrev pub behind : Bool → ℕ → ℕ → Option Closest → Option Closest
behind good lead at c = cond good (Some (nearest lead at c)) c

closer_behind : (a i l j : ℕ) (c : Option Closest)
    → closer a i (Some (nearest l j c)) ≡ nearest l j (Some (closer a i c))
closer_behind a i l j None = refl
closer_behind a i l j (Some c) = by (dec_lt l c.lead) (dec_lt c.lead a) (dec_lt l a)
  where
    by : Dec (l < c.lead) → Dec (c.lead < a) → Dec (l < a)
        → closer a i (Some (nearest l j (Some c))) ≡ nearest l j (Some (closer a i (Some c)))
    by (yes p) (yes q) d = simp (lt-ltb l c.lead p, lt-ltb c.lead a q, lt-ltb l a (omega arith))
    by (yes p) (no q) d = simp (lt-ltb l c.lead p, le-ltb c.lead a (omega arith))
    by (no p) (yes q) d = simp (le-ltb l c.lead (omega arith), lt-ltb c.lead a q)
    by (no p) (no q) d =
        simp (le-ltb l c.lead (omega arith), le-ltb c.lead a (omega arith), le-ltb l a (omega arith))

pub closest_more : (at : ℕ) (os : List Outcome) (o : Outcome)
    → closest_from at (os ++ (o ∷ [])) ≡ behind (accepted o) o.answer.lead (at + length os) (closest_from at os)
unfolding closest_from
closest_more at [] o = rw add-zero
closest_more at (p ∷ os) o =
    ap (λ (c : Option Closest). cond (accepted p) (Some (closer p.answer.lead at c)) c) (closest_more (suc at) os o)
    ∙ by (accepted p) (accepted o) (suc at + length os) (at + suc (length os)) (next (length os))
    (closest_from (suc at) os)
  where
    next : (n : ℕ) → suc at + n ≡ at + suc n
    next n = omega arith

    by : (s t : Bool) (i j : ℕ) → i ≡ j → (c : Option Closest)
        → cond s (Some (closer p.answer.lead at (behind t o.answer.lead i c))) (behind t o.answer.lead i c)
        ≡ behind t o.answer.lead j (cond s (Some (closer p.answer.lead at c)) c)
    by true true i j e c = rw (← e) (ap Some (closer_behind p.answer.lead at o.answer.lead i c))
    by true false i j e c = refl
    by false true i j e c = rw e
    by false false i j e c = refl
