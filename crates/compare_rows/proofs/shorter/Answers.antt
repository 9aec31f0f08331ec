-- Where one of the rows ends nothing is left, and not more than it has elements are listed. Assumes nothing.
use Rattle.std.proofs.Common.{◌≡◌, ◌≤◌, ℕ, List, length, min, ap, subst, rules, arith}
use mathlib.Core.Logic.{inl, inr}
use native.Mathlib.Decide.{dec_le}
use native.Mathlib.Nat.{le_refl}
use Rattle.rules_compare.specs.Differences.{differences}
use Rattle.rules_compare.proofs.Entries.{left_ended}
use Rattle.rules_compare.proofs.Pairs.{fewest}
use Rattle.compare_rows.specs.Left.{left_over}
use Rattle.compare_rows.proofs.shorter.Goals as goal

abbrev Ends : List ℕ → List ℕ → ℕ → Type 0
Ends a b n =
    (n ≤ length a) × (n ≤ length b) × (left_over a b n ≡ 0) × (length (differences a b) ≤ n)

ends : (a b : List ℕ) (n : ℕ) → n ≡ min (length a) (length b) → Ends a b n
ends a b n e = by (dec_le (length a) (length b))
  where
    by : Dec (length a ≤ length b) → Ends a b n
    by (yes h) =
        subst (Ends a b) {x = length a} (omega arith)
        (le_refl _, h, ap length (left_ended a b (length a) (inl (le_refl _))), (fewest a b).0)
    by (no h) =
        subst (Ends a b) {x = length b} (omega arith)
        (omega arith, le_refl _, ap length (left_ended a b (length b) (inr (le_refl _))), (fewest a b).1)

pub returns : goal.returns
returns c = record { answer = ends c.args.a.now c.args.b.now _ (search rules) }
