-- A symbol's chips as each recorder gathers them, once for both lengths of a symbol: they count as the recording's do,
-- and where the recording's are usable they are usable chips of their recorder.
-- Assumes nothing.
use mathlib.Core.Path.{◌≡◌, sym, ap, ◌∙◌, subst}
use mathlib.Core.Bool.{Bool, true, false, not, cond}
use mathlib.Core.List.{List, map}
use Prim.Native.Nat.{ℕ, ◌+◌, ◌≤◌}
use native.Mathlib.Omega.{arith}
use lib.Dec.{T, eqb}
use lib.ListN.{length, get_or, take, drop}
use lib.Ieee.{Float, nan}
use Rattle.base.proofs.Tables.{get_or_tabulate}
use Rattle.rules_chips.specs.declared.Chip.TheVariants.{Lost, Hard, Soft}
use Rattle.rules_chips.specs.Chips.{
  usable_sample,
  counts_of,
  unusable,
  taken_counts,
  hard_chip,
  hard_recording,
  soft_recording,
}
use Rattle.choose_axes.specs.Axes.{is_hard, AllSoft, AllHard}
use Rattle.rules_chips.proofs.Recorders.{sample, taken_soft, length_soft, get_or_soft, part_taken, part_hard}
use Rattle.choose_recorded.specs.Recorded.{hard_part, soft_part, AllUsable}
use Rattle.rules_chips.proofs.Usable.{soft_at}

-- ---- the counts
pub gathered_hard : (n : ℕ) (xs : List ℕ) (at : ℕ) → at + n ≤ length xs
    → map counts_of (hard_part xs at n) ≡ map taken_counts (take n (drop at (hard_recording xs)))
gathered_hard n xs at h = sym (part_hard xs at n h)

pub gathered_soft : (n : ℕ) (xs ys : List Float) (at : ℕ) → (at + n ≤ length xs) × (at + n ≤ length ys)
    → map counts_of (soft_part xs ys at n) ≡ map taken_counts (take n (drop at (soft_recording xs ys)))
gathered_soft n xs ys at h =
    sym
    (part_taken (soft_recording xs ys) (λ k. Soft (sample (get_or xs k nan) (get_or ys k nan))) at n
    (omega (arith, length_soft xs ys))
    (λ k l. ap taken_counts
    (get_or_soft xs ys k unusable nan nan (omega (arith, length_soft xs ys)) (omega (arith, length_soft xs ys)))
    ∙ taken_soft (get_or xs k nan) (get_or ys k nan)))

-- ---- of their recorder
pub all_hard : (n : ℕ) (xs : List ℕ) (at : ℕ) → AllHard n (hard_part xs at n)
all_hard n xs at = record {
  at = λ k l. rw (get_or_tabulate (λ j. hard_chip (get_or xs (at + j) 0)) n k Lost l) (hard_one (get_or xs (at + k) 0));
}
  where
    hard_one : (x : ℕ) → T (is_hard (hard_chip x))
    hard_one x = by (eqb x 4)
      where
        by : (b : Bool) → T (is_hard (cond b Lost (Hard x)))
        by true = tt
        by false = tt

is_true : (b : Bool) → not b ≡ false → T b
is_true true e = tt
is_true false e = subst T e tt

pub usable_soft : (n : ℕ) (xs ys : List Float) (at : ℕ) → (at + n ≤ length xs) × (at + n ≤ length ys)
    → AllUsable (soft_recording xs ys) at n → AllSoft n (soft_part xs ys at n)
usable_soft n xs ys at h u = record {
  at = λ k l. rw (get_or_tabulate (λ j. Soft (sample (get_or xs (at + j) nan) (get_or ys (at + j) nan))) n k Lost l)
      (is_true (usable_sample (sample (get_or xs (at + k) nan) (get_or ys (at + k) nan)))
      (sym (soft_at xs ys (at + k) (omega arith) (omega arith)) ∙ u.each k l));
}
