-- Symbols as columns of a row of sixteen abreast: of chip k, the sixteen I stand from 32 k on and the sixteen Q from
-- 32 k + 16 on, and column l is symbol l.
-- Definitions only. Assumes nothing.
-- working notion: of the code that chooses words; no promise needs it
use Rattle.std.specs.Prelude.{◌≡◌, List, ℕ, ◌+◌, ◌*◌, ◌%◌, ◌<◌, length, get_or, ℤ, Float}
use Rattle.choose_axes.specs.declared.Axis.{Axis}
use Rattle.choose_axes.specs.Axes.{counts_along, units_along}
use Rattle.choose_sums.specs.Sums.{every_row}
use Rattle.choose_recorded.specs.Recorded.{hard_part, soft_part}

-- the first n chips of column l are the numbers x of I and y of Q; the other columns of after are those of before
pub record ColumnSet {A : Type 0} (d : A) (x y : List A) (l : ℕ) (before : List A) (n : ℕ) (after : List A) : Type 0 where
  pub long : length after ≡ length before
  pub first : (k : ℕ) → k < n → get_or after (l + 32 * k) d ≡ get_or x k d
  pub second : (k : ℕ) → k < n → get_or after (16 + l + 32 * k) d ≡ get_or y k d
  pub kept : (j : ℕ) → (j % 16 ≡ l → ⊥) → get_or after j d ≡ get_or before j d

-- the first n columns of a row are symbols' numbers of I and of Q; of the others nothing is said
pub record Columns (x y : ℕ → List ℤ) (row : List ℤ) (n : ℕ) : Type 0 where
  pub long : length row ≡ 256
  pub first : (s : ℕ) → s < n → every_row row s 8 ≡ x s
  pub second : (s : ℕ) → s < n → every_row row (16 + s) 8 ≡ y s

-- on one axis, symbol s of eight chips each from a place on: of hard chips in full chips, of soft ones in counts
abbrev pub hard_column : Axis → List ℕ → ℕ → ℕ → List ℤ
hard_column x octets at s = units_along x (hard_part octets (at + 8 * s) 8)

abbrev pub soft_column : Axis → List Float → List Float → ℕ → ℕ → List ℤ
soft_column x i q at s = counts_along x (soft_part i q (at + 8 * s) 8)
