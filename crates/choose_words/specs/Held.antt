-- The two largest of some keys, in whatever numbers hold them. Definitions only. Assumes nothing.
-- working notion: of the code that chooses words; no promise needs it
use Rattle.std.specs.Prelude.{ℕ}
use Rattle.rules_choosing.specs.Keys.{TwoLargest}

-- first and second hold the two largest of the keys from a to before b
pub record HeldTwo {K : Type 0} (holds : K → ℕ → Type 0) (k : ℕ → ℕ) (a b : ℕ) (first second : K) : Type 0 where
  pub x : ℕ
  pub y : ℕ
  pub is_x : holds first x
  pub is_y : holds second y
  pub two : TwoLargest k a b x y
