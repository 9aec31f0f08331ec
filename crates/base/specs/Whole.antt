-- Whole numbers of any sign as a difference of two naturals, and bounds on them. Definitions only. Assumes nothing.
use Rattle.std.specs.Prelude.{ℕ, suc, ◌+◌, ◌≤◌, ℤ, pos, negsuc}

-- z is up z - dn z
unfoldable pub up : ℤ → ℕ
up (pos n) = n
up (negsuc n) = 0

unfoldable pub dn : ℤ → ℕ
dn (pos n) = 0
dn (negsuc n) = suc n

-- z is from -b to b
pub record Within (b : ℕ) (z : ℤ) : Type 0 where
  pub high : up z ≤ b + dn z
  pub low : dn z ≤ b + up z
