-- Rows whose elements are all below a number. Definitions only. Assumes nothing.
use Rattle.std.specs.Prelude.{List, ℕ, ◌<◌, get_or}

-- every element is below n, and so is the 0 that stands for one past the end
pub record Below (n : ℕ) (xs : List ℕ) : Type 0 where
  pub at : (i : ℕ) → get_or xs i 0 < n
