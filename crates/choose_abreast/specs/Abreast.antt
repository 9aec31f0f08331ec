-- Rows of bytes turned so that symbols stand abreast, entry by entry. Definitions only. Assumes nothing.
-- working notion: of the code that turns rows; no promise needs it
use Rattle.std.specs.Prelude.{ℕ, ◌+◌, ◌/◌, ◌%◌, ◌<◌, ◌≡◌, cond, List, eqb, length, get_or, ℤ, pos}

-- the first n bytes of a row are those from a place on
pub record Begins (bytes : List ℤ) (from n : ℕ) (row : List ℤ) : Type 0 where
  pub each : (j : ℕ) → j < n → get_or row j (pos 0) ≡ get_or bytes (from + j) (pos 0)

-- where the j-th of n bytes stood before the two halves were taken in turn
abbrev pub halved : ℕ → ℕ → ℕ
halved n j = cond (eqb (j % 2) 0) (j / 2) (n / 2 + j / 2)

pub record Merged (from to : List ℤ) : Type 0 where
  pub long : length to ≡ length from
  pub each : (j : ℕ) → j < length from → get_or to j (pos 0) ≡ get_or from (halved (length from) j) (pos 0)

-- where it stood four such steps before
abbrev pub turned_from : ℕ → ℕ → ℕ
turned_from n j = halved n (halved n (halved n (halved n j)))

pub record Turned (before after : List ℤ) : Type 0 where
  pub long : length after ≡ length before
  pub each : (j : ℕ) → j < length before → get_or after j (pos 0) ≡ get_or before (turned_from (length before) j) (pos 0)
