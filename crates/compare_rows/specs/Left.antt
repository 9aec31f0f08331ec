-- Two rows compared from an index on: what is left to list there, and what a part of it adds to a count and to a row.
-- Definitions only. Assumes nothing.
-- working notion: of the loops that count and list; no promise needs it
use Rattle.std.specs.Prelude.{◌≡◌, List, ◌++◌, ℕ, ◌+◌, ◌*◌, ◌≤◌, length, take, drop}
use Rattle.rules_compare.specs.Differences.{Difference, differences_from, entry_places}

-- the differences from index i on, and how many these are
abbrev pub left : List ℕ → List ℕ → ℕ → List Difference
left xs ys i = differences_from i (drop i xs) (drop i ys)

abbrev pub left_over : List ℕ → List ℕ → ℕ → ℕ
left_over xs ys i = length (left xs ys i)

-- m differences are those from index i up to index j
abbrev pub Between : List ℕ → List ℕ → ℕ → ℕ → ℕ → Type 0
Between xs ys i j m = m + left_over xs ys j ≡ left_over xs ys i

-- a row has room behind place p for the entries from index i up to index j
abbrev pub RoomFor : List ℕ → List ℕ → ℕ → ℕ → ℕ → List ℕ → Type 0
RoomFor xs ys i j p d = p + 3 * left_over xs ys i ≤ length d + 3 * left_over xs ys j

-- a row d with the entries from index i up to index j put at place p is a row e, in which they end at place q
pub record Put (xs ys : List ℕ) (i j : ℕ) (d : List ℕ) (p : ℕ) (e : List ℕ) (q : ℕ) : Type 0 where
  pub long : length e ≡ length d
  pub room : q + 3 * left_over xs ys j ≡ p + 3 * left_over xs ys i
  pub front : take q e ++ entry_places (left xs ys j) ≡ take p d ++ entry_places (left xs ys i)
