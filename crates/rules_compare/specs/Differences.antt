-- Two rows compared (RULES 6.29): the list of all indexes at which they differ, and what a list leaves in a row of
-- numbers. Chips and octets alike.
-- Definitions only. Assumes nothing.
use Rattle.std.specs.Prelude.{ℕ, suc, ◌-◌, ◌*◌, Bool, cond, not, List, [], ◌∷◌, ◌++◌, eqb, ltb, length, replicate}

-- an index, and what each row has there
pub record Difference : Type 0 where
  pub index : ℕ
  pub first : ℕ
  pub second : ℕ

-- of two rows that start at index `at`: where they differ, rising, as far as the shorter goes
unfoldable pub differences_from : ℕ → List ℕ → List ℕ → List Difference
differences_from at [] ys = []
differences_from at (x ∷ xs) [] = []
differences_from at (x ∷ xs) (y ∷ ys) =
    cond (eqb x y) (differences_from (suc at) xs ys)
    (record { index = at; first = x; second = y } ∷ differences_from (suc at) xs ys)

abbrev pub differences : List ℕ → List ℕ → List Difference
differences xs ys = differences_from 0 xs ys

-- three places an entry
unfoldable pub entry_places : List Difference → List ℕ
entry_places [] = []
entry_places (d ∷ ds) = d.index ∷ d.first ∷ d.second ∷ entry_places ds

-- a list fits into so many places
abbrev pub fits : ℕ → List Difference → Bool
fits places ds = not (ltb places (3 * length ds))

-- a row of so many places: the entries and then zeros where they fit, else only zeros
unfoldable pub laid : ℕ → List Difference → List ℕ
laid places ds =
    cond (fits places ds) (entry_places ds ++ replicate (places - 3 * length ds) 0)
    (replicate places 0)
