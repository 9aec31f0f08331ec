-- What a column has so far, and the groups of a row of columns, as whole numbers.
-- Definitions only. Assumes nothing.
-- working notion: of the search; no promise needs it
use Rattle.std.specs.Prelude.{List, ℕ, ℤ, map}
use Rattle.choose_walsh.specs.Search.{Held, held, group_of}
use Rattle.choose_search.specs.declared.groups.Best.{Best}

abbrev pub told : {N : Type 0} → (N → ℤ) → Best N → Held
told value b = held (value b.first) (value b.second) (group_of (value b.group))

abbrev pub groups : {N : Type 0} → (N → ℤ) → List N → List ℕ
groups value at = map (λ g. group_of (value g)) at
