-- Lists of differences and their rows, computed from the definitions and compared with RULES 6.29.
-- Assumes nothing.
use mathlib.Core.Path.{◌≡◌, refl}
use mathlib.Core.List.{List, [], ◌∷◌}
use Prim.Native.Nat.{ℕ}
use lib.ListN.{length}
use Rattle.rules_reading.specs.Reading.{reading_of}
use Rattle.rules_compare.specs.declared.Compared.{Compared}
use Rattle.rules_compare.specs.Compared.{octet_list, compared_of}
use Rattle.rules_compare.specs.Differences.{differences_from, differences, entry_places, laid}

-- two rows of chips, the second one longer: they differ at 1 and at 3, and at 3 by an octet that is no chip
abbrev first : List ℕ
first = 0 ∷ 1 ∷ 2 ∷ 3 ∷ []

abbrev second : List ℕ
second = 0 ∷ 3 ∷ 2 ∷ 255 ∷ 1 ∷ 1 ∷ []

listed : entry_places (differences first second) ≡ 1 ∷ 1 ∷ 3 ∷ 3 ∷ 3 ∷ 255 ∷ []
unfolding differences_from entry_places
listed = refl

exchanged : entry_places (differences second first) ≡ 1 ∷ 3 ∷ 1 ∷ 3 ∷ 255 ∷ 3 ∷ []
unfolding differences_from entry_places
exchanged = refl

-- a row with two places more than are needed, with as many, and with one less
two_more : laid 8 (differences first second) ≡ 1 ∷ 1 ∷ 3 ∷ 3 ∷ 3 ∷ 255 ∷ 0 ∷ 0 ∷ []
unfolding differences_from entry_places laid
two_more = refl

just_fits : laid 6 (differences first second) ≡ 1 ∷ 1 ∷ 3 ∷ 3 ∷ 3 ∷ 255 ∷ []
unfolding differences_from entry_places laid
just_fits = refl

one_less : laid 5 (differences first second) ≡ 0 ∷ 0 ∷ 0 ∷ 0 ∷ 0 ∷ []
unfolding differences_from entry_places laid
one_less = refl

-- the number is that of the whole list, and a row may be empty
how_many_lem : length (differences first second) ≡ 2
unfolding differences_from
how_many_lem = refl

no_row : laid 0 (differences first second) ≡ []
unfolding differences_from entry_places laid
no_row = refl

-- a kind that is none: both records have 1, and the chips are counted
abbrev told : Compared → List ℕ
told c = c.a.number ∷ c.b.number ∷ c.chips ∷ c.octets ∷ c.n_a ∷ c.n_b ∷ []

no_kind : told (compared_of 2 first second 4 4) ≡ 1 ∷ 1 ∷ 2 ∷ 0 ∷ 0 ∷ 0 ∷ []
unfolding compared_of octet_list reading_of differences_from
no_kind = refl
