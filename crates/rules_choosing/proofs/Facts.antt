-- What lost chips are decided as: they score 0 with every word, so the smallest allowed number wins; and the larger and
-- the smaller of two. Computed from the definitions. Assumes nothing.
use mathlib.Core.Path.{◌≡◌, refl}
use mathlib.Core.List.{[], ◌∷◌, map}
use lib.ListN.{replicate}
use lib.IntN.{pos, neg_ℤ}
use Rattle.rules_rates.specs.declared.Rate.TheVariants.{Eleven}
use Rattle.rules_chips.specs.declared.Chip.TheVariants.{Lost}
use Rattle.rules_chips.specs.Chips.{counts_of}
use Rattle.rules_symbols.specs.Words.{cck_word}
use Rattle.rules_symbols.specs.Choice.{score, those, going, first_largest, decided}
use Rattle.rules_choosing.specs.Keys.{larger, smaller, bigger, lesser}

-- eight lost chips at 11 Mbit/s are word 0
pub lost_eleven : decided Eleven (map counts_of (replicate 8 Lost)) ≡ 0
unfolding cck_word score those going first_largest decided
lost_eleven = refl

-- of whole numbers and of keys, in either order
pub of_two :
    (larger (pos 3) (neg_ℤ (pos 5)) ∷ larger (neg_ℤ (pos 5)) (pos 3) ∷ smaller (pos 3) (neg_ℤ (pos 5))
    ∷ smaller (neg_ℤ (pos 5)) (pos 3) ∷ []
    ≡ pos 3 ∷ pos 3 ∷ neg_ℤ (pos 5) ∷ neg_ℤ (pos 5) ∷ [])
    × (bigger 3 5 ∷ bigger 5 3 ∷ lesser 3 5 ∷ lesser 5 3 ∷ [] ≡ 5 ∷ 5 ∷ 3 ∷ 3 ∷ [])
of_two = (refl, refl)
