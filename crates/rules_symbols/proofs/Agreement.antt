-- How two words stand to each other, chip by chip: the same, a half turn apart, or a quarter turn apart; and how far
-- the words of a rate are from each other.
-- Working notions of the laws of clean words: no promise needs them. Assumes nothing.
use Prim.Native.Nat.{ℕ, ◌+◌}
use mathlib.Core.Bool.{Bool, cond}
use mathlib.Core.List.{List, [], ◌∷◌, map}
use lib.Dec.{eqb}
use Rattle.rules_rates.specs.declared.Rate.{Rate}
use Rattle.rules_rates.specs.declared.Rate.TheVariants.{One, Two, Five, Eleven}
use Rattle.rules_chips.specs.declared.Counts.{Counts}
use Rattle.rules_chips.specs.Chips.{turned, full_chip}

abbrev pub one : Bool → ℕ
one b = cond b 1 0

-- at how many chips two words agree
unfoldable pub agreeing : List ℕ → List ℕ → ℕ
agreeing [] w = 0
agreeing (p ∷ v) [] = 0
agreeing (p ∷ v) (q ∷ w) = one (eqb p q) + agreeing v w

-- at how many they are a half turn apart
unfoldable pub opposed : List ℕ → List ℕ → ℕ
opposed [] w = 0
opposed (p ∷ v) [] = 0
opposed (p ∷ v) (q ∷ w) = one (eqb (turned p 2) q) + opposed v w

-- the counts of a word whose chips are all full and right
abbrev pub clean : ℕ → List ℕ → List Counts
clean full w = map (full_chip full) w

-- the lead of a symbol whose chips are all full and right, in full chips: no other Barker or 5.5 Mbit/s word scores
-- more than 0 against it, but at 11 Mbit/s one scores 4 of 8
abbrev pub clean_lead : Rate → ℕ
clean_lead One = 11
clean_lead Two = 11
clean_lead Five = 8
clean_lead Eleven = 4
