-- The scrambler: one run over every bit of the frame, and the run that undoes it (RULES 5.5 to 5.7).
-- `past` is the outputs so far, last first. Definitions only. Assumes nothing.
use Rattle.std.specs.Prelude.{ℕ, List, [], ◌∷◌, get_or}
use Rattle.rules_bits.specs.Bits.{◌⊕◌}

-- output = bit xor the output 4 back xor the output 7 back
unfoldable pub mixed : List ℕ → ℕ → ℕ
mixed past b = b ⊕ get_or past 3 0 ⊕ get_or past 6 0

unfoldable pub scramble : List ℕ → List ℕ → List ℕ
scramble past [] = []
scramble past (b ∷ bs) = mixed past b ∷ scramble (mixed past b ∷ past) bs

-- reading undoes it likewise: here the outputs are what was received
unfoldable pub descramble : List ℕ → List ℕ → List ℕ
descramble past [] = []
descramble past (o ∷ os) = mixed past o ∷ descramble (o ∷ past) os
