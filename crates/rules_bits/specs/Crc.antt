-- The CRC (RULES 5.13): x^16 + x^12 + x^5 + 1, register preset to ones, over the header bits in sending order,
-- remainder complemented, highest term sent first. The register is sixteen bits, highest term first; the CRC as a
-- number is `highest_first` of its bits (Bits.antt).
-- Definitions only. Assumes nothing.
use Rattle.std.specs.Prelude.{ℕ, zero, suc, List, [], ◌∷◌, ◌++◌, map, get_or, drop, replicate}
use Rattle.rules_bits.specs.Bits.{◌⊕◌}

-- the terms of x^12 + x^5 + 1, x^15 first; x^16 is the one that leaves the register
abbrev pub polynomial : List ℕ
polynomial = 0 ∷ 0 ∷ 0 ∷ 1 ∷ 0 ∷ 0 ∷ 0 ∷ 0 ∷ 0 ∷ 0 ∷ 1 ∷ 0 ∷ 0 ∷ 0 ∷ 0 ∷ 1 ∷ []

-- the bit f added wherever the polynomial has a term
unfoldable pub add_where : ℕ → List ℕ → List ℕ → List ℕ
add_where f register [] = []
add_where f [] (t ∷ ts) = []
add_where f (x ∷ xs) (zero ∷ ts) = x ∷ add_where f xs ts
add_where f (x ∷ xs) (suc t ∷ ts) = (x ⊕ f) ∷ add_where f xs ts

-- the register moves up by one term; where the term that leaves and the bit differ, the polynomial is added
unfoldable pub crc_step : List ℕ → ℕ → List ℕ
crc_step register b = add_where (get_or register 0 0 ⊕ b) (drop 1 register ++ (0 ∷ [])) polynomial

unfoldable pub remainder : List ℕ → List ℕ → List ℕ
remainder register [] = register
remainder register (b ∷ bs) = remainder (crc_step register b) bs

abbrev pub complement : List ℕ → List ℕ
complement bs = map (λ (b : ℕ). b ⊕ 1) bs

unfoldable pub crc_bits : List ℕ → List ℕ
crc_bits bs = complement (remainder (replicate 16 1) bs)
