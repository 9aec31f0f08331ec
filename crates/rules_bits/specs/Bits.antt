-- Bits are the numbers 0 and 1. Octets, SIGNAL, SERVICE and LENGTH go lowest bit first (RULES 5.3), the CRC highest
-- first (5.13).
-- Definitions only. Assumes nothing.
use Rattle.std.specs.Prelude.{ℕ, zero, suc, ◌+◌, ◌*◌, ◌/◌, ◌%◌, ◌^◌, List, [], ◌∷◌, ◌++◌, length, take, drop}

infixl 60 ◌⊕◌
-- exclusive or of two bits
abbrev pub ◌⊕◌ : ℕ → ℕ → ℕ
a ⊕ b = (a + b) % 2

-- the n lowest bits of x, lowest first
unfoldable pub bits_of : ℕ → ℕ → List ℕ
bits_of zero x = []
bits_of (suc n) x = x % 2 ∷ bits_of n (x / 2)

-- the number of bits that go lowest first
unfoldable pub number_of : List ℕ → ℕ
number_of [] = 0
number_of (b ∷ bs) = b + 2 * number_of bs

-- and of bits that go highest first
unfoldable pub highest_first : List ℕ → ℕ
highest_first [] = 0
highest_first (b ∷ bs) = b * 2 ^ length bs + highest_first bs

-- the bits of octets, and n octets of bits
unfoldable pub octet_bits : List ℕ → List ℕ
octet_bits [] = []
octet_bits (x ∷ xs) = bits_of 8 x ++ octet_bits xs

unfoldable pub octets_of : ℕ → List ℕ → List ℕ
octets_of zero bs = []
octets_of (suc n) bs = number_of (take 8 bs) ∷ octets_of n (drop 8 bs)
