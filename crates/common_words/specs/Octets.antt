-- Sums side by side in one number, an octet for each, taken apart again.
-- Definitions only. Assumes nothing.
-- working notion: of the tables of words in the code; no promise needs it
use Rattle.std.specs.Prelude.{ℕ, zero, suc, ◌+◌, ◌*◌, ◌/◌, ◌%◌, List, [], ◌∷◌}

-- the number with the octets of cs, lowest first
unfoldable pub together : List ℕ → ℕ
together [] = 0
together (c ∷ cs) = c + 256 * together cs

-- n octets of w, lowest first, modulo 4
unfoldable pub quarters : ℕ → ℕ → List ℕ
quarters zero w = []
quarters (suc n) w = w % 4 ∷ quarters n (w / 256)
