-- Octets as chips, one after the other: what stands between two octets, what an octet sends, and what octets send.
-- The frame's definition makes passes over all its bits; the law `sent` says that these are the same.
-- Definitions only. Assumes nothing.
-- working notion: of the code that sends octets; no promise needs it
use Rattle.std.specs.Prelude.{ℕ, suc, ◌*◌, List, [], ◌∷◌, ◌++◌, reverse}
use Rattle.rules_rates.specs.declared.Rate.{Rate}
use Rattle.rules_rates.specs.Rates.{octet_symbols}
use Rattle.rules_bits.specs.Bits.{bits_of}
use Rattle.rules_bits.specs.Growths.{Symbol, symbols_from, chips_from, last_phase}
use Rattle.rules_bits.specs.Scrambler.{scramble}

-- between two octets: the scrambler's last outputs, last first, and the last symbol's phase
pub record State : Type 0 where
  pub past : List ℕ
  pub phase : ℕ

-- the symbols of eight scrambled bits, the first of them the n-th of its part
unfoldable pub symbols_at : Rate → ℕ → List ℕ → List Symbol
symbols_at r n bs = symbols_from r n (octet_symbols r) bs

-- the chips of a part's k-th octet, and what stands after it
unfoldable pub emit : Rate → ℕ → State → ℕ → List ℕ
emit r k s x = chips_from r s.phase (symbols_at r (octet_symbols r * k) (scramble s.past (bits_of 8 x)))

unfoldable pub step : Rate → ℕ → State → ℕ → State
step r k s x =
    let o = scramble s.past (bits_of 8 x) in
    record { past = reverse o; phase = last_phase s.phase (symbols_at r (octet_symbols r * k) o) }

-- the chips of octets from the k-th on, and what stands after them
unfoldable pub run : Rate → ℕ → State → List ℕ → List ℕ
run r k s [] = []
run r k s (x ∷ xs) = emit r k s x ++ run r (suc k) (step r k s x) xs

unfoldable pub ran : Rate → ℕ → State → List ℕ → State
ran r k s [] = s
ran r k s (x ∷ xs) = ran r (suc k) (step r k s x) xs
