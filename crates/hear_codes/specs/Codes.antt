-- What the words of a block come to, symbol by symbol and octet by octet, as the loops over it have it: rows by their
-- rules. Definitions only. Assumes nothing.
-- working notion: of the code that hears blocks; no promise needs it
use Rattle.std.specs.Prelude.{◌≡◌, List, [], ◌∷◌, ◌++◌, ℕ, zero, suc, ◌+◌, ◌*◌, ◌/◌, ◌%◌, ◌^◌, ◌≤◌, ◌<◌, get_or, take, drop}
use Rattle.base.specs.Below.{Below}
use Rattle.base.specs.Tables.{tabulate}
use Rattle.rules_rates.specs.declared.Rate.{Rate}
use Rattle.rules_rates.specs.declared.Rate.TheVariants.{One, Two, Five, Eleven}
use Rattle.rules_rates.specs.Rates.{symbol_bits, octet_symbols}
use Rattle.rules_chips.specs.Chips.{turned}
use Rattle.rules_symbols.specs.Words.{phase_of, p2_of, p3_of, p4_of}
use Rattle.rules_symbols.specs.Choice.{numbers}
use Rattle.rules_bits.specs.Bits.{octet_bits, octets_of}
use Rattle.rules_bits.specs.Scrambler.{descramble}
use Rattle.rules_bits.specs.Code.{past_of}
use Rattle.rules_bits.specs.Growths.{growth_bits, direct_bits, half_turn, grown_by}

-- how far symbol k grew from phase p to q for its bits: an odd CCK symbol grew by a half turn more
abbrev pub grown_for : Rate → ℕ → ℕ → ℕ → ℕ
grown_for One k p q = grown_by p q
grown_for Two k p q = grown_by p q
grown_for Five k p q = grown_by (turned p (half_turn k)) q
grown_for Eleven k p q = grown_by (turned p (half_turn k)) q

-- the bits of the word with number n that grew by g
abbrev pub word_bits : Rate → ℕ → ℕ → List ℕ
word_bits One g n = g / 2 ∷ []
word_bits Two g n = growth_bits g
word_bits Five g n = growth_bits g ++ (p2_of n / 2 ∷ p4_of n / 2 ∷ [])
word_bits Eleven g n = growth_bits g ++ (direct_bits (p2_of n) ++ (direct_bits (p3_of n) ++ direct_bits (p4_of n)))

-- the two bits of a growth as a number, and the four of a word of 5.5 Mbit/s
abbrev pub two_bits : ℕ → ℕ
two_bits g = g / 2 + 2 * ((g + 1) / 2 % 2)

abbrev pub four_bits : ℕ → ℕ → ℕ
four_bits g n = two_bits g + 4 * (n / 32 % 2) + 8 * (n / 2 % 2)

-- numbers of b bits each as one number, the first the lowest
unfoldable pub packed : ℕ → List ℕ → ℕ
packed b [] = 0
packed b (x ∷ xs) = x + 2 ^ b * packed b xs

-- the phase before symbol l of words after phase p; behind the last, its own
abbrev pub phase_before : Rate → ℕ → List ℕ → ℕ → ℕ
phase_before r p ns zero = p
phase_before r p ns (suc l) = phase_of r (get_or ns l 0) % 4

-- the octet received after the first o of a row of codes, after the octet x; the one before the first is x
abbrev pub octet_after : Rate → ℕ → List ℕ → ℕ → ℕ
octet_after r x cs zero = x
octet_after r x cs (suc o) = packed (symbol_bits r) (take (octet_symbols r) (drop (octet_symbols r * o) cs))

-- the n octets of a row behind its first, and those octets as they were sent
abbrev pub behind : List ℕ → ℕ → List ℕ
behind raw n = tabulate (λ j. get_or raw (j + 1) 0) n

unfoldable pub plain : ℕ → ℕ → List ℕ → List ℕ
plain n q xs = octets_of n (descramble (past_of q) (octet_bits xs))

-- numbers of words of a rate
abbrev pub AreWords : Rate → List ℕ → Type 0
AreWords r ws = Below (numbers r) ws

-- of so many octets left a block takes n: at most 64 symbols, all of them unless octets remain
pub record BlockOf (r : Rate) (left n : ℕ) : Type 0 where
  pub within : n ≤ left
  pub fits : octet_symbols r * n ≤ 64
  pub some : 0 < left → 0 < n
  pub full : n < left → octet_symbols r * n ≡ 64
