-- The past as an octet, pairs of bits as numbers, and the words of symbols by their numbers.
-- Definitions only. Assumes nothing.
use Rattle.std.specs.Prelude.{ℕ, ◌+◌, ◌*◌, ◌/◌, ◌%◌, ◌<◌, List, [], ◌∷◌, ◌++◌, reverse}
use Rattle.rules_rates.specs.declared.Rate.{Rate}
use Rattle.rules_rates.specs.declared.Rate.TheVariants.{One, Two, Five, Eleven}
use Rattle.rules_chips.specs.Chips.{turned}
use Rattle.rules_symbols.specs.Words.{cck_number, word_of}
use Rattle.rules_bits.specs.Bits.{bits_of}
use Rattle.rules_bits.specs.Growths.{Symbol, direct}

-- an octet's bits, last first: as the scrambler's past
-- working notion: of the code that sends and hears octets
abbrev pub past_of : ℕ → List ℕ
past_of x = reverse (bits_of 8 x)

-- the pairs of an octet's bits as numbers, the first in time lowest; in a pair the first in time is the higher
-- working notion: of the code that sends and hears octets
unfoldable pub pairs_of : ℕ → ℕ
pairs_of o =
    direct (o % 2) (o / 2 % 2)
    + 4 * direct (o / 2 / 2 % 2) (o / 2 / 2 / 2 % 2)
    + 16 * direct (o / 2 / 2 / 2 / 2 % 2) (o / 2 / 2 / 2 / 2 / 2 % 2)
    + 64 * direct (o / 2 / 2 / 2 / 2 / 2 / 2 % 2) (o / 2 / 2 / 2 / 2 / 2 / 2 / 2 % 2)

-- the past once more outputs have been made, first in time first
-- working notion: of the code that sends and hears octets
unfoldable pub past_after : List ℕ → List ℕ → List ℕ
past_after past [] = past
past_after past (o ∷ os) = past_after (o ∷ past) os

-- the number of the word of a symbol whose phase is p
-- working notion: of the code that sends and hears octets
abbrev pub symbol_number : Rate → ℕ → Symbol → ℕ
symbol_number One p s = p
symbol_number Two p s = p
symbol_number Five p s = cck_number p s.p2 s.p3 s.p4
symbol_number Eleven p s = cck_number p s.p2 s.p3 s.p4

-- the numbers of symbols' words, each grown from the one before it, the first from phase p
-- working notion: of the code that sends and hears octets
unfoldable pub numbers_from : Rate → ℕ → List Symbol → List ℕ
numbers_from r p [] = []
numbers_from r p (s ∷ ss) = symbol_number r (turned p s.grows) s ∷ numbers_from r (turned p s.grows) ss

-- the chips of words by their numbers
unfoldable pub words_chips : Rate → List ℕ → List ℕ
words_chips r [] = []
words_chips r (n ∷ ns) = word_of r n ++ words_chips r ns

-- a CCK word's other phases are phases
-- working notion: of the code that sends and hears octets
pub record Proper (s : Symbol) : Type 0 where
  pub second : s.p2 < 4
  pub third : s.p3 < 4
  pub fourth : s.p4 < 4
