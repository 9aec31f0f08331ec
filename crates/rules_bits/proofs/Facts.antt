-- What the definitions compute, against RULES 4, 5 and 7, in one statement: the growths of two bits and their order at
-- each rate, the order of a CCK word's phases, the half turn of odd symbols, the bits back, chips of an octet at each
-- rate, the scrambler's taps, and the standard's CRC (Table P 3). Assumes nothing.
use mathlib.Core.Path.{◌≡◌, refl}
use mathlib.Core.List.{List, [], ◌∷◌, map}
use Prim.Native.Nat.{ℕ, ◌%◌}
use Rattle.rules_rates.specs.declared.Rate.TheVariants.{One, Two, Five, Eleven}
use Rattle.rules_symbols.specs.Words.{barker_word, cck_word, cck_number}
use Rattle.rules_bits.specs.Bits.{bits_of, number_of, octet_bits, octets_of}
use Rattle.rules_bits.specs.Growths.{
  growth,
  Symbol,
  symbol_of,
  symbols_of,
  symbols_from,
  chips_from,
  last_phase,
  heard_bits,
  heard,
  growths_of,
  last_heard,
}
use Rattle.rules_bits.specs.Scrambler.{mixed, scramble, descramble}
use Rattle.rules_bits.specs.Crc.{add_where, crc_step, remainder, crc_bits}

abbrev phases : Symbol → List ℕ
phases s = s.p2 ∷ s.p3 ∷ s.p4 ∷ []

abbrev grown : List Symbol → List ℕ
grown ss = map (λ (s : Symbol). s.grows % 4) ss

-- bits 0 1, 1 0, 1 1, 0 0: as pairs and as first bits of symbols every growth comes, and 01 is told from 10
abbrev pairs : List ℕ
pairs = 0 ∷ 1 ∷ 1 ∷ 0 ∷ 1 ∷ 1 ∷ 0 ∷ 0 ∷ []

abbrev pub computed : List (List ℕ)
computed =
    (growth 0 0 ∷ growth 0 1 ∷ growth 1 0 ∷ growth 1 1 ∷ [])
    ∷ phases (symbol_of Eleven 0 (0 ∷ 0 ∷ 0 ∷ 1 ∷ 1 ∷ 0 ∷ 1 ∷ 1 ∷ []))
    ∷ phases (symbol_of Five 0 (0 ∷ 0 ∷ 1 ∷ 1 ∷ []))
    ∷ phases (symbol_of Five 0 (0 ∷ 0 ∷ 0 ∷ 1 ∷ []))
    ∷ grown (symbols_of One pairs)
    ∷ grown (symbols_of Two pairs)
    ∷ grown (symbols_of Five (octet_bits (0x12 ∷ 0x03 ∷ [])))
    ∷ grown (symbols_of Eleven (octet_bits (2 ∷ 1 ∷ 3 ∷ 0 ∷ [])))
    ∷ []

abbrev pub document : List (List ℕ)
document =
    (0 ∷ 1 ∷ 3 ∷ 2 ∷ [])
    ∷ (1 ∷ 2 ∷ 3 ∷ [])
    ∷ (3 ∷ 0 ∷ 2 ∷ [])
    ∷ (1 ∷ 0 ∷ 2 ∷ [])
    ∷ (0 ∷ 2 ∷ 2 ∷ 0 ∷ 2 ∷ 2 ∷ 0 ∷ 0 ∷ [])
    ∷ (1 ∷ 3 ∷ 2 ∷ 0 ∷ [])
    ∷ (1 ∷ 1 ∷ 2 ∷ 2 ∷ [])
    ∷ (1 ∷ 1 ∷ 2 ∷ 2 ∷ [])
    ∷ []

pub facts : computed ≡ document
unfolding growth symbol_of symbols_of symbols_from bits_of octet_bits
facts = refl

-- chips of an octet or two after phase 1, and the phase that the last symbol ends with
abbrev pub sent : List (List ℕ)
sent =
    chips_from One 1 (symbols_of One (1 ∷ 0 ∷ []))
    ∷ chips_from Two 1 (symbols_of Two (0 ∷ 1 ∷ 1 ∷ 0 ∷ []))
    ∷ chips_from Five 1 (symbols_of Five (bits_of 8 0x72))
    ∷ chips_from Eleven 1 (symbols_of Eleven (octet_bits (0xD9 ∷ 0x02 ∷ [])))
    ∷ (last_phase 1 (symbols_of Two (0 ∷ 1 ∷ 1 ∷ 0 ∷ []))
    ∷ last_phase 1 (symbols_of Eleven (octet_bits (0xD9 ∷ 0x02 ∷ [])))
    ∷ [])
    ∷ []

abbrev pub chips : List (List ℕ)
chips =
    (3 ∷ 1 ∷ 3 ∷ 3 ∷ 1 ∷ 3 ∷ 3 ∷ 3 ∷ 1 ∷ 1 ∷ 1 ∷ 3 ∷ 1 ∷ 3 ∷ 3 ∷ 1 ∷ 3 ∷ 3 ∷ 3 ∷ 1 ∷ 1 ∷ 1 ∷ [])
    ∷ (2 ∷ 0 ∷ 2 ∷ 2 ∷ 0 ∷ 2 ∷ 2 ∷ 2 ∷ 0 ∷ 0 ∷ 0 ∷ 1 ∷ 3 ∷ 1 ∷ 1 ∷ 3 ∷ 1 ∷ 1 ∷ 1 ∷ 3 ∷ 3 ∷ 3 ∷ [])
    ∷ (3 ∷ 2 ∷ 3 ∷ 0 ∷ 3 ∷ 2 ∷ 1 ∷ 2 ∷ 1 ∷ 2 ∷ 1 ∷ 0 ∷ 1 ∷ 2 ∷ 3 ∷ 2 ∷ [])
    ∷ (2 ∷ 1 ∷ 0 ∷ 1 ∷ 3 ∷ 2 ∷ 3 ∷ 0 ∷ 3 ∷ 3 ∷ 3 ∷ 1 ∷ 3 ∷ 3 ∷ 1 ∷ 3 ∷ [])
    ∷ (1 ∷ 3 ∷ [])
    ∷ []

-- promise: Growths of bits at each rate, the order of a CCK word's phases, and the half turn of odd symbols
-- rule: 4.1 to 4.5, 8.2, 8.3
-- with: facts, read_facts
pub sent_facts : sent ≡ chips
unfolding growth symbol_of symbols_of symbols_from bits_of octet_bits chips_from last_phase barker_word cck_word
sent_facts = refl

-- words back to bits, the first after phase 1; how far each grew; and the phase of the last
abbrev pub read : List (List ℕ)
read =
    heard One 0 1 (1 ∷ 3 ∷ 3 ∷ [])
    ∷ heard Two 0 1 (2 ∷ 1 ∷ 3 ∷ 3 ∷ [])
    ∷ heard Five 0 1 (cck_number 2 3 0 2 ∷ cck_number 3 3 0 0 ∷ [])
    ∷ heard Eleven 0 1 (cck_number 2 1 2 3 ∷ cck_number 3 0 0 0 ∷ [])
    ∷ growths_of Two 1 (2 ∷ 1 ∷ 3 ∷ 3 ∷ [])
    ∷ growths_of Eleven 1 (cck_number 2 3 3 3 ∷ cck_number 1 0 1 1 ∷ [])
    ∷ (last_heard Two 1 (2 ∷ 1 ∷ 3 ∷ []) ∷ last_heard Eleven 1 (cck_number 2 3 3 3 ∷ []) ∷ [])
    ∷ octets_of 2 (octet_bits (0x1B ∷ 0xC6 ∷ []))
    ∷ []

abbrev pub bits : List (List ℕ)
bits =
    (0 ∷ 1 ∷ 0 ∷ [])
    ∷ (0 ∷ 1 ∷ 1 ∷ 0 ∷ 1 ∷ 1 ∷ 0 ∷ 0 ∷ [])
    ∷ (0 ∷ 1 ∷ 1 ∷ 1 ∷ 1 ∷ 0 ∷ 1 ∷ 0 ∷ [])
    ∷ (0 ∷ 1 ∷ 0 ∷ 1 ∷ 1 ∷ 0 ∷ 1 ∷ 1 ∷ 1 ∷ 0 ∷ 0 ∷ 0 ∷ 0 ∷ 0 ∷ 0 ∷ 0 ∷ [])
    ∷ (1 ∷ 3 ∷ 2 ∷ 0 ∷ [])
    ∷ (1 ∷ 3 ∷ [])
    ∷ (3 ∷ 2 ∷ [])
    ∷ (0x1B ∷ 0xC6 ∷ [])
    ∷ []

pub read_facts : read ≡ bits
unfolding bits_of number_of octet_bits octets_of heard_bits heard growths_of last_heard
read_facts = refl

-- one run of the scrambler from no output, the same undone, and the CRC of the standard's example
abbrev pub runs : List (List ℕ)
runs =
    scramble (0 ∷ 0 ∷ 0 ∷ 0 ∷ 0 ∷ 0 ∷ 0 ∷ []) (bits_of 8 1)
    ∷ descramble (0 ∷ 0 ∷ 0 ∷ 0 ∷ 0 ∷ 0 ∷ 0 ∷ []) (bits_of 8 1)
    ∷ crc_bits (bits_of 32 0x00C0000A)
    ∷ []

pub run_facts : runs
    ≡ (1 ∷ 0 ∷ 0 ∷ 0 ∷ 1 ∷ 0 ∷ 0 ∷ 1 ∷ [])
    ∷ (1 ∷ 0 ∷ 0 ∷ 0 ∷ 1 ∷ 0 ∷ 0 ∷ 1 ∷ [])
    ∷ (0 ∷ 1 ∷ 0 ∷ 1 ∷ 1 ∷ 0 ∷ 1 ∷ 1 ∷ 0 ∷ 1 ∷ 0 ∷ 1 ∷ 0 ∷ 1 ∷ 1 ∷ 1 ∷ [])
    ∷ []
unfolding bits_of mixed scramble descramble add_where crc_step remainder crc_bits
run_facts = refl
