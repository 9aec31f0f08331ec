-- What the symbols of a recorded frame say, symbol by symbol and bit by bit (RULES 4.3, 4.6, 4.7, 5.3 to 5.5, 5.7 and
-- 6.6): each symbol from its own chips, each bit from two neighbouring symbols, each unscrambled bit from three. It
-- says what octets and fields of a recording are to be; how a reading comes to them is in Reading.antt, and
-- proofs/Decoding.antt holds that to this.
-- Definitions only. Assumes nothing.
use Rattle.std.specs.Prelude.{ℕ, suc, ◌+◌, ◌-◌, ◌*◌, ◌%◌, ◌<◌, ◌≡◌, cond, List, get_or, ltb}
use Rattle.base.specs.Tables.{tabulate}
use Rattle.rules_rates.specs.declared.Rate.{Rate}
use Rattle.rules_rates.specs.declared.Rate.TheVariants.{One}
use Rattle.rules_rates.specs.Rates.{symbol_chips, symbol_bits, octet_symbols}
use Rattle.rules_chips.specs.Chips.{Taken}
use Rattle.rules_symbols.specs.Words.{phase_of}
use Rattle.rules_bits.specs.Bits.{number_of}
use Rattle.rules_bits.specs.Growths.{heard_bits}
use Rattle.rules_frame.specs.declared.Kind.{Kind}
use Rattle.rules_frame.specs.Frame.{header_rate, front_chips, front_symbols, preamble_length, header_length}
use Rattle.rules_reading.specs.Places.{word_from}

-- ---- the symbols of a frame with a payload at rate r, counted from 0 at its first: the rate of each, the place of its
-- first chip, and the number of its first bit in the frame
module _ (k : Kind) (r : Rate) where
  abbrev pub rate_at : ℕ → Rate
  rate_at s = cond (ltb s (preamble_length k)) One (cond (ltb s (front_symbols k)) (header_rate k) r)

  abbrev pub place_at : ℕ → ℕ
  place_at s = cond (ltb s (front_symbols k)) (11 * s) (front_chips k + symbol_chips r * (s - front_symbols k))

  abbrev pub bit_at : ℕ → ℕ
  bit_at s =
      cond (ltb s (preamble_length k)) s
      (cond (ltb s (front_symbols k)) (preamble_length k + symbol_bits (header_rate k) * (s - preamble_length k))
      (preamble_length k + header_length + symbol_bits r * (s - front_symbols k)))

  -- how many a frame of n octets has
  abbrev pub symbols_in : ℕ → ℕ
  symbols_in n = front_symbols k + octet_symbols r * n

  module _ (rec : List Taken) where
    -- the word of symbol s, and its bits as they were sent: by how far it grew from the symbol before it, across all
    -- changes of rate. CCK symbols are numbered from 0 at the first payload symbol
    abbrev pub word_of_symbol : ℕ → ℕ
    word_of_symbol s = word_from (rate_at s) (place_at s) rec

    abbrev pub bits_behind : ℕ → List ℕ
    bits_behind s =
        heard_bits (rate_at (suc s)) (suc s - front_symbols k) (phase_of (rate_at s) (word_of_symbol s)) (word_of_symbol (suc s))

    module _ (n : ℕ) where
      -- bit b of the frame as it was sent; the first symbol is only a reference, and has none
      pub data SentBit : ℕ → ℕ → Type 0 where
        of_symbol : (s i : ℕ) → suc s < symbols_in n → i < symbol_bits (rate_at (suc s))
            → SentBit (bit_at (suc s) + i) (get_or (bits_behind s) i 0)

      -- and unscrambled: with the bits sent 4 and 7 before it
      pub data PlainBit : ℕ → ℕ → Type 0 where
        of_three : (b x y z : ℕ) → SentBit (b + 7) x → SentBit (b + 3) y → SentBit b z
            → PlainBit (b + 7) ((x + y + z) % 2)

      -- a number of so many bits of the frame, lowest first
      pub record FieldAt (from count value : ℕ) : Type 0 where
        pub bit : ℕ → ℕ
        pub each : (i : ℕ) → i < count → PlainBit (from + i) (bit i)
        pub value_is : value ≡ number_of (tabulate bit count)
