-- Frames of octets 1Bh C6h, computed from the definitions: SFDs as sent, headers, scrambled bits where the header and
-- the payload begin, chips of a header and of a payload at each rate; and the numbers of the two kinds. A wrong order
-- of bits, a half turn on the wrong symbols, the scrambler started again or the growth order used for p2 to p4 changes
-- them (RULES 5, 8). The chips were made by a program written apart from these definitions, with starting phase 1.
-- Assumes nothing.
use mathlib.Core.Path.{◌≡◌, refl}
use mathlib.Core.Bool.{true, false}
use mathlib.Core.List.{List, [], ◌∷◌, ◌++◌, map}
use Prim.Native.Nat.{ℕ, ◌-◌, ◌^◌}
use lib.ListN.{take, drop}
use Rattle.rules_rates.specs.declared.Rate.{Rate}
use Rattle.rules_rates.specs.declared.Rate.TheVariants.{One, Two, Five, Eleven}
use Rattle.rules_rates.specs.Rates.{code_of}
use Rattle.rules_symbols.specs.Words.{barker_word, cck_word}
use Rattle.rules_bits.specs.Bits.{bits_of, octet_bits}
use Rattle.rules_bits.specs.Growths.{growth, symbol_of, symbols_from, symbols_of, chips_from, last_phase}
use Rattle.rules_bits.specs.Scrambler.{mixed, scramble}
use Rattle.rules_bits.specs.Crc.{add_where, crc_step, remainder, crc_bits}
use Rattle.rules_frame.specs.declared.Kind.{Kind}
use Rattle.rules_frame.specs.declared.Kind.TheVariants.{Long, Short}
use Rattle.rules_frame.specs.Frame.{
  is_kind,
  kind_of,
  sync_bits,
  sync_bit,
  sfd_of,
  header_rate,
  front_chips,
  goes_with,
  clock_of,
  clock_bit,
  service_field,
  preamble_bits,
  field_bits,
  header_bits,
  sent_header,
  frame_bits,
  sent_bits,
  preamble_length,
  parts_chips,
  framed,
  frame,
  frame_chips,
}

-- the numbers of the kinds: 0 long, 1 short, no other
pub numbered : map kind_of (0 ∷ 1 ∷ []) ≡ Long ∷ Short ∷ []
numbered = refl

pub no_kinds : map is_kind (0 ∷ 1 ∷ 2 ∷ 3 ∷ 256 ∷ []) ≡ true ∷ true ∷ false ∷ false ∷ false ∷ []
no_kinds = refl

-- of each kind: SYNC's bits and their value, SFD, bits of SYNC and SFD, chips of the front, the header's rate
pub kinds : map
    (λ (k : Kind). sync_bits k ∷ sync_bit k ∷ sfd_of k ∷ preamble_length k ∷ front_chips k ∷ code_of (header_rate k) ∷ [])
    (Long ∷ Short ∷ [])
    ≡ (128 ∷ 1 ∷ 0xF3A0 ∷ 144 ∷ 2112 ∷ 10 ∷ []) ∷ (56 ∷ 0 ∷ 0x05CF ∷ 72 ∷ 1056 ∷ 20 ∷ []) ∷ []
kinds = refl

abbrev rates : List Rate
rates = One ∷ Two ∷ Five ∷ Eleven ∷ []

-- short excludes 1 Mbit/s, and nothing else is excluded
pub pairs : map (goes_with Long) rates ++ map (goes_with Short) rates
    ≡ true ∷ true ∷ true ∷ true ∷ false ∷ true ∷ true ∷ true ∷ []
pairs = refl

-- chips of a frame of two octets, and of none
pub sizes : map (λ (r : Rate). frame_chips Long r 2 ∷ frame_chips Short r 2 ∷ frame_chips Long r 0 ∷ []) rates
    ≡ (2288 ∷ 1232 ∷ 2112 ∷ []) ∷ (2200 ∷ 1144 ∷ 2112 ∷ []) ∷ (2144 ∷ 1088 ∷ 2112 ∷ [])
    ∷ (2128 ∷ 1072 ∷ 2112 ∷ []) ∷ []
sizes = refl

-- the clock: 0 is no, any other number yes
pub clocks : map clock_of (0 ∷ 1 ∷ 2 ∷ 4 ∷ 255 ∷ 256 ∷ (2 ^ 32) ∷ (2 ^ 40) ∷ (2 ^ 64 - 1) ∷ [])
    ≡ false ∷ true ∷ true ∷ true ∷ true ∷ true ∷ true ∷ true ∷ true ∷ []
clocks = refl

pub clock_bits : map clock_bit (false ∷ true ∷ []) ≡ 0 ∷ 1 ∷ []
clock_bits = refl

-- SERVICE of 3 and of 4 octets, the clock bit not set and set
pub services : map
    (λ (r : Rate).
    service_field r false 3 ∷ service_field r true 3 ∷ service_field r false 4 ∷ service_field r true 4 ∷ []) rates
    ≡ (0 ∷ 4 ∷ 0 ∷ 4 ∷ []) ∷ (0 ∷ 4 ∷ 0 ∷ 4 ∷ []) ∷ (0 ∷ 4 ∷ 0 ∷ 4 ∷ []) ∷ (128 ∷ 132 ∷ 0 ∷ 4 ∷ []) ∷ []
services = refl

some : List ℕ
some = 0x1B ∷ 0xC6 ∷ []

-- the clock bit not set
pub computed : List (List ℕ)
computed =
    drop 128 (preamble_bits Long)
    ∷ drop 56 (preamble_bits Short)
    ∷ sent_header Two false 300
    ∷ sent_header Eleven false 3
    ∷ take 22 (drop 1584 (frame Long One 1 false some))
    ∷ take 22 (drop 792 (frame Short Two 1 false some))
    ∷ drop 1034 (frame Short Two 1 false [])
    ∷ take 22 (drop 2112 (frame Long One 1 false some))
    ∷ take 22 (drop 2112 (frame Long Two 1 false some))
    ∷ take 22 (drop 1056 (frame Short Two 1 false some))
    ∷ take 16 (drop 2112 (frame Long Five 1 false some))
    ∷ take 16 (drop 1056 (frame Short Five 1 false some))
    ∷ take 16 (drop 2112 (frame Long Eleven 1 false some))
    ∷ take 16 (drop 1056 (frame Short Eleven 1 false some))
    ∷ take 8 (drop 144 (sent_bits Long (sent_header Five false 2) some))
    ∷ take 8 (drop 192 (sent_bits Long (sent_header Five false 2) some))
    ∷ take 8 (drop 72 (sent_bits Short (sent_header Eleven false 2) some))
    ∷ take 8 (drop 120 (sent_bits Short (sent_header Eleven false 2) some))
    ∷ []

pub expected : List (List ℕ)
expected =
    (0 ∷ 0 ∷ 0 ∷ 0 ∷ 0 ∷ 1 ∷ 0 ∷ 1 ∷ 1 ∷ 1 ∷ 0 ∷ 0 ∷ 1 ∷ 1 ∷ 1 ∷ 1 ∷ [])
    ∷ (1 ∷ 1 ∷ 1 ∷ 1 ∷ 0 ∷ 0 ∷ 1 ∷ 1 ∷ 1 ∷ 0 ∷ 1 ∷ 0 ∷ 0 ∷ 0 ∷ 0 ∷ 0 ∷ [])
    ∷ (0 ∷ 0 ∷ 1 ∷ 0 ∷ 1 ∷ 0 ∷ 0 ∷ 0 ∷ 0 ∷ 0 ∷ 0 ∷ 0 ∷ 0 ∷ 0 ∷ 0 ∷ 0 ∷ 0 ∷ 0 ∷ 0 ∷ 0 ∷ 1 ∷ 1 ∷ 0 ∷ 1 ∷ 0 ∷ 0 ∷ 1
    ∷ 0 ∷ 0 ∷ 0 ∷ 0 ∷ 0 ∷ 1 ∷ 0 ∷ 0 ∷ 1 ∷ 1 ∷ 0 ∷ 1 ∷ 1 ∷ 1 ∷ 0 ∷ 0 ∷ 0 ∷ 1 ∷ 1 ∷ 0 ∷ 0 ∷ [])
    ∷ (0 ∷ 1 ∷ 1 ∷ 1 ∷ 0 ∷ 1 ∷ 1 ∷ 0 ∷ 0 ∷ 0 ∷ 0 ∷ 0 ∷ 0 ∷ 0 ∷ 0 ∷ 1 ∷ 1 ∷ 1 ∷ 0 ∷ 0 ∷ 0 ∷ 0 ∷ 0 ∷ 0 ∷ 0 ∷ 0 ∷ 0
    ∷ 0 ∷ 0 ∷ 0 ∷ 0 ∷ 0 ∷ 0 ∷ 0 ∷ 1 ∷ 1 ∷ 1 ∷ 1 ∷ 1 ∷ 1 ∷ 1 ∷ 0 ∷ 1 ∷ 1 ∷ 0 ∷ 1 ∷ 1 ∷ 1 ∷ [])
    ∷ (1 ∷ 3 ∷ 1 ∷ 1 ∷ 3 ∷ 1 ∷ 1 ∷ 1 ∷ 3 ∷ 3 ∷ 3 ∷ 3 ∷ 1 ∷ 3 ∷ 3 ∷ 1 ∷ 3 ∷ 3 ∷ 3 ∷ 1 ∷ 1 ∷ 1 ∷ [])
    ∷ (3 ∷ 1 ∷ 3 ∷ 3 ∷ 1 ∷ 3 ∷ 3 ∷ 3 ∷ 1 ∷ 1 ∷ 1 ∷ 2 ∷ 0 ∷ 2 ∷ 2 ∷ 0 ∷ 2 ∷ 2 ∷ 2 ∷ 0 ∷ 0 ∷ 0 ∷ [])
    ∷ (2 ∷ 0 ∷ 2 ∷ 2 ∷ 0 ∷ 2 ∷ 2 ∷ 2 ∷ 0 ∷ 0 ∷ 0 ∷ 1 ∷ 3 ∷ 1 ∷ 1 ∷ 3 ∷ 1 ∷ 1 ∷ 1 ∷ 3 ∷ 3 ∷ 3 ∷ [])
    ∷ (3 ∷ 1 ∷ 3 ∷ 3 ∷ 1 ∷ 3 ∷ 3 ∷ 3 ∷ 1 ∷ 1 ∷ 1 ∷ 3 ∷ 1 ∷ 3 ∷ 3 ∷ 1 ∷ 3 ∷ 3 ∷ 3 ∷ 1 ∷ 1 ∷ 1 ∷ [])
    ∷ (1 ∷ 3 ∷ 1 ∷ 1 ∷ 3 ∷ 1 ∷ 1 ∷ 1 ∷ 3 ∷ 3 ∷ 3 ∷ 1 ∷ 3 ∷ 1 ∷ 1 ∷ 3 ∷ 1 ∷ 1 ∷ 1 ∷ 3 ∷ 3 ∷ 3 ∷ [])
    ∷ (1 ∷ 3 ∷ 1 ∷ 1 ∷ 3 ∷ 1 ∷ 1 ∷ 1 ∷ 3 ∷ 3 ∷ 3 ∷ 2 ∷ 0 ∷ 2 ∷ 2 ∷ 0 ∷ 2 ∷ 2 ∷ 2 ∷ 0 ∷ 0 ∷ 0 ∷ [])
    ∷ (1 ∷ 2 ∷ 1 ∷ 0 ∷ 3 ∷ 0 ∷ 1 ∷ 0 ∷ 2 ∷ 1 ∷ 2 ∷ 3 ∷ 0 ∷ 3 ∷ 2 ∷ 3 ∷ [])
    ∷ (2 ∷ 3 ∷ 2 ∷ 1 ∷ 2 ∷ 3 ∷ 0 ∷ 3 ∷ 3 ∷ 2 ∷ 3 ∷ 0 ∷ 3 ∷ 2 ∷ 1 ∷ 2 ∷ [])
    ∷ (0 ∷ 2 ∷ 1 ∷ 1 ∷ 3 ∷ 1 ∷ 2 ∷ 2 ∷ 3 ∷ 1 ∷ 2 ∷ 2 ∷ 1 ∷ 3 ∷ 2 ∷ 2 ∷ [])
    ∷ (3 ∷ 0 ∷ 0 ∷ 3 ∷ 3 ∷ 0 ∷ 2 ∷ 1 ∷ 2 ∷ 1 ∷ 3 ∷ 0 ∷ 0 ∷ 3 ∷ 3 ∷ 0 ∷ [])
    ∷ (1 ∷ 1 ∷ 1 ∷ 0 ∷ 0 ∷ 0 ∷ 0 ∷ 1 ∷ [])
    ∷ (0 ∷ 1 ∷ 1 ∷ 1 ∷ 0 ∷ 1 ∷ 0 ∷ 1 ∷ [])
    ∷ (0 ∷ 1 ∷ 1 ∷ 1 ∷ 1 ∷ 1 ∷ 1 ∷ 1 ∷ [])
    ∷ (1 ∷ 1 ∷ 1 ∷ 1 ∷ 1 ∷ 1 ∷ 0 ∷ 0 ∷ [])
    ∷ []

pub facts : computed ≡ expected
unfolding
    computed expected some
    barker_word cck_word
    bits_of octet_bits growth symbol_of symbols_from symbols_of chips_from last_phase mixed scramble add_where crc_step remainder
    crc_bits
    preamble_bits field_bits header_bits sent_header frame_bits sent_bits parts_chips framed frame
facts = refl

-- the clock bit set: SERVICE and CRC of two headers; from the bit's own symbol on the chips of a long and of a short
-- header; the end of the CRC; payloads, which the scrambler carries it into
pub computed_clock : List (List ℕ)
computed_clock =
    sent_header Two true 300
    ∷ sent_header Eleven true 3
    ∷ take 22 (drop 1694 (frame Long One 1 true some))
    ∷ take 22 (drop 847 (frame Short Two 1 true some))
    ∷ take 22 (drop 1034 (frame Short Two 1 true some))
    ∷ take 16 (drop 2112 (frame Long Five 1 true some))
    ∷ take 16 (drop 1056 (frame Short Eleven 1 true some))
    ∷ []

pub expected_clock : List (List ℕ)
expected_clock =
    (0 ∷ 0 ∷ 1 ∷ 0 ∷ 1 ∷ 0 ∷ 0 ∷ 0 ∷ 0 ∷ 0 ∷ 1 ∷ 0 ∷ 0 ∷ 0 ∷ 0 ∷ 0 ∷ 0 ∷ 0 ∷ 0 ∷ 0 ∷ 1 ∷ 1 ∷ 0 ∷ 1 ∷ 0 ∷ 0 ∷ 1 ∷ 0 ∷ 0
    ∷ 0 ∷ 0 ∷ 0 ∷ 0 ∷ 0 ∷ 0 ∷ 1 ∷ 1 ∷ 1 ∷ 0 ∷ 1 ∷ 0 ∷ 1 ∷ 0 ∷ 0 ∷ 1 ∷ 0 ∷ 1 ∷ 0 ∷ [])
    ∷ (0 ∷ 1 ∷ 1 ∷ 1 ∷ 0 ∷ 1 ∷ 1 ∷ 0 ∷ 0 ∷ 0 ∷ 1 ∷ 0 ∷ 0 ∷ 0 ∷ 0 ∷ 1 ∷ 1 ∷ 1 ∷ 0 ∷ 0 ∷ 0 ∷ 0 ∷ 0 ∷ 0 ∷ 0 ∷ 0 ∷ 0 ∷ 0
    ∷ 0 ∷ 0 ∷ 0 ∷ 0 ∷ 1 ∷ 0 ∷ 1 ∷ 1 ∷ 1 ∷ 0 ∷ 0 ∷ 1 ∷ 0 ∷ 1 ∷ 1 ∷ 1 ∷ 0 ∷ 0 ∷ 0 ∷ 1 ∷ [])
    ∷ (1 ∷ 3 ∷ 1 ∷ 1 ∷ 3 ∷ 1 ∷ 1 ∷ 1 ∷ 3 ∷ 3 ∷ 3 ∷ 3 ∷ 1 ∷ 3 ∷ 3 ∷ 1 ∷ 3 ∷ 3 ∷ 3 ∷ 1 ∷ 1 ∷ 1 ∷ [])
    ∷ (2 ∷ 0 ∷ 2 ∷ 2 ∷ 0 ∷ 2 ∷ 2 ∷ 2 ∷ 0 ∷ 0 ∷ 0 ∷ 1 ∷ 3 ∷ 1 ∷ 1 ∷ 3 ∷ 1 ∷ 1 ∷ 1 ∷ 3 ∷ 3 ∷ 3 ∷ [])
    ∷ (0 ∷ 2 ∷ 0 ∷ 0 ∷ 2 ∷ 0 ∷ 0 ∷ 0 ∷ 2 ∷ 2 ∷ 2 ∷ 0 ∷ 2 ∷ 0 ∷ 0 ∷ 2 ∷ 0 ∷ 0 ∷ 0 ∷ 2 ∷ 2 ∷ 2 ∷ [])
    ∷ (2 ∷ 1 ∷ 2 ∷ 3 ∷ 2 ∷ 1 ∷ 0 ∷ 1 ∷ 2 ∷ 1 ∷ 2 ∷ 3 ∷ 0 ∷ 3 ∷ 2 ∷ 3 ∷ [])
    ∷ (0 ∷ 0 ∷ 2 ∷ 0 ∷ 0 ∷ 0 ∷ 0 ∷ 2 ∷ 1 ∷ 2 ∷ 0 ∷ 3 ∷ 1 ∷ 2 ∷ 2 ∷ 1 ∷ [])
    ∷ []

-- promise: Whole frames: SFDs as sent, headers, scrambled bits where header and payload begin, chips at each rate; with
-- the clock bit too
-- rule: 5.3 to 5.5, 5.9, 5.14, 8.2 to 8.5
-- with: facts, kinds, services
pub facts_clock : computed_clock ≡ expected_clock
unfolding
    computed_clock expected_clock some
    barker_word cck_word
    bits_of octet_bits growth symbol_of symbols_from symbols_of chips_from last_phase mixed scramble add_where crc_step remainder
    crc_bits
    preamble_bits field_bits header_bits sent_header frame_bits sent_bits parts_chips framed frame
facts_clock = refl
