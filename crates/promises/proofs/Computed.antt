-- Whole readings and fronts, computed from the definitions alone: no statement of this crate is looked at here, so an
-- edit of one computes none of them. `Answered` joins them to the contracts. The frame is the short one that carries
-- 3Dh at 11 Mbit/s with the clock bit set: 1,056 + 8 chips. Assumes nothing.
use mathlib.Core.Path.{◌≡◌, refl}
use mathlib.Core.Bool.{true}
use mathlib.Core.List.{List, [], ◌∷◌, ◌++◌, map}
use Prim.Native.Nat.{ℕ, ◌+◌, ◌%◌}
use lib.Dec.{eqb}
use lib.ListN.{length, take, drop, replicate}
use lib.IntN.{ℤ}
use Rattle.rules_rates.specs.declared.Rate.TheVariants.{Eleven}
use Rattle.rules_chips.specs.Chips.{hard_recording, byte_recording}
use Rattle.rules_symbols.specs.Words.{barker_word, cck_word}
use Rattle.rules_symbols.specs.Choice.{score, those, going, first_largest, decided, others, lead_of}
use Rattle.rules_bits.specs.Bits.{bits_of, octet_bits, number_of, octets_of}
use Rattle.rules_bits.specs.Growths.{
  growth,
  symbol_of,
  symbols_from,
  symbols_of,
  chips_from,
  last_phase,
  heard_bits,
  heard,
  growths_of,
  last_heard,
}
use Rattle.rules_bits.specs.Scrambler.{mixed, scramble, descramble}
use Rattle.rules_bits.specs.Crc.{add_where, crc_step, remainder, crc_bits}
use Rattle.rules_frame.specs.declared.Kind.TheVariants.{Short}
use Rattle.rules_frame.specs.Frame.{
  kind_of,
  preamble_bits,
  field_bits,
  header_bits,
  sent_header,
  frame_bits,
  sent_bits,
  parts_chips,
  framed,
  frame,
}
use Rattle.rules_calls.specs.declared.Record.{Record}
use Rattle.rules_calls.specs.Answers.{record_of}
use Rattle.rules_calls.specs.Headers.{same_bits, fields_of, header_of}
use Rattle.rules_reading.specs.Leads.{decided_leads, front_leads, payload_leads, least_from, least_of}
use Rattle.rules_reading.specs.Reading.{
  first_unusable,
  first_odd,
  decided_words,
  preamble_words,
  header_words,
  reference,
  header_phase,
  payload_phase,
  front_odd,
  front_heard,
  front_bits,
  front_by,
  payload_words,
  payload_odd,
  payload_reading,
  reading_of,
}
use Rattle.rules_clean.specs.Clean.{byte_row}
use Rattle.rules_coming.specs.declared.Coming.{Coming}
use Rattle.rules_coming.specs.Coming.{front_reading, coming_of}

-- what a reading of a row of bytes with room for four octets comes to, and what a front of hard chips does
abbrev pub Comes : ℕ → List ℤ → Record → Type 0
Comes kind bytes answer = record_of (reading_of kind (eqb (length bytes % 2) 0) (byte_recording bytes) 4) ≡ answer

abbrev pub Fronts : ℕ → List ℕ → Coming → Type 0
Fronts kind chips answer = coming_of (kind_of kind) (front_reading kind (hard_recording chips)) ≡ answer

-- the frame; with its second symbol turned by 1
pub clock_frame : List ℕ
clock_frame = frame Short Eleven 0 true (0x3D ∷ [])

pub turned_frame : List ℕ
turned_frame = take 11 clock_frame ++ map (λ p. (p + 1) % 4) (take 11 (drop 11 clock_frame)) ++ drop 22 clock_frame

-- read back; one chip short of its front; turned, and refused at the second symbol
pub read_back_is : Comes 1 (byte_row clock_frame)
    (record { number = 0; place = 0; rate = 110; length = 1; n = 1; used = 1064; clock = 1; lead = 4096; symbol = 96 })
unfolding
    clock_frame byte_row byte_recording barker_word cck_word bits_of octet_bits growth symbol_of symbols_from symbols_of
    chips_from last_phase mixed scramble add_where crc_step remainder crc_bits preamble_bits field_bits header_bits sent_header
    frame_bits sent_bits parts_chips framed frame score those going first_largest decided others lead_of decided_leads
    front_leads payload_leads least_from least_of number_of octets_of heard_bits heard
    growths_of last_heard descramble same_bits fields_of header_of first_unusable first_odd decided_words preamble_words
    header_words reference header_phase payload_phase front_odd front_heard front_bits front_by payload_words payload_odd
    payload_reading reading_of
read_back_is = refl

pub cut_in_front_is : Comes 1 (byte_row (take 1055 clock_frame))
    (record { number = 8; place = 0; rate = 0; length = 0; n = 0; used = 0; clock = 0; lead = 0; symbol = 0 })
unfolding
    clock_frame byte_row byte_recording barker_word cck_word bits_of octet_bits growth symbol_of symbols_from symbols_of
    chips_from last_phase mixed scramble add_where crc_step remainder crc_bits preamble_bits field_bits header_bits sent_header
    frame_bits sent_bits parts_chips framed frame front_by reading_of
cut_in_front_is = refl

pub place_of_ten_is : Comes 1 (byte_row turned_frame)
    (record { number = 10; place = 11; rate = 0; length = 0; n = 0; used = 0; clock = 0; lead = 0; symbol = 0 })
unfolding
    clock_frame turned_frame byte_row byte_recording barker_word cck_word bits_of octet_bits growth symbol_of
    symbols_from symbols_of
    chips_from last_phase mixed scramble add_where crc_step remainder crc_bits preamble_bits field_bits header_bits sent_header
    frame_bits sent_bits parts_chips framed frame score those going first_largest decided heard_bits heard growths_of
    last_heard first_unusable first_odd decided_words preamble_words header_words reference header_phase front_odd front_by
    reading_of
place_of_ten_is = refl

-- told by its front, whatever the chips behind it are; cut one chip short of its end
pub front_told_is : Fronts 1 (take 1056 clock_frame ++ replicate 9 9)
    (record { number = 0; place = 0; rate = 110; length = 1; clock = 1; n = 1; used = 1064; at = 1056; count = 8 })
unfolding
    clock_frame hard_recording barker_word cck_word bits_of octet_bits growth symbol_of symbols_from symbols_of
    chips_from last_phase mixed scramble add_where crc_step remainder crc_bits preamble_bits field_bits header_bits sent_header
    frame_bits sent_bits parts_chips framed frame score those going first_largest decided number_of heard_bits heard
    growths_of last_heard descramble same_bits fields_of header_of first_unusable first_odd decided_words preamble_words
    header_words reference header_phase front_odd front_heard front_bits front_by front_reading
front_told_is = refl

pub front_cut_is : Fronts 1 (take 1063 clock_frame)
    (record { number = 16; place = 0; rate = 0; length = 1; clock = 0; n = 0; used = 0; at = 0; count = 0 })
unfolding
    clock_frame hard_recording barker_word cck_word bits_of octet_bits growth symbol_of symbols_from symbols_of
    chips_from last_phase mixed scramble add_where crc_step remainder crc_bits preamble_bits field_bits header_bits sent_header
    frame_bits sent_bits parts_chips framed frame score those going first_largest decided number_of heard_bits heard
    growths_of last_heard descramble same_bits fields_of header_of first_unusable first_odd decided_words preamble_words
    header_words reference header_phase front_odd front_heard front_bits front_by front_reading
front_cut_is = refl
