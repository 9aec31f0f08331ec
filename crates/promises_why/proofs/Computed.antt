-- Whole readings, computed from the definition and compared with RULES 6.22: a row for each number that a chip, a
-- header or the room brings about. The short frame is that of reading's facts, 3Dh at 11 Mbit/s; the headers have a
-- right CRC. It brings in nothing of this crate, so that an edit of a statement computes none of it
-- again. Assumes nothing.
use mathlib.Core.Path.{◌≡◌, refl}
use mathlib.Core.List.{List, [], ◌∷◌}
use Prim.Native.Nat.{ℕ}
use lib.ListN.{take}
use Rattle.rules_rates.specs.declared.Rate.TheVariants.{Eleven}
use Rattle.rules_chips.specs.Chips.{hard_recording}
use Rattle.rules_symbols.specs.Words.{barker_word, cck_word}
use Rattle.rules_symbols.specs.Choice.{score, those, going, first_largest, decided}
use Rattle.rules_bits.specs.Bits.{bits_of, octet_bits, number_of, highest_first}
use Rattle.rules_bits.specs.Growths.{
  growth,
  symbol_of,
  symbols_from,
  symbols_of,
  chips_from,
  last_phase,
  heard_bits,
  heard,
  growths_of,
  last_heard,
}
use Rattle.rules_bits.specs.Scrambler.{mixed, scramble, descramble}
use Rattle.rules_bits.specs.Crc.{add_where, crc_step, remainder, crc_bits}
use Rattle.rules_frame.specs.declared.Kind.TheVariants.{Short}
use Rattle.rules_frame.specs.Frame.{
  preamble_bits,
  field_bits,
  header_bits,
  sent_header,
  frame_bits,
  sent_bits,
  parts_chips,
  framed,
  frame,
}
use Rattle.rules_calls.specs.Headers.{same_bits, fields_of, header_of}
use Rattle.rules_reading.specs.Reading.{
  first_unusable,
  first_odd,
  decided_words,
  preamble_words,
  header_words,
  reference,
  header_phase,
  payload_phase,
  front_odd,
  front_heard,
  front_bits,
  front_by,
  payload_words,
  payload_odd,
  payload_reading,
  reading_of,
}
use Rattle.rules_reading.proofs.Facts.{short_frame, spoilt, turned_by}
use Rattle.rules_why.specs.Why.{reason, why_of}

-- 0, 17 and 16: the frame with room for its octet, without, and a chip short; 9: its last chip unusable
pub payload : why_of 1 short_frame 1 ∷ why_of 1 short_frame 0 ∷ why_of 1 (take 1063 short_frame) 1
    ∷ why_of 1 (spoilt 1063 9 short_frame) 1 ∷ []
    ≡ reason 0 0 0 0 ∷ reason 17 0 1 0 ∷ reason 16 0 1064 1063 ∷ reason 9 1063 0 9 ∷ []
unfolding
    short_frame spoilt hard_recording
    barker_word cck_word score those going first_largest decided
    bits_of octet_bits number_of growth symbol_of symbols_from symbols_of chips_from last_phase heard_bits heard
    growths_of
    last_heard mixed scramble descramble add_where crc_step remainder crc_bits
    preamble_bits field_bits header_bits sent_header frame_bits sent_bits parts_chips framed frame
    first_unusable first_odd decided_words preamble_words header_words reference header_phase payload_phase front_odd front_heard
    front_bits same_bits fields_of header_of front_by payload_words payload_odd payload_reading reading_of why_of
payload = refl

-- 10, 11 and 12: its third symbol turned by a quarter, the SFD's fifth by half, and by half the header's ninth, which
-- makes LENGTH 77Eh of 1
pub front : why_of 1 (turned_by 22 1 short_frame) 1 ∷ why_of 1 (turned_by 660 2 short_frame) 1
    ∷ why_of 1 (turned_by 880 2 short_frame) 1 ∷ []
    ≡ reason 10 22 0 1 ∷ reason 11 0 0x05CF 0x1EFF ∷ reason 12 0 0xC8AB 0x054B ∷ []
unfolding
    short_frame turned_by hard_recording
    barker_word cck_word score those going first_largest decided
    bits_of octet_bits number_of highest_first growth symbol_of symbols_from symbols_of chips_from last_phase heard_bits heard
    growths_of
    last_heard mixed scramble descramble add_where crc_step remainder crc_bits
    preamble_bits field_bits header_bits sent_header frame_bits sent_bits parts_chips framed frame
    first_unusable first_odd decided_words preamble_words header_words reference header_phase front_odd front_heard
    front_bits same_bits fields_of header_of front_by reading_of why_of
front = refl

-- 13, 14 and 15 of a front alone: SIGNAL 0; at 11 Mbit/s SERVICE CDh, and LENGTHs 4 and 0 with bit 7
pub headed : ℕ → ℕ → ℕ → List ℕ
headed signal service l = framed Short Eleven 3 (header_bits signal service l) []

pub header : why_of 1 (headed 0 0 1) 1 ∷ why_of 1 (headed 110 0xCD 1) 1 ∷ why_of 1 (headed 110 128 4) 4
    ∷ why_of 1 (headed 110 128 0) 1 ∷ []
    ≡ reason 13 0 0 0 ∷ reason 14 0 0 0x49 ∷ reason 15 0 3 4 ∷ reason 15 0 0 0 ∷ []
unfolding
    headed hard_recording
    barker_word cck_word score those going first_largest decided
    bits_of octet_bits number_of growth symbol_of symbols_from symbols_of chips_from last_phase heard_bits heard
    growths_of
    last_heard mixed scramble descramble add_where crc_step remainder crc_bits
    preamble_bits field_bits header_bits frame_bits sent_bits parts_chips framed
    first_unusable first_odd decided_words preamble_words header_words reference header_phase front_odd front_heard
    front_bits same_bits fields_of header_of front_by reading_of why_of
header = refl
