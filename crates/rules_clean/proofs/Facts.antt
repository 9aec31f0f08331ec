-- Recordings read, computed from the definition and compared with what RULES 6 says of each: number, place, rate code,
-- LENGTH, n, chips used, the clock bit, the smallest lead and its symbol. Each refusal, and each two neighbours in the
-- order of checks that can be met together; the octet buffer after good reads. The long and the short frame are those
-- of crate `rules_reading`, Facts, where parts of readings are computed. Assumes nothing.
use mathlib.Core.Path.{◌≡◌, refl}
use mathlib.Core.Bool.{true, false}
use mathlib.Core.List.{List, [], ◌∷◌, ◌++◌}
use Prim.Native.Nat.{ℕ, ◌+◌}
use lib.ListN.{take, drop, replicate}
use Rattle.rules_rates.specs.declared.Rate.TheVariants.{One, Eleven}
use Rattle.rules_chips.specs.Chips.{hard_recording}
use Rattle.rules_symbols.specs.Words.{barker_word, cck_word}
use Rattle.rules_symbols.specs.Choice.{score, those, going, first_largest, decided, others, lead_of}
use Rattle.rules_bits.specs.Bits.{bits_of, octet_bits, number_of, octets_of}
use Rattle.rules_bits.specs.Growths.{
  growth,
  symbol_of,
  symbols_from,
  symbols_of,
  chips_from,
  last_phase,
  heard_bits,
  heard,
  growths_of,
  last_heard,
}
use Rattle.rules_bits.specs.Scrambler.{mixed, scramble, descramble}
use Rattle.rules_bits.specs.Crc.{add_where, crc_step, remainder, crc_bits}
use Rattle.rules_frame.specs.declared.Kind.{Kind}
use Rattle.rules_frame.specs.declared.Kind.TheVariants.{Long, Short}
use Rattle.rules_calls.specs.declared.Told.{Told}
use Rattle.rules_frame.specs.Frame.{
  preamble_bits,
  field_bits,
  header_bits,
  sent_header,
  frame_bits,
  sent_bits,
  parts_chips,
  framed,
  frame,
}
use Rattle.rules_calls.specs.Answers.{record_of}
use Rattle.rules_calls.specs.Headers.{told, same_bits, fields_of, header_of}
use Rattle.rules_reading.specs.Leads.{decided_leads, front_leads, payload_leads, least_from, least_of}
use Rattle.rules_reading.specs.Reading.{
  first_unusable,
  first_odd,
  decided_words,
  preamble_words,
  header_words,
  reference,
  header_phase,
  payload_phase,
  front_odd,
  front_heard,
  front_bits,
  front_by,
  payload_words,
  payload_odd,
  payload_of,
  payload_reading,
  reading_of,
  octets_found,
}
use Rattle.rules_reading.proofs.Facts.{fields, refused, long_frame, short_frame, spoilt, turned_by}

-- so many chips from a place lost
unfoldable pub lost : ℕ → ℕ → List ℕ → List ℕ
lost at m chips = take at chips ++ (replicate m 4 ++ drop (at + m) chips)

-- ---- whole readings

-- refused, in the order of the checks, each alone and with its neighbour: 1; 1 and 7; 7; 7 and 8; 8 and 9; 8; 9 and
-- 10, the 9 at the part's end; two 9s; 9 at chip 0; 10 in the preamble (a first symbol turned is seen in the
-- second), at its last symbol, at the first and the last of a long header; 11; 12, of a short header whose first
-- symbol grew by an odd step; 16, 17 and 9; 16; the payload's 10 at its first and its last symbol
-- promise: Whole recordings: each refusal, and each two neighbours in the order of checks that can be met together; 16
-- comes before 17
-- rule: 6.2 to 6.6
-- with: good, payloads, rules_reading/parts
pub bad : refused 2 true 1 long_frame ∷ refused 2 false 1 long_frame ∷ refused 256 true 1 long_frame
    ∷ refused 0 false 1 long_frame ∷ refused 1 false 1 []
    ∷ refused 0 true 1 (take 2111 (spoilt 0 5 long_frame)) ∷ refused 1 true 1 (take 1055 short_frame)
    ∷ refused 0 true 1 (spoilt 2111 5 (turned_by 55 1 long_frame))
    ∷ refused 1 true 1 (spoilt 700 5 (spoilt 900 255 short_frame))
    ∷ refused 1 true 1 (spoilt 0 5 short_frame)
    ∷ refused 1 true 1 (turned_by 0 1 short_frame) ∷ refused 1 true 1 (turned_by 781 1 short_frame)
    ∷ refused 0 true 1 (turned_by 0 1 long_frame) ∷ refused 0 true 1 (turned_by 1573 1 long_frame)
    ∷ refused 0 true 1 (turned_by 1584 1 long_frame) ∷ refused 0 true 1 (turned_by 2101 1 long_frame)
    ∷ refused 1 true 1 (turned_by 682 2 short_frame) ∷ refused 1 true 1 (turned_by 792 1 short_frame)
    ∷ refused 1 true 0 (take 1063 (spoilt 1060 5 short_frame)) ∷ refused 0 true 1 (take 2287 long_frame)
    ∷ refused 0 true 2 (turned_by 2112 1 long_frame) ∷ refused 0 true 2 (turned_by 2277 1 long_frame) ∷ []
    ≡ (1 ∷ 0 ∷ 0 ∷ 0 ∷ 0 ∷ 0 ∷ 0 ∷ 0 ∷ 0 ∷ []) ∷ (1 ∷ 0 ∷ 0 ∷ 0 ∷ 0 ∷ 0 ∷ 0 ∷ 0 ∷ 0 ∷ [])
    ∷ (1 ∷ 0 ∷ 0 ∷ 0 ∷ 0 ∷ 0 ∷ 0 ∷ 0 ∷ 0 ∷ [])
    ∷ (7 ∷ 0 ∷ 0 ∷ 0 ∷ 0 ∷ 0 ∷ 0 ∷ 0 ∷ 0 ∷ []) ∷ (7 ∷ 0 ∷ 0 ∷ 0 ∷ 0 ∷ 0 ∷ 0 ∷ 0 ∷ 0 ∷ [])
    ∷ (8 ∷ 0 ∷ 0 ∷ 0 ∷ 0 ∷ 0 ∷ 0 ∷ 0 ∷ 0 ∷ []) ∷ (8 ∷ 0 ∷ 0 ∷ 0 ∷ 0 ∷ 0 ∷ 0 ∷ 0 ∷ 0 ∷ [])
    ∷ (9 ∷ 2111 ∷ 0 ∷ 0 ∷ 0 ∷ 0 ∷ 0 ∷ 0 ∷ 0 ∷ []) ∷ (9 ∷ 700 ∷ 0 ∷ 0 ∷ 0 ∷ 0 ∷ 0 ∷ 0 ∷ 0 ∷ [])
    ∷ (9 ∷ 0 ∷ 0 ∷ 0 ∷ 0 ∷ 0 ∷ 0 ∷ 0 ∷ 0 ∷ [])
    ∷ (10 ∷ 11 ∷ 0 ∷ 0 ∷ 0 ∷ 0 ∷ 0 ∷ 0 ∷ 0 ∷ []) ∷ (10 ∷ 781 ∷ 0 ∷ 0 ∷ 0 ∷ 0 ∷ 0 ∷ 0 ∷ 0 ∷ [])
    ∷ (10 ∷ 11 ∷ 0 ∷ 0 ∷ 0 ∷ 0 ∷ 0 ∷ 0 ∷ 0 ∷ []) ∷ (10 ∷ 1573 ∷ 0 ∷ 0 ∷ 0 ∷ 0 ∷ 0 ∷ 0 ∷ 0 ∷ [])
    ∷ (10 ∷ 1584 ∷ 0 ∷ 0 ∷ 0 ∷ 0 ∷ 0 ∷ 0 ∷ 0 ∷ []) ∷ (10 ∷ 2101 ∷ 0 ∷ 0 ∷ 0 ∷ 0 ∷ 0 ∷ 0 ∷ 0 ∷ [])
    ∷ (11 ∷ 0 ∷ 0 ∷ 0 ∷ 0 ∷ 0 ∷ 0 ∷ 0 ∷ 0 ∷ []) ∷ (12 ∷ 0 ∷ 0 ∷ 0 ∷ 0 ∷ 0 ∷ 0 ∷ 0 ∷ 0 ∷ [])
    ∷ (16 ∷ 0 ∷ 0 ∷ 1 ∷ 0 ∷ 0 ∷ 0 ∷ 0 ∷ 0 ∷ []) ∷ (16 ∷ 0 ∷ 0 ∷ 16 ∷ 0 ∷ 0 ∷ 0 ∷ 0 ∷ 0 ∷ [])
    ∷ (10 ∷ 2112 ∷ 0 ∷ 16 ∷ 0 ∷ 0 ∷ 0 ∷ 0 ∷ 0 ∷ []) ∷ (10 ∷ 2277 ∷ 0 ∷ 16 ∷ 0 ∷ 0 ∷ 0 ∷ 0 ∷ 0 ∷ []) ∷ []
unfolding
    fields refused long_frame short_frame spoilt turned_by hard_recording
    barker_word cck_word score those going first_largest decided
    bits_of octet_bits number_of octets_of growth symbol_of symbols_from symbols_of chips_from last_phase heard_bits heard
    growths_of
    last_heard mixed scramble descramble add_where crc_step remainder crc_bits
    preamble_bits field_bits header_bits sent_header frame_bits sent_bits parts_chips framed frame
    first_unusable first_odd decided_words preamble_words header_words reference header_phase payload_phase front_odd front_heard
    front_bits same_bits fields_of header_of front_by payload_words payload_odd payload_of payload_reading reading_of octets_found
bad = refl

-- behind a front that tells what it does, with room for so many octets: 17 and 9; 9 and 10, the 9 at the part's end;
-- two 9s, the first at its start; LENGTH 16; a short frame's 9 at its end, LENGTH 1
abbrev behind : Kind → Told → ℕ → List ℕ → List ℕ
behind k t room chips = fields (record_of (payload_reading k t (hard_recording chips) room))

pub payloads : behind Long (told One 16 2 true) 0 (spoilt 2199 5 long_frame)
    ∷ behind Long (told One 16 2 true) 2 (spoilt 2287 5 (turned_by 2112 1 long_frame))
    ∷ behind Long (told One 16 2 true) 2 (spoilt 2112 5 (spoilt 2200 5 long_frame))
    ∷ behind Short (told Eleven 1 1 false) 1 (spoilt 1063 77 short_frame) ∷ []
    ≡ (17 ∷ 0 ∷ 0 ∷ 16 ∷ 0 ∷ 0 ∷ 0 ∷ 0 ∷ 0 ∷ []) ∷ (9 ∷ 2287 ∷ 0 ∷ 16 ∷ 0 ∷ 0 ∷ 0 ∷ 0 ∷ 0 ∷ [])
    ∷ (9 ∷ 2112 ∷ 0 ∷ 16 ∷ 0 ∷ 0 ∷ 0 ∷ 0 ∷ 0 ∷ []) ∷ (9 ∷ 1063 ∷ 0 ∷ 1 ∷ 0 ∷ 0 ∷ 0 ∷ 0 ∷ 0 ∷ []) ∷ []
unfolding
    fields long_frame short_frame spoilt turned_by hard_recording barker_word cck_word bits_of octet_bits growth
    symbol_of symbols_from
    symbols_of chips_from last_phase mixed scramble add_where crc_step remainder crc_bits
    preamble_bits field_bits header_bits sent_header frame_bits sent_bits parts_chips framed frame first_unusable payload_reading
payloads = refl

-- good: chips after the frame are not looked at, nor are SYNC bits compared: of the long one a symbol is turned by
-- half, of the short one the first, the sixth and the 48th. Its payload symbol grows by an odd step, as CCK symbols
-- may. The smallest lead is 11 full chips at symbol 0, and 4 at symbol 96, the payload's first; with a chip lost in
-- symbols 145 and 207, and in 0 and 200, it is 10 at the first of the two; with a wrong chip in the payload's 2. With
-- eight chips lost in symbol 80, of the short header, it is 3 there
pub good : refused 0 true 2 (turned_by 1309 2 (long_frame ++ (9 ∷ 9 ∷ [])))
    ∷ refused 1 true 2 (turned_by 0 2 (turned_by 55 2 (turned_by 517 2 short_frame)))
    ∷ refused 0 true 2 (spoilt 2277 4 (spoilt 1600 4 long_frame))
    ∷ refused 0 true 2 (spoilt 3 4 (spoilt 2200 4 long_frame))
    ∷ refused 1 true 1 (spoilt 1057 2 short_frame) ∷ refused 1 true 1 (lost 880 8 short_frame) ∷ []
    ≡ (0 ∷ 0 ∷ 10 ∷ 16 ∷ 2 ∷ 2288 ∷ 1 ∷ 11264 ∷ 0 ∷ []) ∷ (0 ∷ 0 ∷ 110 ∷ 1 ∷ 1 ∷ 1064 ∷ 0 ∷ 4096 ∷ 96 ∷ [])
    ∷ (0 ∷ 0 ∷ 10 ∷ 16 ∷ 2 ∷ 2288 ∷ 1 ∷ 10240 ∷ 145 ∷ []) ∷ (0 ∷ 0 ∷ 10 ∷ 16 ∷ 2 ∷ 2288 ∷ 1 ∷ 10240 ∷ 0 ∷ [])
    ∷ (0 ∷ 0 ∷ 110 ∷ 1 ∷ 1 ∷ 1064 ∷ 0 ∷ 2048 ∷ 96 ∷ []) ∷ (0 ∷ 0 ∷ 110 ∷ 1 ∷ 1 ∷ 1064 ∷ 0 ∷ 3072 ∷ 80 ∷ []) ∷ []
unfolding
    fields refused long_frame short_frame spoilt lost turned_by hard_recording
    barker_word cck_word score those going first_largest decided others lead_of decided_leads
    front_leads payload_leads least_from least_of
    bits_of octet_bits number_of octets_of growth symbol_of symbols_from symbols_of chips_from last_phase heard_bits heard
    growths_of
    last_heard mixed scramble descramble add_where crc_step remainder crc_bits
    preamble_bits field_bits header_bits sent_header frame_bits sent_bits parts_chips framed frame
    first_unusable first_odd decided_words preamble_words header_words reference header_phase payload_phase front_odd front_heard
    front_bits same_bits fields_of header_of front_by payload_words payload_odd payload_of payload_reading reading_of octets_found
good = refl

-- ---- the octet buffer: read, it is the payload, and zeros after it
pub octets : octets_found 1 true (hard_recording short_frame) 3 ≡ 61 ∷ 0 ∷ 0 ∷ []
unfolding
    short_frame hard_recording
    barker_word cck_word score those going first_largest decided
    bits_of octet_bits number_of octets_of growth symbol_of symbols_from symbols_of chips_from last_phase heard_bits heard
    growths_of
    last_heard mixed scramble descramble add_where crc_step remainder crc_bits
    preamble_bits field_bits header_bits sent_header frame_bits sent_bits parts_chips framed frame
    first_unusable first_odd decided_words preamble_words header_words reference header_phase payload_phase front_odd front_heard
    front_bits same_bits fields_of header_of front_by payload_words payload_odd payload_of payload_reading reading_of octets_found
octets = refl
