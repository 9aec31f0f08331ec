-- Parts of readings, and what is refused before a chip is looked at, computed from the definition and compared with
-- what RULES 6 says: number, place, rate code, LENGTH, n, chips used, the clock bit, the smallest lead and its symbol.
-- Whole readings are computed in crate `rules_clean`, Facts, so that an edit of a definition here computes none of
-- them. The long frame carries A5h and 3Ch at 1 Mbit/s and has the clock bit set (LENGTH 16; 2,112 + 176 chips), the
-- short one 3Dh at 11 Mbit/s and has neither bit set (LENGTH 1; 1,056 + 8 chips). What a header with a right CRC is
-- refused for stands in `rules_calls`, HeaderFacts. Assumes nothing.
use mathlib.Core.Path.{◌≡◌, refl}
use mathlib.Core.Bool.{Bool, true, false}
use Rattle.std.specs.Prelude.{None, Some, Ok}
use mathlib.Core.List.{List, [], ◌∷◌, ◌++◌, map}
use Prim.Native.Nat.{ℕ, ◌+◌, ◌%◌}
use lib.ListN.{take, drop, set, replicate}
use Rattle.rules_rates.specs.declared.Rate.TheVariants.{One, Two, Five, Eleven}
use Rattle.rules_chips.specs.Chips.{hard_recording}
use Rattle.rules_symbols.specs.Words.{barker_word, cck_word}
use Rattle.rules_symbols.specs.Choice.{score, those, going, first_largest, decided, others, lead_of}
use Rattle.rules_bits.specs.Bits.{bits_of, octet_bits, number_of}
use Rattle.rules_bits.specs.Growths.{
  growth,
  symbol_of,
  symbols_from,
  symbols_of,
  chips_from,
  last_phase,
  heard_bits,
  heard,
  growths_of,
  last_heard,
}
use Rattle.rules_bits.specs.Scrambler.{mixed, scramble, descramble}
use Rattle.rules_bits.specs.Crc.{add_where, crc_step, remainder, crc_bits}
use Rattle.rules_frame.specs.declared.Kind.TheVariants.{Long, Short}
use Rattle.rules_calls.specs.declared.Record.{Record}
use Rattle.rules_frame.specs.Frame.{
  preamble_bits,
  field_bits,
  header_bits,
  sent_header,
  frame_bits,
  sent_bits,
  parts_chips,
  framed,
  frame,
}
use Rattle.rules_calls.specs.Answers.{record_of}
use Rattle.rules_calls.specs.Headers.{told, same_bits, fields_of, header_of}
use Rattle.rules_reading.specs.Leads.{
  decided_leads,
  front_leads,
  payload_leads,
  frame_leads,
  lead_at,
  least_from,
  least_of,
}
use Rattle.rules_reading.specs.Reading.{
  first_unusable,
  first_odd,
  odd_growth,
  decided_words,
  preamble_words,
  header_words,
  reference,
  header_phase,
  front_odd,
  front_heard,
  front_bits,
  front_by,
  front_of,
  reading_of,
  octets_found,
}

unfoldable pub fields : Record → List ℕ
fields a = a.number ∷ a.place ∷ a.rate ∷ a.length ∷ a.n ∷ a.used ∷ a.clock ∷ a.lead ∷ a.symbol ∷ []

-- the answer to a hard recording under a kind, its rows agreeing or not, with room for so many octets
unfoldable pub refused : ℕ → Bool → ℕ → List ℕ → List ℕ
refused kind agree room chips = fields (record_of (reading_of kind agree (hard_recording chips) room))

unfoldable pub long_frame : List ℕ
long_frame = frame Long One 2 true (0xA5 ∷ 0x3C ∷ [])

unfoldable pub short_frame : List ℕ
short_frame = frame Short Eleven 3 false (0x3D ∷ [])

-- a chip set to a value; eleven chips from a place turned by quarters
unfoldable pub spoilt : ℕ → ℕ → List ℕ → List ℕ
spoilt at x chips = set chips at x

unfoldable pub turned_by : ℕ → ℕ → List ℕ → List ℕ
turned_by at by chips =
    take at chips ++ (map (λ (p : ℕ). (p + by) % 4) (take 11 (drop at chips)) ++ drop (at + 11) chips)

-- ---- parts

-- 9: the first chip that is neither a phase nor lost, counted from the part's start. 10: the first symbol that grew by
-- 1 or 3, eleven chips a symbol, at 1 Mbit/s alone
pub parts : (first_unusable 7 (hard_recording (0 ∷ 4 ∷ 5 ∷ 255 ∷ [])) ∷ first_unusable 7 (hard_recording (3 ∷ 4 ∷ []))
    ∷ first_odd 22 (0 ∷ 2 ∷ 3 ∷ 1 ∷ []) ∷ first_odd 22 (1 ∷ []) ∷ first_odd 22 (0 ∷ 2 ∷ [])
    ∷ odd_growth One 22 (1 ∷ []) ∷ odd_growth Two 22 (1 ∷ []) ∷ odd_growth Five 22 (1 ∷ []) ∷ odd_growth Eleven 22 (1 ∷ [])
    ∷ [])
    ≡ (Some 9 ∷ None ∷ Some 44 ∷ Some 22 ∷ None ∷ Some 22 ∷ None ∷ None ∷ None ∷ [])
unfolding hard_recording first_unusable first_odd
parts = refl

-- the smallest of some leads, the first of several; of none 0 at 0. Leads of the symbols from 96 on, after a smaller,
-- an equal and a larger one before
pub leasts : least_of [] ∷ least_of (7 ∷ []) ∷ least_of (5 ∷ 3 ∷ 4 ∷ 3 ∷ []) ∷ least_of (2 ∷ 2 ∷ []) ∷ least_of (9 ∷ 0 ∷ [])
    ∷ least_from 96 (lead_at 3 7) (4 ∷ 3 ∷ []) ∷ least_from 96 (lead_at 5 7) (5 ∷ 4 ∷ 4 ∷ []) ∷ least_from 96 (lead_at 1 7) []
    ∷ []
    ≡ lead_at 0 0 ∷ lead_at 7 0 ∷ lead_at 3 1 ∷ lead_at 2 0 ∷ lead_at 0 1 ∷ lead_at 3 7 ∷ lead_at 4 97 ∷ lead_at 1 7 ∷ []
unfolding least_from least_of
leasts = refl

-- 10 in a long header: its first symbol grown by 1 from the preamble's last
pub grown : front_odd Long (hard_recording (replicate 1584 0 ++ replicate 528 1)) ≡ Some 1584
unfolding
    hard_recording barker_word score those going first_largest decided growths_of last_heard first_odd decided_words
    preamble_words header_words reference header_phase front_odd
grown = refl

-- SYNC bits are not compared: of a short front the first, the sixth and the 48th symbol are turned by half
pub sync_turned : front_of Short (hard_recording (turned_by 0 2 (turned_by 55 2 (turned_by 517 2 short_frame))))
    ≡ Ok (told Eleven 1 1 false)
unfolding
    short_frame turned_by hard_recording
    barker_word cck_word score those going first_largest decided
    bits_of octet_bits number_of growth symbol_of symbols_from symbols_of chips_from last_phase heard_bits heard
    growths_of
    last_heard mixed scramble descramble add_where crc_step remainder crc_bits
    preamble_bits field_bits header_bits sent_header frame_bits sent_bits parts_chips framed frame
    first_unusable first_odd decided_words preamble_words header_words reference header_phase front_odd front_heard
    front_bits same_bits fields_of header_of front_by
sync_turned = refl

-- the smallest lead of the short frame is 4 full chips, at symbol 96, the payload's first
pub frame_lead : least_of (frame_leads Short Eleven 1 (hard_recording short_frame)) ≡ lead_at 4096 96
unfolding
    short_frame hard_recording barker_word cck_word score those going first_largest decided others lead_of decided_leads
    front_leads payload_leads least_from least_of
    bits_of octet_bits growth symbol_of symbols_from symbols_of chips_from last_phase mixed scramble add_where crc_step
    remainder crc_bits
    preamble_bits field_bits header_bits sent_header frame_bits sent_bits parts_chips framed frame
frame_lead = refl

-- ---- before a chip is looked at: 1; 1 and 7; 1 by a number past 255; 7; 7 and 8; 8, each one chip short of a front
pub early : refused 2 true 1 [] ∷ refused 2 false 1 [] ∷ refused 256 true 1 []
    ∷ refused 0 false 1 (replicate 2112 0) ∷ refused 1 false 1 []
    ∷ refused 0 true 1 (replicate 2111 5) ∷ refused 1 true 1 (replicate 1055 0) ∷ []
    ≡ (1 ∷ 0 ∷ 0 ∷ 0 ∷ 0 ∷ 0 ∷ 0 ∷ 0 ∷ 0 ∷ []) ∷ (1 ∷ 0 ∷ 0 ∷ 0 ∷ 0 ∷ 0 ∷ 0 ∷ 0 ∷ 0 ∷ [])
    ∷ (1 ∷ 0 ∷ 0 ∷ 0 ∷ 0 ∷ 0 ∷ 0 ∷ 0 ∷ 0 ∷ [])
    ∷ (7 ∷ 0 ∷ 0 ∷ 0 ∷ 0 ∷ 0 ∷ 0 ∷ 0 ∷ 0 ∷ []) ∷ (7 ∷ 0 ∷ 0 ∷ 0 ∷ 0 ∷ 0 ∷ 0 ∷ 0 ∷ 0 ∷ [])
    ∷ (8 ∷ 0 ∷ 0 ∷ 0 ∷ 0 ∷ 0 ∷ 0 ∷ 0 ∷ 0 ∷ []) ∷ (8 ∷ 0 ∷ 0 ∷ 0 ∷ 0 ∷ 0 ∷ 0 ∷ 0 ∷ 0 ∷ []) ∷ []
unfolding fields refused hard_recording front_by reading_of
early = refl

-- the octet buffer of a refused read: zeros, the whole of it
pub left : octets_found 2 true [] 2 ∷ octets_found 0 false [] 1 ∷ octets_found 1 true [] 3 ∷ []
    ≡ (0 ∷ 0 ∷ []) ∷ (0 ∷ []) ∷ (0 ∷ 0 ∷ 0 ∷ []) ∷ []
unfolding reading_of front_by octets_found
left = refl
