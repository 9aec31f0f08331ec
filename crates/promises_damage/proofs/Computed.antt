-- Whole frames of one octet, short, with one payload symbol one past its limit and no other chip spoiled, computed from
-- the definition: they are read with number 0 and another octet. It brings in nothing of this crate, so that an edit of
-- a statement computes none of it again. Assumes nothing.
use mathlib.Core.Path.{◌≡◌, refl}
use mathlib.Core.Bool.{true, false}
use mathlib.Core.List.{List, [], ◌∷◌, ◌++◌}
use Prim.Native.Nat.{ℕ, ◌+◌}
use lib.ListN.{length, take, drop, replicate}
use Rattle.rules_rates.specs.declared.Rate.{Rate}
use Rattle.rules_rates.specs.declared.Rate.TheVariants.{Two, Five, Eleven}
use Rattle.rules_chips.specs.Chips.{hard_recording}
use Rattle.rules_symbols.specs.Words.{barker_word, cck_word}
use Rattle.rules_symbols.specs.Choice.{score, those, going, first_largest, decided}
use Rattle.rules_bits.specs.Bits.{bits_of, octet_bits, number_of, octets_of}
use Rattle.rules_bits.specs.Growths.{
  growth,
  symbol_of,
  symbols_from,
  symbols_of,
  chips_from,
  last_phase,
  heard_bits,
  heard,
  growths_of,
  last_heard,
}
use Rattle.rules_bits.specs.Scrambler.{mixed, scramble, descramble}
use Rattle.rules_bits.specs.Crc.{add_where, crc_step, remainder, crc_bits}
use Rattle.rules_frame.specs.declared.Kind.TheVariants.{Short}
use Rattle.rules_frame.specs.Frame.{
  preamble_bits,
  field_bits,
  header_bits,
  sent_header,
  frame_bits,
  sent_bits,
  parts_chips,
  framed,
  frame,
}
use Rattle.rules_calls.specs.Headers.{same_bits, fields_of, header_of}
use Rattle.rules_reading.specs.Reading.{
  first_unusable,
  first_odd,
  decided_words,
  preamble_words,
  header_words,
  reference,
  header_phase,
  payload_phase,
  front_odd,
  front_heard,
  front_bits,
  front_by,
  payload_words,
  payload_odd,
  payload_of,
  payload_reading,
  reading_of,
  octets_found,
}

-- a short frame of one octet, its payload's first chips, and what is left in the octet buffer where those are others:
-- an octet that is not 0 is there after a good read only
abbrev sent : Rate → ℕ → ℕ → List ℕ
sent r phase x = frame Short r phase false (x ∷ [])

abbrev first : Rate → ℕ → ℕ → List ℕ → List ℕ
first r phase x chips = take (length chips) (drop 1056 (sent r phase x))

abbrev read_with : Rate → ℕ → ℕ → List ℕ → List ℕ
read_with r phase x chips =
    let s = sent r phase x in
    octets_found 1 true (hard_recording (take 1056 s ++ (chips ++ drop (1056 + length chips) s))) 1

-- promise: A symbol one past its limit can give another payload. In short frames of one octet: at 11 Mbit/s from
-- phase 0, 45h, whose symbol is the word (0,1,0,0), is read as CDh with four of its chips lost; at 5.5 Mbit/s from
-- phase 2, 0 as 88h with four lost, or two wrong; at 2 Mbit/s from phase 2, 0 as AAh with eleven lost, or five wrong
-- and one lost
-- rule: 3.10, 6.28
-- code: dsss_read_hard_3
-- no edit: it is computed; what reading is has edits of its own
pub past_read :
    first Eleven 0 69 (replicate 8 0) ∷ read_with Eleven 0 69 (4 ∷ 0 ∷ 4 ∷ 2 ∷ 4 ∷ 0 ∷ 4 ∷ 0 ∷ [])
    ∷ first Five 2 0 (replicate 8 0) ∷ read_with Five 2 0 (4 ∷ 4 ∷ 4 ∷ 4 ∷ 1 ∷ 0 ∷ 3 ∷ 0 ∷ [])
    ∷ read_with Five 2 0 (1 ∷ 0 ∷ 3 ∷ 0 ∷ 1 ∷ 0 ∷ 3 ∷ 0 ∷ [])
    ∷ first Two 2 0 (replicate 11 0) ∷ read_with Two 2 0 (replicate 11 4)
    ∷ read_with Two 2 0 (0 ∷ 2 ∷ 0 ∷ 0 ∷ 2 ∷ 4 ∷ 1 ∷ 1 ∷ 3 ∷ 3 ∷ 3 ∷ []) ∷ []
    ≡ (1 ∷ 0 ∷ 1 ∷ 2 ∷ 1 ∷ 0 ∷ 3 ∷ 0 ∷ []) ∷ (205 ∷ [])
    ∷ (3 ∷ 2 ∷ 3 ∷ 0 ∷ 1 ∷ 0 ∷ 3 ∷ 0 ∷ []) ∷ (136 ∷ [])
    ∷ (136 ∷ [])
    ∷ (1 ∷ 3 ∷ 1 ∷ 1 ∷ 3 ∷ 1 ∷ 1 ∷ 1 ∷ 3 ∷ 3 ∷ 3 ∷ []) ∷ (170 ∷ [])
    ∷ (170 ∷ []) ∷ []
unfolding
    hard_recording barker_word cck_word score those going first_largest decided
    bits_of octet_bits number_of octets_of growth symbol_of symbols_from symbols_of chips_from last_phase heard_bits heard
    growths_of
    last_heard mixed scramble descramble add_where crc_step remainder crc_bits
    preamble_bits field_bits header_bits sent_header frame_bits sent_bits parts_chips framed frame
    first_unusable first_odd decided_words preamble_words header_words reference header_phase payload_phase front_odd front_heard
    front_bits same_bits fields_of header_of front_by payload_words payload_odd payload_of payload_reading reading_of octets_found
past_read = refl
