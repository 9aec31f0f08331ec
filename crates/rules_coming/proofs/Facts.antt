-- What is coming, computed from the definition and compared with RULES 6.15: number, place, rate code, LENGTH, the
-- clock bit, n, the whole frame's chips, where the payload's chips are and how many. The frames are those of reading's
-- facts: the long one carries two octets at 1 Mbit/s and has the clock bit set (LENGTH 16; 2,112 + 176 chips), the
-- short one an octet at 11 Mbit/s (LENGTH 1; 1,056 + 8 chips). Assumes nothing.
use Rattle.std.specs.Prelude.{Result, Ok, Err}
use Rattle.rules_calls.specs.declared.Told.{Told}
use Rattle.rules_calls.specs.declared.Refusal.{Refusal}
use mathlib.Core.Path.{◌≡◌, refl}
use mathlib.Core.Bool.{true, false}
use mathlib.Core.List.{List, [], ◌∷◌, ◌++◌}
use Prim.Native.Nat.{ℕ}
use lib.ListN.{take, replicate}
use Rattle.rules_rates.specs.declared.Rate.TheVariants.{One, Two, Five, Eleven}
use Rattle.rules_chips.specs.Chips.{hard_recording}
use Rattle.rules_symbols.specs.Words.{barker_word, cck_word}
use Rattle.rules_symbols.specs.Choice.{score, those, going, first_largest, decided}
use Rattle.rules_bits.specs.Bits.{bits_of, octet_bits, number_of}
use Rattle.rules_bits.specs.Growths.{
  growth,
  symbol_of,
  symbols_from,
  symbols_of,
  chips_from,
  last_phase,
  heard_bits,
  heard,
  growths_of,
  last_heard,
}
use Rattle.rules_bits.specs.Scrambler.{mixed, scramble, descramble}
use Rattle.rules_bits.specs.Crc.{add_where, crc_step, remainder, crc_bits}
use Rattle.rules_frame.specs.declared.Kind.{Kind}
use Rattle.rules_frame.specs.declared.Kind.TheVariants.{Long, Short}
use Rattle.rules_frame.specs.Frame.{
  preamble_bits,
  field_bits,
  header_bits,
  sent_header,
  frame_bits,
  sent_bits,
  parts_chips,
  framed,
  frame,
}
use Rattle.rules_calls.specs.declared.Refusal.TheVariants.{
  NoKind,
  ShorterThanFront,
  Unusable,
  OddGrowth,
  Sfd,
  Crc,
  Signal,
  Service,
  Length,
  Ends,
}
use Rattle.rules_calls.specs.Headers.{told, same_bits, fields_of, header_of}
use Rattle.rules_reading.specs.Reading.{
  first_unusable,
  first_odd,
  decided_words,
  preamble_words,
  header_words,
  reference,
  header_phase,
  front_odd,
  front_heard,
  front_bits,
  front_by,
}
use Rattle.rules_reading.proofs.Facts.{long_frame, short_frame, spoilt, turned_by}
use Rattle.rules_coming.specs.declared.Coming.{Coming}
use Rattle.rules_coming.specs.Coming.{front_reading, coming_of, part_of}

pub fields : Coming → List ℕ
fields c =
    c.number ∷ c.place ∷ c.rate ∷ c.length ∷ c.clock ∷ c.n ∷ c.used ∷ c.at ∷ c.count ∷ []

-- ---- answers: every refusal, and a front that tells

abbrev answers : Kind → List (Result Told Refusal) → List (List ℕ)
answers k [] = []
answers k (f ∷ fs) = fields (coming_of k f) ∷ answers k fs

pub refusals : answers Long
    (Err NoKind ∷ Err ShorterThanFront ∷ Err (Unusable 2111 0) ∷ Err (OddGrowth 2101 0)
    ∷ Err Sfd ∷ Err Crc ∷ Err (Signal 65535) ∷ Err (Service 8) ∷ Err (Length 7)
    ∷ Err (Ends 16) ∷ [])
    ≡ (1 ∷ 0 ∷ 0 ∷ 0 ∷ replicate 5 0) ∷ (8 ∷ 0 ∷ 0 ∷ 0 ∷ replicate 5 0) ∷ (9 ∷ 2111 ∷ 0 ∷ 0 ∷ replicate 5 0)
    ∷ (10 ∷ 2101 ∷ 0 ∷ 0 ∷ replicate 5 0) ∷ (11 ∷ 0 ∷ 0 ∷ 0 ∷ replicate 5 0) ∷ (12 ∷ 0 ∷ 0 ∷ 0 ∷ replicate 5 0)
    ∷ (13 ∷ 0 ∷ 0 ∷ 65535 ∷ replicate 5 0) ∷ (14 ∷ 0 ∷ 0 ∷ 8 ∷ replicate 5 0) ∷ (15 ∷ 0 ∷ 0 ∷ 7 ∷ replicate 5 0)
    ∷ (16 ∷ 0 ∷ 0 ∷ 16 ∷ replicate 5 0) ∷ []
unfolding fields
refusals = refl

pub tells : answers Long (Ok (told Two 5 1 false) ∷ Ok (told Five 5957 4095 true) ∷ [])
    ++ answers Short (Ok (told Eleven 8 11 true) ∷ [])
    ≡ (0 ∷ 0 ∷ 20 ∷ 5 ∷ 0 ∷ 1 ∷ 2156 ∷ 2112 ∷ 44 ∷ [])
    ∷ (0 ∷ 0 ∷ 55 ∷ 5957 ∷ 1 ∷ 4095 ∷ 67632 ∷ 2112 ∷ 65520 ∷ [])
    ∷ (0 ∷ 0 ∷ 110 ∷ 8 ∷ 1 ∷ 11 ∷ 1144 ∷ 1056 ∷ 88 ∷ []) ∷ []
unfolding fields
tells = refl

-- ---- recordings

-- what the front of a hard recording comes to under a kind
pub read : ℕ → List ℕ → Result Told Refusal
read kind chips = front_reading kind (hard_recording chips)

-- refused: 1 and 8; 1; 8; 9 and 10, the 9 at the front's end; 16 and the payload's 9, where a chip of the payload is
-- missing. That these are a reading's refusals up to 16, for every recording, is `coming_whole` of Laws.antt
pub bad : read 2 [] ∷ read 256 short_frame ∷ read 1 [] ∷ read 1 (spoilt 1055 5 (turned_by 55 1 short_frame))
    ∷ read 1 (take 1063 (spoilt 1056 5 short_frame)) ∷ []
    ≡ Err NoKind ∷ Err NoKind ∷ Err ShorterThanFront ∷ Err (Unusable 1055 0) ∷ Err (Ends 1) ∷ []
unfolding
    read short_frame spoilt turned_by hard_recording
    barker_word cck_word score those going first_largest decided
    bits_of octet_bits number_of growth symbol_of symbols_from symbols_of chips_from last_phase heard_bits heard growths_of
    last_heard mixed scramble descramble add_where crc_step remainder crc_bits
    preamble_bits field_bits header_bits sent_header frame_bits sent_bits parts_chips framed frame
    first_unusable first_odd decided_words preamble_words header_words reference header_phase front_odd front_heard
    front_bits same_bits fields_of header_of front_by front_reading
bad = refl

-- told, whatever the payload's chips are: a frame whose payload's first symbol is grown by 1, with chips after it; a
-- front with as many chips behind it as its payload has, all unusable
pub good : read 0 (turned_by 2112 1 (long_frame ++ (9 ∷ 9 ∷ []))) ∷ read 1 (take 1056 short_frame ++ replicate 8 9) ∷ []
    ≡ Ok (told One 16 2 true) ∷ Ok (told Eleven 1 1 false) ∷ []
unfolding
    read long_frame short_frame spoilt turned_by hard_recording
    barker_word cck_word score those going first_largest decided
    bits_of octet_bits number_of growth symbol_of symbols_from symbols_of chips_from last_phase heard_bits heard growths_of
    last_heard mixed scramble descramble add_where crc_step remainder crc_bits
    preamble_bits field_bits header_bits sent_header frame_bits sent_bits parts_chips framed frame
    first_unusable first_odd decided_words preamble_words header_words reference header_phase front_odd front_heard
    front_bits same_bits fields_of header_of front_by front_reading
good = refl

-- ---- parts: chips from a place, exactly so many; none where the recording ends before
pub parts : part_of 2 3 (0 ∷ 1 ∷ 2 ∷ 3 ∷ 4 ∷ 5 ∷ []) ∷ part_of 2 3 (0 ∷ 1 ∷ 2 ∷ 3 ∷ 4 ∷ [])
    ∷ part_of 2 3 (0 ∷ 1 ∷ 2 ∷ 3 ∷ []) ∷ part_of 0 1 (7 ∷ []) ∷ part_of 0 0 (7 ∷ []) ∷ part_of 1 0 (7 ∷ [])
    ∷ part_of 2 0 (7 ∷ []) ∷ part_of 5 1 (7 ∷ []) ∷ []
    ≡ (2 ∷ 3 ∷ 4 ∷ []) ∷ (2 ∷ 3 ∷ 4 ∷ []) ∷ [] ∷ (7 ∷ []) ∷ [] ∷ [] ∷ [] ∷ [] ∷ []
parts = refl
