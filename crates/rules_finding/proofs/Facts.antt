-- Starts found, computed from the definition and compared with RULES 6.17: number, offset, rate code, LENGTH, the clock
-- bit and n. The frame is the short one of reading's facts: an octet at 11 Mbit/s (LENGTH 1; 1,056 + 8 chips).
-- Assumes nothing.
use mathlib.Core.Path.{◌≡◌, refl}
use mathlib.Core.Bool.{true, false}
use mathlib.Core.List.{List, [], ◌∷◌, ◌++◌}
use Rattle.std.specs.Prelude.{Result, Err, Ok}
use Prim.Native.Nat.{ℕ}
use lib.ListN.{take, replicate}
use Rattle.rules_rates.specs.declared.Rate.TheVariants.{One, Two, Five, Eleven}
use Rattle.rules_rates.specs.Rates.{code_of}
use Rattle.rules_chips.specs.Chips.{hard_recording}
use Rattle.rules_symbols.specs.Words.{barker_word, cck_word}
use Rattle.rules_symbols.specs.Choice.{score, those, going, first_largest, decided}
use Rattle.rules_bits.specs.Bits.{bits_of, octet_bits, number_of}
use Rattle.rules_bits.specs.Growths.{
  growth,
  symbol_of,
  symbols_from,
  symbols_of,
  chips_from,
  last_phase,
  heard_bits,
  heard,
  growths_of,
  last_heard,
}
use Rattle.rules_bits.specs.Scrambler.{mixed, scramble, descramble}
use Rattle.rules_bits.specs.Crc.{add_where, crc_step, remainder, crc_bits}
use Rattle.rules_frame.specs.Frame.{
  clock_bit,
  preamble_bits,
  field_bits,
  header_bits,
  sent_header,
  frame_bits,
  sent_bits,
  parts_chips,
  framed,
  frame,
}
use Rattle.rules_calls.specs.declared.Refusal.TheVariants.{Crc}
use Rattle.rules_calls.specs.declared.Told.{Told}
use Rattle.rules_calls.specs.Headers.{told, same_bits, fields_of, header_of}
use Rattle.rules_reading.specs.Reading.{
  first_unusable,
  first_odd,
  decided_words,
  preamble_words,
  header_words,
  reference,
  header_phase,
  front_odd,
  front_heard,
  front_bits,
  front_by,
}
use Rattle.rules_reading.proofs.Facts.{short_frame, spoilt}
use Rattle.rules_finding.specs.declared.NotFound.{NotFound}
use Rattle.rules_finding.specs.declared.NotFound.TheVariants.{NoKind, NoOffsets, NoStart}
use Rattle.rules_finding.specs.declared.Start.{Start}
use Rattle.rules_finding.specs.declared.Found.{Found}
use Rattle.rules_finding.specs.Finding.{is_offsets, start_at, start_or, first_start, finding_of, found_of}

pub fields : Found → List ℕ
fields f = f.number ∷ f.offset ∷ f.rate ∷ f.length ∷ f.clock ∷ f.n ∷ []

-- ---- answers: each refusal, and starts
abbrev answers : List (Result Start NotFound) → List (List ℕ)
answers [] = []
answers (f ∷ fs) = fields (found_of f) ∷ answers fs

pub answered : answers
    (Err NoKind ∷ Err NoOffsets ∷ Err NoStart ∷ start_at 0 (told One 16 2 true)
    ∷ start_at 4095 (told Five 5957 4095 false) ∷ start_at 7 (told Eleven 8 11 true)
    ∷ start_at 256 (told Two 5 1 false) ∷ [])
    ≡ (1 ∷ replicate 5 0) ∷ (18 ∷ replicate 5 0) ∷ (19 ∷ replicate 5 0) ∷ (0 ∷ 0 ∷ 10 ∷ 16 ∷ 1 ∷ 2 ∷ [])
    ∷ (0 ∷ 4095 ∷ 55 ∷ 5957 ∷ 0 ∷ 4095 ∷ []) ∷ (0 ∷ 7 ∷ 110 ∷ 8 ∷ 1 ∷ 11 ∷ []) ∷ (0 ∷ 256 ∷ 20 ∷ 5 ∷ 0 ∷ 1 ∷ []) ∷ []
unfolding fields
answered = refl

-- and every start, whatever its offset and its header
pub started : (at : ℕ) (t : Told)
    → fields (found_of (start_at at t)) ≡ 0 ∷ at ∷ code_of t.rate ∷ t.length ∷ clock_bit t.clock ∷ t.n ∷ []
unfolding fields
started at t = refl

-- ---- the offsets to try: 1 to 4,096
pub offsets : is_offsets 0 ∷ is_offsets 1 ∷ is_offsets 2 ∷ is_offsets 4095 ∷ is_offsets 4096 ∷ is_offsets 4097
    ∷ is_offsets 4352 ∷ is_offsets 65537 ∷ is_offsets 4294967297 ∷ []
    ≡ false ∷ true ∷ true ∷ true ∷ true ∷ false ∷ false ∷ false ∷ false ∷ []
offsets = refl

-- ---- of several starts the smallest: a front that tells, whatever is found behind it, and what is found behind one
-- that does not
abbrev found : Result Start NotFound
found = start_at 8 (told Two 5 1 false)

pub smallest : start_or 7 (Ok (told Eleven 8 11 true)) found ∷ start_or 7 (Err Crc) found
    ∷ start_or 7 (Ok (told Eleven 8 11 true)) (Err NoStart)
    ∷ start_or 7 (Err Crc) (Err NoStart) ∷ []
    ≡ start_at 7 (told Eleven 8 11 true) ∷ found ∷ start_at 7 (told Eleven 8 11 true) ∷ Err NoStart ∷ []
smallest = refl

-- ---- recordings

pub find : ℕ → ℕ → List ℕ → Result Start NotFound
find kind offsets chips = finding_of kind offsets (hard_recording chips)

-- refused: 1 and 18, 1, and 18 at both ends, before the recording is looked at; 19 for a recording of no chips, and for
-- one that is a chip short of a front
pub bad : find 2 0 [] ∷ find 256 1 [] ∷ find 1 0 [] ∷ find 0 4097 [] ∷ find 0 4096 [] ∷ find 1 1 []
    ∷ find 1 3 (replicate 1055 0) ∷ []
    ≡ Err NoKind ∷ Err NoKind ∷ Err NoOffsets ∷ Err NoOffsets ∷ Err NoStart ∷ Err NoStart
    ∷ Err NoStart ∷ []
unfolding find hard_recording first_start finding_of front_by
bad = refl

-- a clean frame of the short kind: its front alone, whatever the payload's chips and whether they are there; behind two
-- chips that are unusable, with two offsets tried and with three; and not where a chip of the front is unusable
pub starts : find 1 1 (take 1056 short_frame) ∷ find 1 4096 (spoilt 1056 5 short_frame)
    ∷ find 1 2 (5 ∷ 255 ∷ short_frame) ∷ find 1 3 (5 ∷ 255 ∷ short_frame) ∷ find 1 2 (spoilt 1055 5 short_frame) ∷ []
    ≡ start_at 0 (told Eleven 1 1 false) ∷ start_at 0 (told Eleven 1 1 false) ∷ Err NoStart
    ∷ start_at 2 (told Eleven 1 1 false) ∷ Err NoStart ∷ []
unfolding
    find short_frame spoilt hard_recording
    barker_word cck_word score those going first_largest decided
    bits_of octet_bits number_of growth symbol_of symbols_from symbols_of chips_from last_phase heard_bits heard growths_of
    last_heard mixed scramble descramble add_where crc_step remainder crc_bits
    preamble_bits field_bits header_bits sent_header frame_bits sent_bits parts_chips framed frame
    first_unusable first_odd decided_words preamble_words header_words reference header_phase front_odd front_heard
    front_bits same_bits fields_of header_of front_by first_start finding_of
starts = refl

-- Barker's side values decide every symbol there as its opposite, which growths do not see, and the front meets none of
-- 8 to 15. More offsets change nothing (`start_found_lem` of Laws.antt)
-- promise: THE LETTER AND THE TRUTH: behind 12 lost chips a clean frame is found at offset 2, 10 chips before it starts
-- rule: 6.18
pub early : find 1 3 (replicate 12 4 ++ short_frame) ≡ start_at 2 (told Eleven 1 1 false)
unfolding
    find short_frame spoilt hard_recording
    barker_word cck_word score those going first_largest decided
    bits_of octet_bits number_of growth symbol_of symbols_from symbols_of chips_from last_phase heard_bits heard growths_of
    last_heard mixed scramble descramble add_where crc_step remainder crc_bits
    preamble_bits field_bits header_bits sent_header frame_bits sent_bits parts_chips framed frame
    first_unusable first_odd decided_words preamble_words header_words reference header_phase front_odd front_heard
    front_bits same_bits fields_of header_of front_by first_start finding_of
early = refl
