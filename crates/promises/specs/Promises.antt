-- What is promised beyond each contract (RULES 1.4, 6, 7, 9). Fills, what is accepted (Only.antt), which number a write
-- and a read get, and why (Refusing.antt, Reasons.antt), octets, reading back, one source, one answer, what is coming
-- (Coming.antt) and the start found (Finding.antt) speak of answers, buffers and parts that the contracts allow
-- (`Wrote`, `Read`, `ReadFront`, `Handed`, `Finds`: Calls.antt), so they are about the programs, and so does the
-- smallest lead (Leads.antt). Demand 3 (Right.antt), and what a lead says of the exact numbers, speak of the lists of
-- words that the definition of reading takes its growths and bits from, the half a count and Table P of the
-- definitions. proofs/Kept.antt proves all of it.
-- Definitions only. Assumes nothing.
use Rattle.std.specs.Prelude.{ℕ, ◌+◌, ◌-◌, ◌*◌, ◌%◌, ◌≤◌, ◌<◌, ◌≡◌, Bool, cond, List, [], ◌∷◌, ◌++◌, map, length, take, drop, replicate, T, eqb, Float}
use Rattle.base.specs.Below.{Below}
use Rattle.rules_rates.specs.declared.Rate.TheVariants.{One}
use Rattle.rules_rates.specs.Rates.{rate_of}
use Rattle.rules_rates.specs.Plain.{LengthOf}
use Rattle.rules_chips.specs.Floats.{usable, value_of, count_of, Nearest}
use Rattle.rules_chips.specs.Chips.{Taken, hard_recording}
use Rattle.rules_bits.specs.Code.{words_chips}
use Rattle.rules_calls.specs.declared.Written.{Written}
use Rattle.rules_calls.specs.declared.Record.{Record}
use Rattle.rules_frame.specs.Frame.{kind_of, header_rate, clock_of, frame}
use Rattle.rules_frame.specs.TableP.{TableP}
use Rattle.rules_reading.specs.Reading.{preamble_words, header_words, payload_words}
use Rattle.rules_clean.specs.Clean.{Exactly, soft_i, soft_q}
use Rattle.promises.specs.Calls.{
  Wrote,
  Read,
  Call,
  Answer,
  Allows,
  good,
  refused,
  shown,
  sent_lead,
  sent_symbol,
  Sent,
  ReadOf,
}
use Rattle.promises.specs.Right.{RecordedRight, RowsRight}
use Rattle.promises.specs.Leads.{LeastTold, RowsSure}
use Rattle.promises.specs.Only.{
  OnlySent,
  OnlyReadable,
  RefusedShows,
  RowsRefused,
  NoByteUnusable,
}
use Rattle.promises.specs.Refusing.{WriteAnswers}
use Rattle.promises.specs.Reasons.{BitsOf, FrontField, ReadAnswers, OctetsDecoded}
use Rattle.promises.specs.Coming.{
  FrontRefused,
  RefusedAlike,
  FrontTold,
  ToldAlike,
  FrontOnly,
  SentTold,
  HandedPart,
}
use Rattle.promises.specs.Finding.{NotTried, StartFound, NoneFound, SentFound}

-- ---- demand 1: fills

-- promise: A refused write leaves only 4s; 4s follow the frame; the buffer keeps its length
-- rule: 1.4 (1), 6.9, 6.12, 9.3
-- code: dsss_write_2
abbrev pub WriteFills : Type 0
WriteFills =
    (kind rate phase clock : ℕ) (payload : List ℕ) (room : ℕ) (w : Written) (left : List ℕ)
    → Wrote kind rate phase clock payload room w left
    → (length left ≡ room)
    × ((w.number ≡ 0 → ⊥) → left ≡ replicate room 4)
    × (w.number ≡ 0 → drop w.chips left ≡ replicate (room - w.chips) 4)

-- promise: A refused read leaves only zeros; zeros follow the payload; the buffer keeps its length
-- rule: 1.4 (1), 6.9, 6.12, 9.3
-- code: dsss_read_hard_3, dsss_read_soft_3, dsss_read_bytes_3
abbrev pub ReadFills : Type 0
ReadFills =
    (kind : ℕ) (agree : Bool) (rec : List Taken) (room : ℕ) (a : Record) (left : List ℕ)
    → Read kind agree rec room a left
    → (length left ≡ room)
    × ((a.number ≡ 0 → ⊥) → left ≡ replicate room 0)
    × (a.number ≡ 0 → drop a.n left ≡ replicate (room - a.n) 0)

-- ---- demand 2: reading back

-- promise: A write that may be sent and has room answers number 0 and the frame's chips, and the buffer begins with the
-- frame
-- rule: 1.4 (2), 6.11, 9.3
-- code: dsss_write_2
abbrev pub WrittenFrame : Type 0
WrittenFrame =
    (kind rate phase clock : ℕ) (payload : List ℕ) (w : Written) (chips : List ℕ)
    (s : Sent kind rate phase clock payload w chips)
    → (w.number ≡ 0)
    × (w.chips ≡ s.sendable.front + s.sendable.octet * length payload)
    × (take w.chips chips ≡ frame (kind_of kind) (rate_of rate) phase (clock_of clock) payload)

-- promise: Every chip of a frame that was written is that of the word that its symbol is read as
-- rule: 1.4 (2), 3.1, 3.2
-- code: dsss_write_2
abbrev pub SentWords : Type 0
SentWords =
    (kind rate phase clock : ℕ) (payload : List ℕ) (w : Written) (chips : List ℕ)
    → Sent kind rate phase clock payload w chips
    → take w.chips chips
    ≡ words_chips One (preamble_words (kind_of kind) (hard_recording chips))
    ++ (words_chips (header_rate (kind_of kind)) (header_words (kind_of kind) (hard_recording chips))
    ++ words_chips (rate_of rate) (payload_words (kind_of kind) (rate_of rate) (length payload) (hard_recording chips)))

-- the phases of a frame's first eight symbols, by kind and starting phase: of the scrambled bits of Table P 1 and 2,
-- each 1 is a half turn
abbrev pub begins_with : ℕ → ℕ → List ℕ
begins_with kind p =
    let h = (p + 2) % 4 in
    cond (eqb kind 0) (p ∷ h ∷ p ∷ h ∷ p ∷ h ∷ p ∷ p ∷ []) (p ∷ p ∷ p ∷ h ∷ p ∷ p ∷ p ∷ h ∷ [])

-- promise: A frame that was written begins with eight Barker words from its starting phase, by the scrambled bits of
-- Table P; from its ninth bit on SYNC is ones under the long kind and zeros under the short one, as its symbols say
-- rule: 1.4 (2), 4.6, 5.4
-- code: dsss_write_2
abbrev pub SentBegins : Type 0
SentBegins =
    (kind rate phase clock : ℕ) (payload : List ℕ) (w : Written) (chips : List ℕ)
    → Sent kind rate phase clock payload w chips
    → (take 88 chips ≡ words_chips One (begins_with kind phase))
    × ((at sfd ones b : ℕ) → BitsOf kind at sfd ones → 8 ≤ b → b < at
    → FrontField kind (hard_recording chips) b 1 (1 - kind))

-- promise: What was written is read back, whatever follows it, under its kind and with room: number 0, rate, LENGTH, n,
-- chips used, clock bit, payload, and the lead of a clean frame (11,264 counts at symbol 0 at 1 and 2 Mbit/s, 8,192 at
-- 5.5 and 4,096 at 11 at symbol 192 or 96); from hard chips, from soft rows that hold the chips as exact pairs, either
-- zero for 0, and from bytes of 64, -64 and 0
-- rule: 1.4 (2), 2.8, 5.14, 6.10, 6.16, 9.3
-- code: dsss_write_2, dsss_read_hard_3, dsss_read_soft_3, dsss_read_bytes_3
-- with: ReadOf
abbrev pub ReadBack : Type 0
ReadBack =
    (kind rate phase clock : ℕ) (payload : List ℕ) (w : Written) (chips : List ℕ)
    → Sent kind rate phase clock payload w chips → (l : ℕ) → LengthOf rate (length payload) l
    → (after room : ℕ) (a : Record) (left : List ℕ) → ReadOf kind (take w.chips chips) after room a left
    → length payload ≤ room
    → (a ≡ good rate l (length payload) w.chips (shown clock) (sent_lead rate) (sent_symbol kind rate))
    × (left ≡ payload ++ replicate (room - length payload) 0)

-- promise: For any phases there are soft rows that hold them as exact pairs, with either zero for 0
-- rule: 2.5
abbrev pub SoftRows : Type 0
SoftRows =
    (phases : List ℕ) → Below 4 phases
    → Exactly phases (map (soft_i 0) phases) (map (soft_q 0) phases)
    × Exactly phases (map (soft_i 0x8000_0000) phases) (map (soft_q 0x8000_0000) phases)

-- promise: What was written, from any of the three recorders: with too little room 17 with LENGTH; cut in the payload
-- 16 with LENGTH, whatever the room; cut in the front 8; nothing else is shown
-- rule: 6.2, 6.8
-- code: dsss_write_2, dsss_read_hard_3, dsss_read_soft_3, dsss_read_bytes_3
abbrev pub NotReadBack : Type 0
NotReadBack =
    (kind rate phase clock : ℕ) (payload : List ℕ) (w : Written) (chips : List ℕ)
    (s : Sent kind rate phase clock payload w chips) (l : ℕ) → LengthOf rate (length payload) l
    → (room : ℕ) (a : Record) (left : List ℕ)
    → ((after : ℕ) → ReadOf kind (take w.chips chips) after room a left → room < length payload → a ≡ refused 17 l)
    × ((j : ℕ) → ReadOf kind (take j chips) 0 room a left → s.sendable.front ≤ j → j < w.chips → a ≡ refused 16 l)
    × ((j : ℕ) → ReadOf kind (take j chips) 0 room a left → j < s.sendable.front → a ≡ refused 8 0)

-- promise: Two accepted writes of one kind that leave the same chips had the same rate, phase, clock bit and payload
-- rule: 1.4 (2)
-- code: dsss_write_2
abbrev pub OneSource : Type 0
OneSource =
    (kind rate rate' phase phase' clock clock' : ℕ) (payload payload' : List ℕ) (w w' : Written) (chips : List ℕ)
    → Sent kind rate phase clock payload w chips → Sent kind rate' phase' clock' payload' w' chips
    → (rate ≡ rate') × (phase ≡ phase') × (shown clock ≡ shown clock') × (payload ≡ payload')

-- promise: The chips of a frame are those of the same frame from starting phase 0, each turned by its starting phase
-- rule: 4.6
-- code: dsss_write_2
abbrev pub PhaseTurns : Type 0
PhaseTurns =
    (kind rate phase clock : ℕ) (payload : List ℕ) (w w' : Written) (chips chips' : List ℕ)
    → Sent kind rate phase clock payload w chips → Sent kind rate 0 clock payload w' chips'
    → take w.chips chips ≡ map (λ c. (phase + c) % 4) (take w'.chips chips')

-- promise: A count is the whole number nearest to 1024 times the exact value: the error is at most half a count
-- rule: 2.6
-- code: count
abbrev pub HalfACount : Type 0
HalfACount = (x : Float) → T (usable x) → Nearest (value_of x) (count_of x)

-- promise: The contract of each call allows exactly one answer for each input, and one final buffer or part
-- rule: 9.2
-- code: dsss_write_2, dsss_read_hard_3, dsss_read_soft_3, dsss_read_bytes_3, dsss_read_front, dsss_find
-- no test: a run shows one answer, not that no other is allowed
abbrev pub OneAnswer : Type 0
OneAnswer = (c : Call) (v v' : Answer c) → Allows c v → Allows c v' → v ≡ v'

-- ---- all of it
pub record Promised : Type 0 where
  pub write_fills : WriteFills
  pub read_fills : ReadFills
  pub write_answers : WriteAnswers
  pub read_answers : ReadAnswers
  pub octets_decoded : OctetsDecoded
  pub only_sent : OnlySent
  pub only_readable : OnlyReadable
  pub refused_shows : RefusedShows
  pub rows_refused : RowsRefused
  pub no_byte_unusable : NoByteUnusable
  pub written_frame : WrittenFrame
  pub sent_words : SentWords
  pub sent_begins : SentBegins
  pub read_back : ReadBack
  pub not_read_back : NotReadBack
  pub one_source : OneSource
  pub phase_turns : PhaseTurns
  pub soft_rows : SoftRows
  pub half_a_count : HalfACount
  pub recorded_right : RecordedRight
  pub rows_right : RowsRight
  pub least_told : LeastTold
  pub rows_sure : RowsSure
  pub one_answer : OneAnswer
  pub front_refused : FrontRefused
  pub refused_alike : RefusedAlike
  pub front_told : FrontTold
  pub told_alike : ToldAlike
  pub front_only : FrontOnly
  pub sent_told_lem : SentTold
  pub handed_part : HandedPart
  pub not_tried : NotTried
  pub start_found_lem : StartFound
  pub none_found : NoneFound
  pub sent_found : SentFound
  pub table_p : TableP
