-- What the calls promise: the records that the contracts of crate dsss cite, and that of `part` of small_calls, so
-- that what is proved of them is proved of the programs; and what is said of their inputs, in plain numbers (RULES 1.4,
-- 5.2, 5.4, 5.8, 6, 9.1).
-- Definitions only. Assumes nothing.
use Rattle.std.specs.Prelude.{ℕ, zero, suc, ◌+◌, ◌*◌, ◌%◌, ◌≤◌, ◌<◌, ◌≡◌, Bool, true, cond, ◌||◌, List, ◌++◌, eqb, length, ℤ, Float}
use Rattle.rules_chips.specs.Chips.{Taken, hard_recording, soft_recording, byte_recording}
use Rattle.base.specs.Below.{Below}
use Rattle.rules_frame.specs.Frame.{kind_of}
use Rattle.rules_calls.specs.declared.Written.{Written}
use Rattle.rules_calls.specs.declared.Record.{Record}
use Rattle.rules_calls.specs.Answers.{written_of, record_of}
use Rattle.rules_calls.specs.Writing.{writing_of, chips_written}
use Rattle.rules_reading.specs.Reading.{reading_of, octets_found}
use Rattle.rules_coming.specs.declared.Coming.{Coming}
use Rattle.rules_coming.specs.Coming.{front_reading, coming_of, part_of}
use Rattle.rules_finding.specs.declared.Found.{Found}
use Rattle.rules_finding.specs.Finding.{finding_of, found_of}
use Rattle.rules_clean.specs.Clean.{Exactly, byte_row}

-- the writer: its answer, and the chip buffer of `room` chips at the end
pub record Wrote (kind rate phase clock : ℕ) (payload : List ℕ) (room : ℕ) (w : Written) (left : List ℕ) : Type 0 where
  -- promise: A write answers the definition's record, for every input
  -- rule: 6.1, 6.8, 6.11, 9.1
  -- code: dsss_write_2, write_frame::write
  pub answer : w ≡ written_of (writing_of kind rate phase (length payload) room)
  -- promise: The chip buffer at the end is the frame, its clock bit as asked, and then 4s; after a refusal only 4s
  -- rule: 3.1 to 3.4, 4.1 to 4.6, 5.1 to 5.14, 6.9, 6.12, 6.14, 9.1
  -- code: dsss_write_2, write_frame::write, common_rows::fill
  pub chips : left ≡ chips_written kind rate phase clock payload room

-- a reader, whatever recorded: its answer, and the octet buffer of `room` octets at the end
pub record Read (kind : ℕ) (agree : Bool) (rec : List Taken) (room : ℕ) (a : Record) (left : List ℕ) : Type 0 where
  -- promise: A read answers the definition's record, whatever recorded the chips, for every input
  -- rule: 2.7, 6.2 to 6.8, 6.10, 6.16, 9.1
  -- code: read_frames::read_hard, read_soft, read_bytes
  pub answer : a ≡ record_of (reading_of kind agree rec room)
  -- promise: The octet buffer at the end is the payload and then zeros; after a refusal only zeros
  -- rule: 4.7, 5.7, 5.12, 6.9, 6.12, 9.1
  -- code: read_frames::read_hard, read_soft, read_bytes
  pub octets : left ≡ octets_found kind agree rec room

-- the hard reader, the soft one, and that of bytes
-- promise: A hard read answers and fills as `Read` says, its octets 0 to 3 being phases, 4 lost and all others unusable
-- rule: 2.1, 2.2, 2.4, 2.5
-- code: dsss_read_hard_3, read_frames::read_hard
abbrev pub ReadHard : ℕ → List ℕ → ℕ → Record → List ℕ → Type 0
ReadHard kind chips room a left = Read kind true (hard_recording chips) room a left

-- promise: A soft read answers and fills as `Read` says, of its two rows of f32; rows that differ in length are refused
-- with 7
-- rule: 2.2, 2.3, 2.6, 6.2
-- code: dsss_read_soft_3, read_soft
abbrev pub ReadSoft : ℕ → List Float → List Float → ℕ → Record → List ℕ → Type 0
ReadSoft kind i q room a left = Read kind (eqb (length i) (length q)) (soft_recording i q) room a left

-- promise: A read of signed bytes answers and fills as `Read` says, of pairs of bytes, I first; an odd number of them
-- is refused with 7
-- rule: 2.2, 2.8, 6.2
-- code: dsss_read_bytes_3, read_bytes
abbrev pub ReadBytes : ℕ → List ℤ → ℕ → Record → List ℕ → Type 0
ReadBytes kind bytes room a left = Read kind (eqb (length bytes % 2) 0) (byte_recording bytes) room a left

-- rows as a recorder hands them in: hard octets, soft I and Q, bytes; and what reading takes of them
pub data Rows : Type 0 where
  in_hard : List ℕ → Rows
  in_soft : List Float → List Float → Rows
  in_bytes : List ℤ → Rows

abbrev pub taken_of : Rows → List Taken
taken_of (in_hard octets) = hard_recording octets
taken_of (in_soft i q) = soft_recording i q
taken_of (in_bytes bytes) = byte_recording bytes

-- a read of them, by the reader of their recorder
abbrev pub ReadRows : ℕ → Rows → ℕ → Record → List ℕ → Type 0
ReadRows kind (in_hard octets) room a left = ReadHard kind octets room a left
ReadRows kind (in_soft i q) room a left = ReadSoft kind i q room a left
ReadRows kind (in_bytes bytes) room a left = ReadBytes kind bytes room a left

-- the reader of the front only: its answer, which says where the payload's chips are
pub record ReadFront (kind : ℕ) (chips : List ℕ) (c : Coming) : Type 0 where
  -- promise: A read of the front answers the definition's record, for every input
  -- rule: 6.15, 9.1
  -- code: dsss_read_front, small_calls::read_front
  pub answer : c ≡ coming_of (kind_of kind) (front_reading kind (hard_recording chips))

-- the part of a recording that is handed back for such an answer; in C it is the two numbers
pub record Handed (c : Coming) (chips part : List ℕ) : Type 0 where
  -- promise: The part that an answer tells of is handed back, for any record and any recording: the recording's own
  -- chips, none where it does not have them. From C it is the two numbers
  -- rule: 6.15
  -- code: small_calls::part
  pub chips_are : part ≡ part_of c.at c.count chips

-- the call that finds a start in a recording, of so many offsets to try: its answer
pub record Finds (kind offsets : ℕ) (chips : List ℕ) (f : Found) : Type 0 where
  -- promise: A search for a start answers the definition's record, for every input
  -- rule: 6.17, 9.1
  -- code: dsss_find, find_start::find
  pub answer : f ≡ found_of (finding_of kind offsets (hard_recording chips))

-- every call with what is handed to it, what it answers and leaves, and which of that its contract allows
pub data Call : Type 0 where
  to_write : (kind rate phase clock : ℕ) (payload : List ℕ) (room : ℕ) → Call
  to_read : (kind : ℕ) (agree : Bool) (rec : List Taken) (room : ℕ) → Call
  to_read_front : (kind : ℕ) (chips : List ℕ) → Call
  to_hand : (c : Coming) (chips : List ℕ) → Call
  to_find : (kind offsets : ℕ) (chips : List ℕ) → Call

abbrev pub Answer : Call → Type 0
Answer (to_write kind rate phase clock payload room) = Written × List ℕ
Answer (to_read kind agree rec room) = Record × List ℕ
Answer (to_read_front kind chips) = Coming
Answer (to_hand c chips) = List ℕ
Answer (to_find kind offsets chips) = Found

abbrev pub Allows : (c : Call) → Answer c → Type 0
Allows (to_write kind rate phase clock payload room) v = Wrote kind rate phase clock payload room v.0 v.1
Allows (to_read kind agree rec room) v = Read kind agree rec room v.0 v.1
Allows (to_read_front kind chips) c = ReadFront kind chips c
Allows (to_hand c chips) part = Handed c chips part
Allows (to_find kind offsets chips) f = Finds kind offsets chips f

-- a good read's answer, and a refused one's with a place and without
abbrev pub good : ℕ → ℕ → ℕ → ℕ → ℕ → ℕ → ℕ → Record
good rate l n used clock lead symbol =
    record {
      number = 0;
      place = 0;
      rate = rate;
      length = l;
      n = n;
      used = used;
      clock = clock;
      lead = lead;
      symbol = symbol;
    }

abbrev pub refused_at : ℕ → ℕ → ℕ → Record
refused_at number place l =
    record {
      number = number;
      place = place;
      rate = 0;
      length = l;
      n = 0;
      used = 0;
      clock = 0;
      lead = 0;
      symbol = 0;
    }

abbrev pub refused : ℕ → ℕ → Record
refused number l = refused_at number 0 l

-- the clock bit that is shown of a clock handed to the writer: 0 is no, any other number yes
abbrev pub shown : ℕ → ℕ
shown zero = 0
shown (suc clock) = 1

-- the smallest lead of a frame as it was sent, in counts, and the first symbol that has it: 11 full chips at 1 and 2
-- Mbit/s, the frame's first; 8 at 5.5 and 4 at 11 Mbit/s, the payload's first. In plain numbers, and the rates by their
-- codes: a promise must not cite the definition (`clean_least` of rules_clean); `lead_is` of proofs/Back.antt joins them
abbrev pub sent_lead : ℕ → ℕ
sent_lead rate = cond (eqb rate 110) 4096 (cond (eqb rate 55) 8192 11264)

abbrev pub sent_symbol : ℕ → ℕ → ℕ
sent_symbol kind rate = cond (eqb rate 110 || eqb rate 55) (cond (eqb kind 0) 192 96) 0

-- the kinds and the rates that go with them, each with the chips of its front and of an octet: a table in plain
-- numbers, which no definition that a reader or a writer computes by may stand for; `known` of proofs/Back.antt joins
-- it to those
pub data Goes : ℕ → ℕ → ℕ → ℕ → Type 0 where
  long_1 : Goes 0 10 2112 88
  long_2 : Goes 0 20 2112 44
  long_5 : Goes 0 55 2112 16
  long_11 : Goes 0 110 2112 8
  short_2 : Goes 1 20 1056 44
  short_5 : Goes 1 55 1056 16
  short_11 : Goes 1 110 1056 8

-- a kind and a rate that goes with it, 1 to 4,095 octets, a starting phase
pub record Sendable (kind rate phase : ℕ) (payload : List ℕ) : Type 0 where
  pub front : ℕ
  pub octet : ℕ
  pub goes : Goes kind rate front octet
  pub some : 1 ≤ length payload
  pub few : length payload ≤ 4095
  pub phase_is : phase < 4
  pub octets : Below 256 payload

-- a write that a buffer of `room` chips holds, with what it answered and left
pub record Sent (kind rate phase clock : ℕ) (payload : List ℕ) (w : Written) (left : List ℕ) : Type 0 where
  pub room : ℕ
  pub sendable : Sendable kind rate phase payload
  pub holds : sendable.front + sendable.octet * length payload ≤ room
  pub wrote : Wrote kind rate phase clock payload room w left

-- a read of chips held by hard octets, by exact soft pairs or by bytes of 64, -64 and 0, and of so many chips of
-- anything after them
pub data ReadOf (kind : ℕ) (chips : List ℕ) (after room : ℕ) (a : Record) (left : List ℕ) : Type 0 where
  of_hard : (tail : List ℕ) → length tail ≡ after → ReadHard kind (chips ++ tail) room a left
      → ReadOf kind chips after room a left
  of_soft : (i q i' q' : List Float) → Exactly chips i q → length i' ≡ after → length q' ≡ after
      → ReadSoft kind (i ++ i') (q ++ q') room a left → ReadOf kind chips after room a left
  of_bytes : (tail : List ℤ) → length tail ≡ 2 * after → ReadBytes kind (byte_row chips ++ tail) room a left
      → ReadOf kind chips after room a left
