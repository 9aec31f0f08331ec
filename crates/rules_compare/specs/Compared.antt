-- Two hard recordings of one kind compared (RULES 6.29): the answer, and the octets that differ. Each recording is read
-- as any other, with room of its own; the chips are compared whatever comes of that.
-- Definitions only. Assumes nothing.
use Rattle.rules_calls.specs.declared.Refusal.{Refusal}
use Rattle.std.specs.Prelude.{ℕ, true, List, [], length, Result, Ok, Err}
use Rattle.rules_chips.specs.Chips.{Taken, hard_recording}
use Rattle.rules_frame.specs.declared.Kind.{Kind}
use Rattle.rules_frame.specs.Frame.{kind_of}
use Rattle.rules_calls.specs.declared.Reading.{Reading}
use Rattle.rules_calls.specs.Answers.{record_of}
use Rattle.rules_reading.specs.Reading.{payload_of, reading_of}
use Rattle.rules_compare.specs.declared.Compared.{Compared}
use Rattle.rules_compare.specs.Differences.{Difference, differences}

-- the reading of a hard recording
abbrev pub hard_reading : ℕ → List ℕ → ℕ → Result Reading Refusal
hard_reading kind chips room = reading_of kind true (hard_recording chips) room

-- where the payloads of two readings differ, if both are accepted; else no entry
abbrev pub payload_differences : Kind → List Taken → List Taken → Result Reading Refusal → Result Reading Refusal → List Difference
payload_differences k a b (Err e) other = []
payload_differences k a b (Ok g) (Err e) = []
payload_differences k a b (Ok g) (Ok g') =
    differences (payload_of k g.told.rate g.told.n a) (payload_of k g'.told.rate g'.told.n b)

-- the octets of a reading's payload, if the other one is accepted too; else 0
abbrev pub length_beside : Result Reading Refusal → Result Reading Refusal → ℕ
length_beside (Err e) other = 0
length_beside (Ok g) (Err e) = 0
length_beside (Ok g) (Ok g') = g.told.n

-- the list of octets
unfoldable pub octet_list : ℕ → List ℕ → List ℕ → ℕ → ℕ → List Difference
octet_list kind a b room room' =
    payload_differences (kind_of kind) (hard_recording a) (hard_recording b) (hard_reading kind a room)
    (hard_reading kind b room')

-- the answer: both records, how many entries each list has, and the two payloads' octets
unfoldable pub compared_of : ℕ → List ℕ → List ℕ → ℕ → ℕ → Compared
compared_of kind a b room room' =
    record {
      a = record_of (hard_reading kind a room);
      b = record_of (hard_reading kind b room');
      chips = length (differences a b);
      octets = length (octet_list kind a b room room');
      n_a = length_beside (hard_reading kind a room) (hard_reading kind b room');
      n_b = length_beside (hard_reading kind b room') (hard_reading kind a room);
    }
