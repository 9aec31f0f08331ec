-- What the call that reads as the guides of 1997 do promises: the record that its contract in crate dsss cites, so that
-- what is proved of it is proved of the program (RULES 6.30, 9.1).
-- Definitions only. Assumes nothing.
use Rattle.std.specs.Prelude.{ℕ, ◌≡◌, List}
use Rattle.rules_chips.specs.Chips.{hard_recording}
use Rattle.rules_calls.specs.declared.Record.{Record}
use Rattle.rules_calls.specs.Answers.{record_of}
use Rattle.rules_reading.specs.Guides.{reading1997, octets1997}

-- a hard recording read as a guide of 1997 reads it: the answer, and the octet buffer of `room` octets at the end
pub record Read1997 (chips : List ℕ) (room : ℕ) (a : Record) (left : List ℕ) : Type 0 where
  -- promise: A read as a guide of 1997 answers the definition's record, for every recording
  -- rule: 6.30, 9.1
  -- code: dsss_read_1997, read_frames::read_1997
  pub answer : a ≡ record_of (reading1997 (hard_recording chips) room)
  -- promise: The octet buffer at the end is the payload and then zeros; after a refusal only zeros
  -- rule: 6.30, 6.9, 9.1
  -- code: dsss_read_1997, read_frames::read_1997
  pub octets : left ≡ octets1997 (hard_recording chips) room
