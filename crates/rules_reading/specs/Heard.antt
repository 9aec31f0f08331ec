-- What was heard of a front, whether or not it is then refused: the SFD's sixteen bits, the header's 48, and its three
-- fields as numbers (RULES 5.3, 5.4).
-- Definitions only. Assumes nothing.
use Rattle.std.specs.Prelude.{ℕ, List, take, drop}
use Rattle.rules_chips.specs.Chips.{Taken}
use Rattle.rules_bits.specs.Bits.{number_of}
use Rattle.rules_frame.specs.declared.Kind.{Kind}
use Rattle.rules_frame.specs.Frame.{sync_bits, preamble_length}
use Rattle.rules_reading.specs.Reading.{front_bits}

abbrev pub sfd_heard : Kind → List Taken → List ℕ
sfd_heard k rec = take 16 (drop (sync_bits k) (front_bits k rec))

abbrev pub header_heard : Kind → List Taken → List ℕ
header_heard k rec = drop (preamble_length k) (front_bits k rec)

abbrev pub signal_heard : Kind → List Taken → ℕ
signal_heard k rec = number_of (take 8 (header_heard k rec))

abbrev pub service_heard : Kind → List Taken → ℕ
service_heard k rec = number_of (take 8 (drop 8 (header_heard k rec)))

abbrev pub length_heard : Kind → List Taken → ℕ
length_heard k rec = number_of (take 16 (drop 16 (header_heard k rec)))
