-- What each recorder makes of the chips that are lent.
-- Definitions only. Assumes nothing.
-- working notion: of the contracts of the recorders; no promise needs it
use Rattle.std.specs.Prelude.{List}
use Rattle.rules_chips.specs.Chips.{Taken, hard_recording, soft_recording, byte_recording}
use Rattle.choose_recorders.specs.declared.Recording.{Recording}
use Rattle.choose_recorders.specs.declared.Recording.TheVariants.{Hard, Soft, Bytes}

-- a hard recording is its octets, a soft one its two rows of f32, one of bytes its signed bytes
abbrev pub taken_of : Recording → List Taken
taken_of (Hard octets) = hard_recording octets.now
taken_of (Soft i q) = soft_recording i.now q.now
taken_of (Bytes bytes) = byte_recording bytes.now
