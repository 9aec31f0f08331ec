-- What is left: as many zeros as steps.
use Rattle.std.proofs.Common.{◌≡◌, ◌-◌, replicate}
use Rattle.rules_bits.specs.Bits.{bits_of}
use Rattle.rules_bits.specs.Crc.{remainder}
use Rattle.common_header.proofs.crc.crc_octet.Given as goal

abbrev pub invariant-loop-step : goal.invariant-loop-step
invariant-loop-step l =
    remainder (bits_of 16 l.r) (replicate (8 - l._step) 0) ≡ remainder (bits_of 16 l.fn.r) (bits_of 8 l.x)
