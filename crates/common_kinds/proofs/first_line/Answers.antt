-- By kinds: the octet's bits, last first, are the scrambler's start.
use Rattle.std.proofs.Common.{refl}
use Rattle.rules_bits.specs.Bits.{bits_of}
use Rattle.common_kinds.proofs.first_line.Goals as goal

pub returns-in-Long : goal.returns-in-Long
unfolding bits_of
returns-in-Long c = record { answer = rw c.in-Long.is (record { at_phase = refl; past = refl }) }

pub returns-in-Short : goal.returns-in-Short
unfolding bits_of
returns-in-Short c = record { answer = rw c.in-Short.is (record { at_phase = refl; past = refl }) }
