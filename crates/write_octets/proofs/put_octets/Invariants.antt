-- The first i octets are written, and l is the state after them.
use Rattle.std.proofs.Common.{◌≡◌, take}
use Rattle.base.specs.Over.{over}
use Rattle.write_octets.specs.Sending.{run, ran}
use Rattle.write_octets.specs.Line.{state}
use Rattle.write_octets.proofs.put_octets.Given as goal

abbrev pub invariant-loop-i : goal.invariant-loop-i
invariant-loop-i l = record {
  sent : state l.l ≡ ran l.r 0 (state l.initial.l) (take l.i l.octets);
  written : l.chips ≡ over (run l.r 0 (state l.initial.l) (take l.i l.octets)) l.initial.chips;
}
