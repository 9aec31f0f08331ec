-- The words of the first i phases are written.
use Rattle.std.proofs.Common.{◌≡◌, take}
use Rattle.base.specs.Over.{over}
use Rattle.write_octets.specs.Line.{barker_words}
use Rattle.write_octets.proofs.puts.put_barkers.Given as goal

abbrev pub invariant-loop-i : goal.invariant-loop-i
invariant-loop-i l = l.chips ≡ over (barker_words (take l.i l.phases)) l.initial.chips
