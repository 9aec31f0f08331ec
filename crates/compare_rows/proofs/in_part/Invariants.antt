-- So many of the octets up to i differ. Assumes nothing.
use Rattle.std.proofs.Common.{◌+◌, ◌≤◌}
use Rattle.compare_rows.specs.Left.{Between}
use Rattle.compare_rows.proofs.in_part.Given as goal

abbrev pub invariant-loop-i : goal.invariant-loop-i
invariant-loop-i l = (l.n + l.from ≤ l.i) × Between l.a l.b l.from l.i l.n
