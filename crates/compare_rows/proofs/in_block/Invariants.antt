-- So many of the first k octets differ. Assumes nothing.
use Rattle.std.proofs.Common.{◌+◌, ◌≤◌}
use Rattle.compare_rows.specs.Left.{Between}
use Rattle.compare_rows.proofs.in_block.Given as goal

abbrev pub invariant-loop-k : goal.invariant-loop-k
invariant-loop-k l = (l.n ≤ l.k) × Between l.a l.b l.at (l.at + l.k) l.n
