-- So many of the octets of the blocks so far differ. Assumes nothing.
use Rattle.std.proofs.Common.{◌+◌, ◌*◌, ◌≤◌}
use Rattle.compare_rows.specs.Left.{Between}
use Rattle.compare_rows.proofs.how_many.Given as goal

abbrev pub invariant-loop-block : goal.invariant-loop-block
invariant-loop-block l = (l.n ≤ 64 * l.block) × Between l.a l.b l.from (l.from + 64 * l.block) l.n
