-- The entries of the blocks so far are put. Assumes nothing.
use Rattle.std.proofs.Common.{◌*◌, ◌≤◌, length}
use Rattle.compare_rows.specs.Left.{Put}
use Rattle.compare_rows.proofs.put_blocks.Given as goal

abbrev pub invariant-loop-block : goal.invariant-loop-block
invariant-loop-block l = Put l.a l.b 0 (64 * l.block) l.fn.row 0 l.row l.p × (l.p ≤ length l.fn.row)
