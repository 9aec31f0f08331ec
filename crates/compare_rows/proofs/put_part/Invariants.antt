-- The entries up to i are put. Assumes nothing.
use Rattle.compare_rows.specs.Left.{Put}
use Rattle.compare_rows.proofs.put_part.Given as goal

abbrev pub invariant-loop-i : goal.invariant-loop-i
invariant-loop-i l = Put l.a l.b l.from l.i l.fn.row l.p l.row l.q
