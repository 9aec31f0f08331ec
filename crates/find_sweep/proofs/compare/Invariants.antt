-- The first l entries are marks, the others as they were. Assumes nothing.
use Rattle.find_sweep.proofs.Comparing.{Comparing}
use Rattle.find_sweep.proofs.compare.Given as goal

abbrev pub invariant-loop-l : goal.invariant-loop-l
invariant-loop-l l = Comparing l.low l.high l.fn.row l.l l.row
