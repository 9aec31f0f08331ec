-- The first l entries are joined, the others as they were. Assumes nothing.
use Rattle.find_sweep.specs.Sweep.{Worked, joined_of}
use Rattle.find_sweep.proofs.join.Given as goal

abbrev pub invariant-loop-l : goal.invariant-loop-l
invariant-loop-l l = Worked (joined_of l.apart l.by l.fn.row) l.fn.row l.l l.row
