-- The first l bits are unscrambled, the others as they were. Assumes nothing.
use Rattle.find_sweep.specs.Sweep.{Worked, plain_of}
use Rattle.find_sweep.proofs.plains.Given as goal

abbrev pub invariant-loop-l : goal.invariant-loop-l
invariant-loop-l l = Worked (plain_of l.fn.row) l.fn.row l.l l.row
