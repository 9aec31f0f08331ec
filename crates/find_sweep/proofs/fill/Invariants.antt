-- So many halves are filled in. Assumes nothing.
use Rattle.find_sweep.specs.Sweep.{Added, half_of}
use Rattle.find_sweep.proofs.fill.Given as goal

abbrev pub invariant-loop-k : goal.invariant-loop-k
invariant-loop-k l = Added (half_of l.evens l.odds) l.l l.initial.halves l.halves l.k
