-- The first l bits are filled in. Assumes nothing.
use Rattle.find_sweep.specs.Sweep.{Worked, bit_of}
use Rattle.find_sweep.proofs.bits.Given as goal

abbrev pub invariant-loop-l : goal.invariant-loop-l
invariant-loop-l l = Worked (bit_of l.halves) l.fn.row l.l l.row
