-- The first k sides are filled in, in both rows. Assumes nothing.
use Rattle.find_sweep.specs.Sweep.{Sides}
use Rattle.find_sweep.proofs.sides.Given as goal

abbrev pub invariant-loop-k : goal.invariant-loop-k
invariant-loop-k l = Sides l.octets l.at l.k l.evens × Sides l.octets l.at l.k l.odds
