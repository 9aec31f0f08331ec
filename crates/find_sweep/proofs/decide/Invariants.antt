-- The halves below l are known. Assumes nothing.
use Rattle.std.proofs.Common.{◌+◌, ◌-◌}
use Rattle.rules_chips.specs.Chips.{hard_recording}
use Rattle.find_sweep.specs.Sweep.{half_at, Row}
use Rattle.find_sweep.proofs.decide.Given as goal

abbrev pub invariant-loop-l : goal.invariant-loop-l
invariant-loop-l l = Row (λ j. half_at (hard_recording l.octets) (l.at + j)) l.l l.halves

abbrev pub decreases-loop-l : goal.decreases-loop-l
decreases-loop-l l = l.count - l.l
