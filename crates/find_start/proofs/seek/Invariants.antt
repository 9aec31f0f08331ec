-- `seek`: the fronts from the first j offsets meet one of 8 to 15.
use lib.ListN.{drop}
use Rattle.rules_chips.specs.Chips.{hard_recording}
use Rattle.rules_finding.proofs.Laws.{AllMissed}
use Rattle.find_start.proofs.seek.Given as goal

abbrev pub invariant-loop-j : goal.invariant-loop-j
invariant-loop-j l = AllMissed l.kind l.j (drop l.at (hard_recording l.chips))
