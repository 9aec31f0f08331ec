-- `odd::first_odd`: what is found from the next octet on is what is found from the start.
use Prim.Native.Nat.{◌+◌, ◌-◌, ◌*◌}
use Rattle.rules_chips.specs.Chips.{hard_recording}
use Rattle.small_calls.proofs.Blocks.{Sought}
use Rattle.small_calls.proofs.odd.first_odd.Given as goal

abbrev pub invariant-loop-k : goal.invariant-loop-k
invariant-loop-k l = Sought (hard_recording l.chips) l.from l.n l.phase (l.from + 88 * l.k) (l.n - l.k) l.before

abbrev pub decreases-loop-k : goal.decreases-loop-k
decreases-loop-k l = l.n - l.k
