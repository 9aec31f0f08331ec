-- `feeding::feed_all`: the first chips of the batch are taken.
use Prim.Native.Nat.{◌-◌}
use lib.ListN.{length}
use Rattle.receive_calls.proofs.Batches.{Gone}
use Rattle.receive_calls.proofs.feeding.feed_all.Given as goal

abbrev pub invariant-loop-at : goal.invariant-loop-at
invariant-loop-at l =
    Gone l.fn.s.progress l.fn.s.hold l.fn.s.preamble l.fn.s.header l.fn.octets l.batch l.at l.progress l.hold l.preamble l.header
    l.octets

abbrev pub decreases-loop-at : goal.decreases-loop-at
decreases-loop-at l = length l.batch - l.at
