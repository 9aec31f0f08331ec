-- `hear_octets`: the first k octets are heard and stored.
use Prim.Native.Nat.{◌+◌, ◌-◌, ◌*◌}
use lib.ListN.{length}
use Rattle.rules_rates.specs.Rates.{octet_chips}
use Rattle.choose_recorders.specs.Rows.{taken_of}
use Rattle.hear_parts.proofs.Parts.{Parts}
use Rattle.hear_parts.proofs.hear_octets.Given as goal

abbrev pub invariant-loop-k : goal.invariant-loop-k
invariant-loop-k l =
    Parts l.rate l.at (taken_of l.rec) l.fn.line l.symbol l.fn.least l.fn.out l.part (l.at + octet_chips l.rate * l.k) l.k l.out

abbrev pub decreases-loop-k : goal.decreases-loop-k
decreases-loop-k l = length l.fn.out - l.k
