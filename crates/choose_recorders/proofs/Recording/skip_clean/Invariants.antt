-- `Recording::skip_clean`: what is found from here on is what is found from the start.
use mathlib.Core.Path.{◌≡◌}
use Prim.Native.Nat.{◌-◌}
use lib.ListN.{take, drop}
use Rattle.rules_reading.specs.Reading.{first_unusable}
use Rattle.choose_recorders.specs.Rows.{taken_of}
use Rattle.choose_recorders.proofs.Recording.skip_clean.Given as goal

abbrev pub invariant-loop-at : goal.invariant-loop-at
invariant-loop-at l =
    first_unusable l.from (take (l.to - l.from) (drop l.from (taken_of l.self)))
    ≡ first_unusable l.at (take (l.to - l.at) (drop l.at (taken_of l.self)))

abbrev pub decreases-loop-at : goal.decreases-loop-at
decreases-loop-at l = l.to - l.at
