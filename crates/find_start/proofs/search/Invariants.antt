-- `search`: the fronts from the offsets before this one meet one of 8 to 15, and the first halves from here on are
-- known.
use mathlib.Core.Path.{◌≡◌}
use Prim.Native.Nat.{◌+◌, ◌-◌, ◌<◌}
use lib.ListN.{length}
use Rattle.rules_chips.specs.Chips.{hard_recording}
use Rattle.find_sweep.specs.Sweep.{half_at, Row}
use Rattle.find_start.proofs.Windows.{MissedBelow}
use Rattle.find_start.proofs.search.Given as goal

abbrev pub invariant-loop-at : goal.invariant-loop-at
invariant-loop-at l =
    (length l.halves ≡ 512) × (length l.marks ≡ 512)
    × MissedBelow l.kind (hard_recording l.chips) l.at l.tried
    × (l.at < l.tried → Row (λ j. half_at (hard_recording l.chips) (l.from + l.at + j)) l.known l.halves)

abbrev pub decreases-loop-at : goal.decreases-loop-at
decreases-loop-at l = l.tried - l.at
