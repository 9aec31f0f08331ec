-- The halves of so many chips more are those from there on. Assumes nothing.
use Rattle.std.proofs.Common.{◌≡◌, ◌+◌, ap, arith}
use Rattle.rules_chips.specs.Chips.{hard_recording}
use Rattle.find_sweep.specs.Sweep.{half_at}
use Rattle.find_sweep.proofs.Rows.{row_added}
use Rattle.find_sweep.proofs.decide.Goals as goal

pub loop-l-preserved : goal.loop-l-preserved
loop-l-preserved c =
    let l = c.loop-l.l in
    row_added
    (λ j. let e : c.args.at + l + j ≡ c.args.at + (l + j) = omega arith in
    ap (half_at (hard_recording c.args.octets.now)) e)
    c.loop-l.invariant c.halves_from.ensures.halves
