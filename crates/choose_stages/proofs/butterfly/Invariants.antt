use Rattle.std.proofs.Common.{◌≤◌, map}
use Rattle.choose_walsh.specs.Rows.{Flown}
use Rattle.choose_stages.proofs.butterfly.Given as goal

abbrev pub invariant-loop-l : goal.invariant-loop-l
invariant-loop-l g l =
    let value = g.T.Lane.value in
    (l.l ≤ 16) × Flown (map value l.s) l.x l.y (map value l.fn.o) l.z l.l (map value l.o)
