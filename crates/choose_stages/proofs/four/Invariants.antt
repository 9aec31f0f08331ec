use Rattle.std.proofs.Common.{◌≤◌, [], ◌∷◌, map, pos}
use Rattle.choose_walsh.specs.Rows.{FourWithin, FourScaled}
use Rattle.choose_stages.proofs.four.Given as goal

abbrev pub invariant-loop-l : goal.invariant-loop-l
invariant-loop-l g l =
    let lane = g.T.Lane in
    (l.l ≤ 32) × FourScaled (lane.chips l.row) l.x (pos 16 ∷ pos 16 ∷ l.third ∷ l.fourth ∷ [])
    (pos 0 ∷ pos 0 ∷ pos 0 ∷ l.more ∷ []) (map lane.value l.fn.z) l.l (map lane.value l.z)
    × FourWithin lane.most (lane.chips l.row) l.x l.l
