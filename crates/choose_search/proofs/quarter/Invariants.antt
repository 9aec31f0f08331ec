use Rattle.std.proofs.Common.{◌≤◌, map}
use Rattle.choose_walsh.specs.Search.{Quartered}
use Rattle.choose_search.specs.Keys.{groups}
use Rattle.choose_search.proofs.quarter.Given as goal

abbrev pub invariant-loop-l : goal.invariant-loop-l
invariant-loop-l g l =
    let value = g.N.Lane.value in
    (l.l ≤ 16) × Quartered (map value l.a) l.p3 (map value l.fn.first) (map value l.fn.second)
    (groups value l.fn.at) l.l (map value l.first) (map value l.second) (groups value l.at)
