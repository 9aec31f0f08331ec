use Rattle.std.proofs.Common.{◌≤◌, ◌*◌, map}
use Rattle.choose_walsh.specs.Search.{Sought}
use Rattle.choose_search.specs.Keys.{groups}
use Rattle.choose_search.proofs.search.Given as goal

abbrev pub invariant-loop-p3 : goal.invariant-loop-p3
invariant-loop-p3 g l =
    let value = g.N.Lane.value in
    (l.p3 ≤ 4) × Sought (map value l.a) (4 * l.p3) (map value l.first) (map value l.second)
    (groups value l.at)
