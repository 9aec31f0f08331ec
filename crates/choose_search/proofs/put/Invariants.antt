use Rattle.std.proofs.Common.{◌≤◌, ◌*◌, map, get_or, pos}
use Rattle.choose_recorded.specs.Recorded.{Put}
use Rattle.choose_walsh.specs.Search.{word_of_key, lead_of_keys}
use Rattle.choose_search.specs.Keys.{groups}
use Rattle.choose_search.proofs.put.Given as goal

abbrev pub invariant-loop-s : goal.invariant-loop-s
invariant-loop-s g l =
    let value = g.N.Lane.value in
    (l.s ≤ 16)
    × Put (λ j. word_of_key (get_or (map value l.first) j (pos 0)) (get_or (groups value l.at) j 0)) l.l
    l.fn.numbers l.numbers l.s
    × Put (λ j. l.unit * lead_of_keys (get_or (map value l.first) j (pos 0)) (get_or (map value l.second) j (pos 0)))
    l.l l.fn.leads l.leads l.s
