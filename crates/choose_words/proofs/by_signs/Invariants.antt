-- x is the sum so far
use Rattle.std.proofs.Common.{map}
use Rattle.choose_sums.proofs.Signs.{Summed}
use Rattle.choose_words.proofs.by_signs.Given as goal

abbrev pub invariant-loop-k : goal.invariant-loop-k
invariant-loop-k g l =
    let n = g.T.Number in
    Summed n.most (map n.whole l.c) (n.whole l.x) l.k
