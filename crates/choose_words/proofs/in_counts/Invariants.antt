-- the first l leads are in counts
use Rattle.std.proofs.Common.{map, get_or}
use Rattle.base.specs.Tables.{Filled}
use Rattle.choose_words.proofs.in_counts.Given as goal

abbrev pub invariant-loop-l : goal.invariant-loop-l
invariant-loop-l g l = Filled (λ j. get_or (map g.L.Told.counts l.told) j 0) 64 l.leads l.l
