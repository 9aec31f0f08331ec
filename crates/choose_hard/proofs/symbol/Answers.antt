use Rattle.std.proofs.lemmas.List.{length-replicate}
use Rattle.base.proofs.Tables.{filled_none, filled_more, filled_all}
use Rattle.choose_hard.proofs.symbol.Goals as goal

pub loop-k-init : goal.loop-k-init
loop-k-init g c = filled_none _ g.row.N _ (length-replicate g.row.N _)

pub loop-k-preserved : goal.loop-k-preserved
loop-k-preserved g c = filled_more _ c.loop-k.invariant c.loop-k-test.true c.hard_chip.ensures.answer

pub returns : goal.returns
returns g c = record { answer = filled_all c.loop-k.invariant c.loop-k-test.false }
