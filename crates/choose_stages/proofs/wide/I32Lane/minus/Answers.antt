use lib.Dec.{lit<}
use Rattle.choose_stages.proofs.Widths.{minus_fits, minus_is}
use Rattle.choose_stages.proofs.wide.I32Lane.minus.Goals as goal

pub overflow_sub-result : goal.overflow_sub-result
overflow_sub-result c = minus_fits (lit< tt) c.ranges.self c.ranges.other c.requires

pub returns : goal.returns
returns c = record { answer = minus_is (lit< tt) c.ranges.self c.ranges.other c.requires }
