use lib.Dec.{lit<}
use Rattle.choose_stages.proofs.Widths.{plus_fits, plus_is}
use Rattle.choose_stages.proofs.narrow.I16Lane.plus.Goals as goal

pub overflow_add-result : goal.overflow_add-result
overflow_add-result c = plus_fits (lit< tt) c.ranges.self c.ranges.other c.requires

pub returns : goal.returns
returns c = record { answer = plus_is (lit< tt) c.ranges.self c.ranges.other c.requires }
