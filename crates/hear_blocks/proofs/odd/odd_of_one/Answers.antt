-- `odd::odd_of_one`: what the quick test passes has none.
use Rattle.std.proofs.Common.{sym, arith}
use Rattle.rules_reading.proofs.FirstOdd.{row_none}
use Rattle.hear_blocks.proofs.odd.odd_of_one.Goals as goal

pub returns-else-any_odd : goal.returns-else-any_odd
returns-else-any_odd c = record {
  answer = sym (row_none c.args.place c.args.g c.args.m (omega arith) (c.any_odd.ensures.answer c.if-any_odd.false));
}
