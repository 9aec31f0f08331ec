-- One more at the entry of its number. Assumes nothing.
use Rattle.std.proofs.Common.{arith}
use Rattle.rules_report.proofs.Lists.{takes, more_set}
use Rattle.report_count.proofs.with_refusal.Goals as goal

pub overflow_add-q : goal.overflow_add-q
overflow_add-q c = omega (arith, (takes c.args.p c.requires.0).seen_below)

pub overflow_add-q-2 : goal.overflow_add-q-2
overflow_add-q-2 c = omega (arith, (takes c.args.p c.requires.0).refused_within c.args.number)

pub returns : goal.returns
returns c = record { answer = λ o e. rw (e, more_set) }
