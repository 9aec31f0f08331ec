-- The report is that of the recordings so far. Assumes nothing.
use Rattle.std.proofs.Common.{◌≡◌, length}
use Rattle.report_count.proofs.Firsts.{firsts}
use Rattle.report_count.proofs.of_list.Given as goal

abbrev pub invariant-loop-kind : goal.invariant-loop-kind
invariant-loop-kind l = l.report ≡ firsts l.kinds l.list (length l.yielded)
