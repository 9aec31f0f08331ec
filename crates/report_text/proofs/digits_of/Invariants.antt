-- k is 1 and the digits passed; those left are counted in what is left of the number. Assumes nothing.
use Rattle.std.proofs.Common.{◌≡◌, ◌+◌, ◌-◌}
use Rattle.rules_report.specs.Text.{places}
use Rattle.report_text.proofs.digits_of.Given as goal

abbrev pub invariant-loop-k : goal.invariant-loop-k
invariant-loop-k l = 1 + places 19 l.x ≡ l.k + places (20 - l.k) l.rest
