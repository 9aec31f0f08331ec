-- The lines of the refusals before this one are put. Assumes nothing.
use Rattle.std.proofs.Common.{◌-◌}
use Rattle.rules_report.specs.Text.{refused_lines}
use Rattle.report_text.specs.Placed.{PutOn}
use Rattle.report_text.proofs.Page.refused_lines.Given as goal

abbrev pub invariant-loop-number : goal.invariant-loop-number
invariant-loop-number l = PutOn (refused_lines (l.number - 1) l.refused) l.fn.self l.self
