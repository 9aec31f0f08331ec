-- The lines of the first k rates are put. Assumes nothing.
use Rattle.report_text.specs.Placed.{PutOn, rate_lines}
use Rattle.report_text.proofs.Page.rate_lines.Given as goal

abbrev pub invariant-loop-k : goal.invariant-loop-k
invariant-loop-k l = PutOn (rate_lines l.k l.frames l.octets) l.fn.self l.self
