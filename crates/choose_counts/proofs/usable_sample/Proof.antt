-- `choose_counts::usable_sample` meets its contract: it asks of each field what the definition asks.
-- Assumes nothing.
use mathlib.Core.Bool.{◌&&◌}
use borrow.Author.Rules.{rules}
use Rattle.choose_counts.proofs.usable_sample.Statement.{statement}
use Rattle.choose_counts.proofs.usable_sample.Tie as tie

returns : tie.Need-returns
returns c = λ j. c.usable.ensures j && c.usable-2.ensures j

pub usable_sample_spec : {M : Type 1} → statement M
usable_sample_spec = tie.close (tie.spec
    (λ c κs. search rules) (λ c κs. search rules) returns)
