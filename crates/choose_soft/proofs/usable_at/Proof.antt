-- `choose_soft::usable_at` meets its contract: a chip is usable when its sample is.
-- Assumes nothing.
use mathlib.Core.Path.{sym, ap, ◌∙◌}
use mathlib.Core.Bool.{not, not-not}
use borrow.Author.Rules.{rules}
use Rattle.rules_chips.proofs.Usable.{soft_at}
use Rattle.choose_soft.proofs.usable_at.Statement.{statement}
use Rattle.choose_soft.proofs.usable_at.Tie as tie

returns : tie.Need-returns
returns c =
    c.usable_sample.ensures
    ∙ sym (ap not (soft_at c.args.i.now c.args.q.now c.args.at c.requires.0
    c.requires.1)
    ∙ not-not _)

pub usable_at_spec : {M : Type 1} → statement M
usable_at_spec = tie.close (tie.spec
    (λ c. search rules) (λ c. search rules) (λ c. search rules) (λ c. search rules) (λ c κs. search rules) returns)
