-- `choose_hard::usable_at` meets its contract: an octet up to 4 is usable.
-- Assumes nothing.
use mathlib.Core.Path.{sym, ap, ◌∙◌}
use mathlib.Core.Bool.{not, not-not}
use borrow.Author.Rules.{rules}
use Rattle.rules_chips.proofs.Usable.{hard_at}
use Rattle.choose_hard.proofs.usable_at.Statement.{statement}
use Rattle.choose_hard.proofs.usable_at.Tie as tie

returns : tie.Need-returns
returns c =
    sym (ap not (hard_at c.args.octets.now c.args.at c.requires) ∙ not-not _)

pub usable_at_spec : {M : Type 1} → statement M
usable_at_spec = tie.close (tie.spec
    (λ c. search rules) returns)
