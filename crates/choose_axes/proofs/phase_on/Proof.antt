-- `choose_axes::phase_on` meets its contract: each arm is the definition's.
-- Assumes nothing.
use mathlib.Core.Path.{sym, ap}
use borrow.Author.Rules.{rules}
use Rattle.choose_axes.specs.Axes.{phase_on}
use Rattle.choose_axes.proofs.phase_on.Statement.{statement}
use Rattle.choose_axes.proofs.phase_on.Tie as tie

returns : tie.Need-returns-in-I
returns c = sym (ap phase_on c.in-I.is)

returns_2 : tie.Need-returns-in-Q
returns_2 c = sym (ap phase_on c.in-Q.is)

pub phase_on_spec : {M : Type 1} → statement M
phase_on_spec = tie.close (tie.spec
    (λ c. search rules) (λ c. search rules) returns returns_2)
