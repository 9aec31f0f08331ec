-- `find_sweep::mark` meets its contract: four numbers that are these give 1. Assumes nothing.
use native.Mathlib.Omega.{arith}
use borrow.Author.Rules.{rules}
use borrow.Author.Tests.{eq-eqb}
use Rattle.find_sweep.proofs.mark.Statement.{statement}
use Rattle.find_sweep.proofs.mark.Tie as tie

returns : tie.Need-returns
returns c = λ a b d e. rw (eq-eqb _ _ a, eq-eqb _ _ b, eq-eqb _ _ d, eq-eqb _ _ e) (λ z. omega (arith, z))

pub mark_spec : {M : Type 1} → statement M
mark_spec =
    tie.close (tie.spec
    (λ c. search rules) returns)
