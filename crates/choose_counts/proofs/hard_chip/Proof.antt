-- `choose_counts::hard_chip` meets its contract: the test with 4 is the definition's.
-- Assumes nothing.
use borrow.Author.Tests.{eq-eqb, ne_eqb}
use Rattle.choose_counts.proofs.hard_chip.Statement.{statement}
use Rattle.choose_counts.proofs.hard_chip.Tie as tie

returns : tie.Need-returns-then-x-eq4
returns c = simp (eq-eqb _ _ c.if-x-eq4.true)

returns_2 : tie.Need-returns-else-x-eq4
returns_2 c = simp (ne_eqb _ _ c.if-x-eq4.false)

pub hard_chip_spec : {M : Type 1} → statement M
hard_chip_spec = tie.close (tie.spec
    returns returns_2)
