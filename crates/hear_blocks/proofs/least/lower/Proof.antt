-- `hear_blocks::least::lower` meets its contract, by cases. Assumes nothing.
use Rattle.std.proofs.Common.{le-ltb, lt-ltb}
use Rattle.hear_blocks.proofs.least.lower.Statement.{statement}
use Rattle.hear_blocks.proofs.least.lower.Tie as tie

returns : tie.Need-returns-then-x-least
returns c = rw (lt-ltb _ _ c.if-x-least.true)

returns_2 : tie.Need-returns-else-x-least
returns_2 c = rw (le-ltb _ _ c.if-x-least.false)

pub lower_spec : {M : Type 1} → statement M
lower_spec = tie.close (tie.spec
    returns returns_2)
