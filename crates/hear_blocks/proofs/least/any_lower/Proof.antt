-- `hear_blocks::least::any_lower` meets its contract: either call does. Assumes nothing.
use Rattle.std.proofs.Common.{arith}
use Rattle.hear_blocks.proofs.least.any_lower.Statement.{statement}
use Rattle.hear_blocks.proofs.least.any_lower.Tie as tie

returns : tie.Need-returns-then-m-eq64
returns c e j h = c.any_below.ensures e j (omega arith)

pub any_lower_spec : {M : Type 1} → statement M
any_lower_spec = tie.close (tie.spec
    (λ c κs. (omega arith, c.requires.1)) (λ c κs. c.requires) returns (λ c. c.any_below-else-m-eq64.ensures))
