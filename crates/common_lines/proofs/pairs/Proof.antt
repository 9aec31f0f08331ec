-- `common_lines::pairs` meets its contract: `pairs_masked`. Assumes nothing.
use native.Mathlib.Omega.{arith}
use lib.Bits.{and_le_r}
use Rattle.rules_bits.proofs.PairLaws.{pairs_masked}
use Rattle.common_lines.proofs.pairs.Statement.{statement}
use Rattle.common_lines.proofs.pairs.Tie as tie

mul_result : tie.Need-overflow_mul-result
mul_result c = let o = c.args.o in omega (arith, and_le_r o 0x55)

add_result : tie.Need-overflow_add-result
add_result c = let o = c.args.o in omega (arith, and_le_r o 0x55, and_le_r o 0xAA)

returns : tie.Need-returns
returns c = pairs_masked c.args.o (omega arith)

pub pairs_spec : {M : Type 1} → statement M
pairs_spec = tie.close (tie.spec
    mul_result add_result returns)
