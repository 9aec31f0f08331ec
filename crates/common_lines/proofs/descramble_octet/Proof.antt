-- `common_lines::descramble_octet` meets its contract: `unscrambled_number`. Assumes nothing.
use native.Mathlib.Omega.{arith}
use borrow.Author.Rules.{rules}
use Rattle.rules_bits.proofs.Mixing.{unscrambled_number}
use Rattle.common_lines.proofs.descramble_octet.Statement.{statement}
use Rattle.common_lines.proofs.descramble_octet.Tie as tie

returns : tie.Need-returns
returns c = unscrambled_number c.args.past c.args.x (omega arith) (omega arith)

pub descramble_octet_spec : {M : Type 1} → statement M
descramble_octet_spec = tie.close (tie.spec
    (λ c. search rules) (λ c. search rules) returns)
