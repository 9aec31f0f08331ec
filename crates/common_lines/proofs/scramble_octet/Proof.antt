-- `common_lines::scramble_octet` meets its contract: `scrambled_octet`. Assumes nothing.
use mathlib.Core.Path.{refl}
use native.Mathlib.Omega.{arith}
use borrow.Author.Rules.{rules}
use Rattle.rules_bits.proofs.Mixing.{scrambled_octet}
use Rattle.common_lines.proofs.scramble_octet.Statement.{statement}
use Rattle.common_lines.proofs.scramble_octet.Tie as tie

returns : tie.Need-returns
returns c = scrambled_octet c.args.past c.args.x _ _ (omega arith) refl refl

pub scramble_octet_spec : {M : Type 1} → statement M
scramble_octet_spec = tie.close (tie.spec
    (λ c. search rules) (λ c. search rules) returns)
