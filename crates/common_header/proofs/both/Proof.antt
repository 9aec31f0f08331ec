-- `common_header::both` meets its contract: the number of two octets, each below 256. Assumes nothing.
use mathlib.Core.Path.{sym}
use borrow.Author.Rules.{rules}
use Rattle.rules_bits.proofs.Bits.{number_two}
use Rattle.common_header.proofs.both.Statement.{statement}
use Rattle.common_header.proofs.both.Tie as tie

returns : tie.Need-returns
returns c = (sym (number_two c.args.low c.args.high (search rules) (search rules)), search rules)

pub both_spec : {M : Type 1} → statement M
both_spec = tie.close (tie.spec
    (λ c. search rules) (λ c. search rules) returns)
