-- `hear_codes::code` meets its contract, rate by rate. Assumes nothing.
use mathlib.Core.Path.{◌∙◌}
use native.Mathlib.Omega.{arith}
use borrow.Author.Rules.{rules}
use Rattle.rules_bits.specs.Bits.{number_of}
use Rattle.hear_codes.proofs.Codes.{two_number, four_number}
use Rattle.hear_codes.proofs.code.Statement.{statement}
use Rattle.hear_codes.proofs.code.Tie as tie

returns : tie.Need-returns-in-One
unfolding number_of
returns c = rw c.in-One.is (omega arith, omega arith)

returns_2 : tie.Need-returns-in-Two
returns_2 c =
    rw c.in-Two.is
    (c.two_bits.ensures.0 ∙ two_number c.args.g c.requires, c.two_bits.ensures.1)

returns_3 : tie.Need-returns-in-Five
returns_3 c =
    rw c.in-Five.is
    (c.four_bits.ensures.0 ∙ four_number c.args.g c.args.n c.requires, c.four_bits.ensures.1)

returns_4 : tie.Need-returns-in-Eleven
returns_4 c = rw c.in-Eleven.is (c.eight_bits.ensures, omega arith)

pub code_spec : {M : Type 1} → statement M
code_spec =
    tie.close
    (tie.spec
    (λ c. search rules) (λ c. search rules) (λ c κs. search rules) (λ c. search rules) (λ c κs. search rules)
    (λ c. search rules) (λ c κs. search rules) returns returns_2 returns_3 returns_4)
