-- `hear_codes::grown` meets its contract, rate by rate. Assumes nothing.
use mathlib.Core.Path.{refl}
use native.Mathlib.Omega.{arith}
use borrow.Author.Rules.{rules}
use Rattle.hear_codes.proofs.Codes.{half_turned_lem}
use Rattle.hear_codes.proofs.grown.Statement.{statement}
use Rattle.hear_codes.proofs.grown.Tie as tie

returns : tie.Need-returns-in-One
returns c = rw c.in-One.is (refl, omega arith)

returns_2 : tie.Need-returns-in-Two
returns_2 c = rw c.in-Two.is (refl, omega arith)

returns_3 : tie.Need-returns-in-Five
returns_3 c =
    rw c.in-Five.is
    (half_turned_lem _ _ _ c.args.k c.requires.0 c.requires.1 c.requires.2, omega arith)

returns_4 : tie.Need-returns-in-Eleven
returns_4 c =
    rw c.in-Eleven.is
    (half_turned_lem _ _ _ c.args.k c.requires.0 c.requires.1 c.requires.2, omega arith)

pub grown_spec : {M : Type 1} → statement M
grown_spec =
    tie.close
    (tie.spec
    (λ c. search rules) (λ c. search rules) (λ c. search rules) (λ c. search rules) (λ c. search rules)
    (λ c. search rules) (λ c. search rules) (λ c. search rules) (λ c. search rules) (λ c. search rules)
    (λ c. search rules) (λ c. search rules) (λ c. search rules) (λ c. search rules) (λ c. search rules)
    (λ c. search rules) (λ c. search rules) (λ c. search rules) (λ c. search rules) (λ c. search rules)
    (λ c. search rules) (λ c. search rules) returns returns_2 returns_3 returns_4)
