-- `write_octets::grown_cck` meets its contract: a sum modulo 4. Assumes nothing.
use native.Mathlib.Omega.{arith}
use borrow.Author.Rules.{rules}
use Rattle.write_octets.proofs.grown_cck.Statement.{statement}
use Rattle.write_octets.proofs.grown_cck.Tie as tie

returns : tie.Need-returns
returns c = omega arith

pub grown_cck_spec : {M : Type 1} → statement M
grown_cck_spec =
    tie.close
    (tie.spec
    (λ c κs. search rules) (λ c. search rules) (λ c. search rules) (λ c. search rules) (λ c. search rules) returns)
