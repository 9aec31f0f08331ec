-- `hear_codes::of_eight` meets its contract, by arithmetic. Assumes nothing.
use borrow.Author.Rules.{rules}
use Rattle.hear_codes.specs.Codes.{packed}
use Rattle.hear_codes.proofs.of_eight.Statement.{statement}
use Rattle.hear_codes.proofs.of_eight.Tie as tie

returns : tie.Need-returns
unfolding packed
returns c = search rules

pub of_eight_spec : {M : Type 1} → statement M
of_eight_spec =
    tie.close
    (tie.spec
    (λ c. search rules) (λ c. search rules) (λ c. search rules) (λ c. search rules) (λ c. search rules)
    (λ c. search rules) (λ c. search rules) (λ c. search rules) (λ c. search rules) (λ c. search rules)
    (λ c. search rules) (λ c. search rules) (λ c. search rules) (λ c. search rules) returns)
