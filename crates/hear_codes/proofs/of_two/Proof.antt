-- `hear_codes::of_two` meets its contract, by arithmetic. Assumes nothing.
use borrow.Author.Rules.{rules}
use Rattle.hear_codes.specs.Codes.{packed}
use Rattle.hear_codes.proofs.of_two.Statement.{statement}
use Rattle.hear_codes.proofs.of_two.Tie as tie

returns : tie.Need-returns
unfolding packed
returns c = search rules

pub of_two_spec : {M : Type 1} → statement M
of_two_spec =
    tie.close
    (tie.spec
    (λ c. search rules) (λ c. search rules) returns)
