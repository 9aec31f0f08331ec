-- `common_words::quarters` meets its contract: it computes. Assumes nothing.
use mathlib.Core.Path.{refl}
use borrow.Author.Rules.{rules}
use Rattle.common_words.specs.Octets.{quarters}
use Rattle.common_words.proofs.quarters.Statement.{statement}
use Rattle.common_words.proofs.quarters.Tie as tie

returns : tie.Need-returns
unfolding quarters
returns c = refl

pub quarters_spec : {M : Type 1} → statement M
quarters_spec =
    tie.close
    (tie.spec
    (λ c. search rules) (λ c. search rules) (λ c. search rules) (λ c. search rules) (λ c. search rules)
    (λ c. search rules) (λ c. search rules) (λ c. search rules) returns)
