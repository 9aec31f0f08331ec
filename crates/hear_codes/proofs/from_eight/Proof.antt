-- `hear_codes::from_eight` meets its contract: the symbols listed, and packed. Assumes nothing.
use mathlib.Core.Path.{sym, ap, ◌∙◌}
use native.Mathlib.Omega.{arith}
use borrow.Author.Rules.{rules}
use Rattle.hear_codes.specs.Codes.{packed}
use Rattle.hear_codes.proofs.Codes.{eight_from}
use Rattle.hear_codes.proofs.from_eight.Statement.{statement}
use Rattle.hear_codes.proofs.from_eight.Tie as tie

of_eight_requires : tie.Need-of_eight-requires
of_eight_requires c κs =
    let low = c.requires.2.at in
    (low _, low _, low _, low _, low _, low _, low _, low _)

returns : tie.Need-returns
returns c =
    c.of_eight.ensures
    ∙ ap (packed 1) (sym (eight_from c.args.c.now c.args.k (omega (arith, c.requires.1))))

pub from_eight_spec : {M : Type 1} → statement M
from_eight_spec =
    tie.close
    (tie.spec
    (λ c. search rules) (λ c. search rules) (λ c. search rules) (λ c. search rules) (λ c. search rules)
    (λ c. search rules) (λ c. search rules) (λ c. search rules) (λ c. search rules) (λ c. search rules)
    (λ c. search rules) (λ c. search rules) (λ c. search rules) (λ c. search rules) (λ c. search rules)
    of_eight_requires returns)
