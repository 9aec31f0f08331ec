-- `hear_codes::from_four` meets its contract: the symbols listed, and packed. Assumes nothing.
use mathlib.Core.Path.{sym, ap, ◌∙◌}
use native.Mathlib.Omega.{arith}
use borrow.Author.Rules.{rules}
use Rattle.hear_codes.specs.Codes.{packed}
use Rattle.hear_codes.proofs.Codes.{four_from}
use Rattle.hear_codes.proofs.from_four.Statement.{statement}
use Rattle.hear_codes.proofs.from_four.Tie as tie

of_four_requires : tie.Need-of_four-requires
of_four_requires c κs =
    let low = c.requires.2.at in
    (low _, low _, low _, low _)

returns : tie.Need-returns
returns c =
    c.of_four.ensures
    ∙ ap (packed 2) (sym (four_from c.args.c.now c.args.k (omega (arith, c.requires.1))))

pub from_four_spec : {M : Type 1} → statement M
from_four_spec =
    tie.close
    (tie.spec
    (λ c. search rules) (λ c. search rules) (λ c. search rules) (λ c. search rules) (λ c. search rules)
    (λ c. search rules) (λ c. search rules) of_four_requires returns)
