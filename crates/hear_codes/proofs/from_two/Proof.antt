-- `hear_codes::from_two` meets its contract: the symbols listed, and packed. Assumes nothing.
use mathlib.Core.Path.{sym, ap, ◌∙◌}
use native.Mathlib.Omega.{arith}
use borrow.Author.Rules.{rules}
use Rattle.hear_codes.specs.Codes.{packed}
use Rattle.hear_codes.proofs.Codes.{two_from}
use Rattle.hear_codes.proofs.from_two.Statement.{statement}
use Rattle.hear_codes.proofs.from_two.Tie as tie

of_two_requires : tie.Need-of_two-requires
of_two_requires c κs =
    let low = c.requires.2.at in
    (low _, low _)

returns : tie.Need-returns
returns c =
    c.of_two.ensures
    ∙ ap (packed 4) (sym (two_from c.args.c.now c.args.k (omega (arith, c.requires.1))))

pub from_two_spec : {M : Type 1} → statement M
from_two_spec =
    tie.close
    (tie.spec
    (λ c. search rules) (λ c. search rules) (λ c. search rules) of_two_requires returns)
