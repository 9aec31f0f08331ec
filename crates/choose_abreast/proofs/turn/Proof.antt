-- `choose_abreast::turn` meets its contract: four merges, to the other row and back, twice.
-- Assumes nothing.
use borrow.Author.Rules.{rules}
use Rattle.choose_abreast.proofs.Rows.{rows_turned}
use Rattle.choose_abreast.proofs.turn.Statement.{statement}
use Rattle.choose_abreast.proofs.turn.Tie as tie

returns : tie.Need-returns
returns c =
    rows_turned c.requires.1 c.merge.ensures c.merge-2.ensures
    c.merge-3.ensures c.merge-4.ensures

pub turn_spec : {M : Type 1} → statement M
turn_spec =
    tie.close
    (tie.spec
    (λ c κs. search rules) (λ c κs. search rules) (λ c κs. search rules) (λ c κs. search rules) (λ c. search rules)
    (λ c. search rules) returns)
