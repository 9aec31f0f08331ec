-- All pass just where the definition's test of the row does. Assumes nothing.
use Rattle.std.proofs.Common.{◌≡◌, ℕ, List, [], ◌∷◌, ◌&&◌, refl, ap, ◌∙◌, rules, tests}
use lib.Dec.{leb}
use Rattle.std.specs.List.{list_all}
use Rattle.std.proofs.lemmas.Iterator.{YieldsList-from_slice}
use Rattle.std.proofs.lemmas.Iterator.Search.{all_from_yields_List}
use Rattle.rules_report.specs.Report.{at_most}
use Rattle.report_count.proofs.at_most.Goals as goal

all_is : (m : ℕ) (row : List ℕ) → list_all (λ x. leb x m) row ≡ at_most m row
unfolding at_most
all_is m [] = refl
all_is m (x ∷ row) = ap (λ b. leb x m && b) (all_is m row)

pub returns : goal.returns
returns c =
    let row = c.args.row.now in
    record {
      answer = all_from_yields_List (λ x. leb x c.args.most) _ _ c.all.result c.all.ensures.ran
          (YieldsList-from_slice row cc) (λ x b q k. search (rules, tests))
          ∙ all_is c.args.most row;
    }
