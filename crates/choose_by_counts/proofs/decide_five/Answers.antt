use Rattle.std.proofs.Common.{List, sym, ◌∙◌, subst, arith, rules}
use Rattle.rules_rates.specs.declared.Rate.TheVariants.{Five}
use Rattle.choose_axes.specs.declared.Axis.TheVariants.{I, Q}
use Rattle.rules_chips.specs.declared.Counts.{Counts}
use Rattle.rules_choosing.specs.Scores.{RowWithin, ChosenAs}
use Rattle.choose_sums.specs.Sums.{rows}
use Rattle.choose_sums.proofs.Apart.{counts_small, counts_eight}
use Rattle.choose_words.proofs.Numbers.{whole_row}
use Rattle.choose_by_counts.proofs.decide_five.Goals as goal

pub five-requires : goal.five-requires
five-requires c = (
  omega arith,
  (
    subst (RowWithin 8192) (sym (whole_row c.soft_counts.ensures.answer)) (counts_small I c.args.chips),
    subst (RowWithin 8192) (sym (whole_row c.soft_counts-2.ensures.answer)) (counts_small Q c.args.chips),
  ),
)

pub returns : goal.returns
returns c =
    let i = whole_row c.soft_counts.ensures.answer in
    let q = whole_row c.soft_counts-2.ensures.answer in
    record {
      answer = subst (λ (cs : List Counts). ChosenAs Five cs c.five.result.number c.five.result.lead)
          ((λ k. rows (i k) (q k)) ∙ counts_eight c.args.chips (search rules)) c.five.ensures;
    }
