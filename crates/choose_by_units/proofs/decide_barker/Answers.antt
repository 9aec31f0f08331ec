use Rattle.std.proofs.Common.{List, sym, subst, arith}
use Rattle.rules_rates.specs.declared.Rate.TheVariants.{One}
use Rattle.choose_axes.specs.declared.Axis.TheVariants.{I, Q}
use Rattle.rules_chips.specs.declared.Counts.{Counts}
use Rattle.rules_choosing.specs.Scores.{RowWithin, ChosenAs}
use Rattle.choose_sums.specs.Sums.{by_signs, as_chip}
use Rattle.choose_sums.proofs.Apart.{units_small, units_barker}
use Rattle.choose_words.proofs.Numbers.{whole_row}
use Rattle.choose_by_units.proofs.decide_barker.Goals as goal

pub barker-requires : goal.barker-requires
barker-requires c = (
  omega arith,
  (
    subst (RowWithin 1) (sym (whole_row c.hard_units.ensures.answer)) (units_small I c.args.chips),
    subst (RowWithin 1) (sym (whole_row c.hard_units-2.ensures.answer)) (units_small Q c.args.chips),
  ),
)

pub returns : goal.returns
returns c =
    let i = whole_row c.hard_units.ensures.answer in
    let q = whole_row c.hard_units-2.ensures.answer in
    record {
      answer = units_barker c.args.chips
          (subst (λ (cs : List Counts). ChosenAs One cs c.barker.result.number c.barker.result.lead)
          (λ k. as_chip (by_signs (i k)) (by_signs (q k))) c.barker.ensures);
    }
