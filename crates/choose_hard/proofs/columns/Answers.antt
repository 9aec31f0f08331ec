use Rattle.std.proofs.Common.{◌≡◌, length, pos, ap, ◌∙◌, arith, rules}
use Rattle.choose_axes.specs.declared.Axis.TheVariants.{I, Q}
use Rattle.choose_axes.specs.Axes.{units_along}
use Rattle.choose_recorded.proofs.Columns.{columns_none, columns_more}
use Rattle.choose_hard.proofs.columns.Goals as goal

pub loop-l-init : goal.loop-l-init
loop-l-init c = columns_none _ _ _ c.requires.2

pub loop-l-preserved : goal.loop-l-preserved
loop-l-preserved c =
    let chips = c.symbol-chips.ensures.answer in
    let long_i : length c.hard_units.result ≡ 8 = search rules in
    let long_q : length c.hard_units-in-loop-l.result ≡ 8 = search rules in
    columns_more c.loop-l.invariant (omega (arith, c.requires.0)) (c.put_column.ensures.row (pos 0)) long_i long_q
    (c.hard_units.ensures.answer ∙ ap (units_along I) chips) (c.hard_units-in-loop-l.ensures.answer ∙ ap (units_along Q) chips)
