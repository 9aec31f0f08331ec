-- `heard::unusable_from`: a row with no octet above 4 has none, and the search is through the whole row.
use Rattle.std.proofs.Common.{ap, ◌∙◌, ◌-◌, length, arith}
use lib.Seq.{take_all}
use Rattle.rules_chips.specs.Chips.{hard_recording}
use Rattle.rules_chips.proofs.Recorders.{length_hard}
use Rattle.rules_reading.specs.Reading.{first_unusable}
use Rattle.receive_parts.proofs.Rows.{row_none, unusable_moved, row_unusable}
use Rattle.receive_parts.proofs.heard.unusable_from.Goals as goal

pub returns-then-largest-lt5-clause-answer : goal.returns-then-largest-lt5-clause-answer
returns-then-largest-lt5-clause-answer c =
    row_none c.args.at _ c.args.row.now c.largest.ensures.answer c.if-largest-lt5.true

pub first_unusable-requires : goal.first_unusable-requires
first_unusable-requires c = omega (arith, length_hard c.args.row.now)

pub placed-requires : goal.placed-requires
placed-requires c =
    let row = c.args.row.now in
    unusable_moved c.args.at c.first_unusable.result (hard_recording row)
    (c.first_unusable.ensures.answer
    ∙ ap (first_unusable 0) (take_all (length row - 0) (hard_recording row) (omega (arith, length_hard row))))
    (omega (arith, length_hard row, c.requires))

pub returns-clause-answer : goal.returns-clause-answer
returns-clause-answer c =
    let row = c.args.row.now in
    row_unusable c.args.at row c.first_unusable.result c.placed.result (length row - 0) (omega arith)
    c.first_unusable.ensures.answer c.placed.ensures.answer
