-- The groups are in the first l columns.
use Rattle.std.proofs.Common.{◌≡◌, ◌+◌, ◌*◌, ◌∙◌, map, pos, arith}
use Rattle.choose_walsh.specs.Rows.{row_at}
use Rattle.choose_walsh.specs.Search.{group_of, held, four_more}
use Rattle.choose_walsh.proofs.Stages.{row_at_lem}
use Rattle.choose_walsh.proofs.Search.{sought_quarter}
use Rattle.choose_stages.proofs.Columns.{bounded_by}
use Rattle.choose_search.proofs.Columns.{in_columns, read_as, quartered_column}
use Rattle.choose_search.proofs.quarter.Goals as goal

pub column-c-requires : goal.column-c-requires
column-c-requires g c =
    let few = c.loop-l-test.true in
    let third = c.requires.1 in (
      bounded_by c.at-q.ensures.answer
          ((row_at_lem (12 + c.args.p3) c.requires.2 (omega (arith, third)) (omega arith)).at _ few),
      bounded_by c.at-p.ensures.answer
          ((row_at_lem (4 + c.args.p3) c.requires.2 (omega (arith, third)) (omega arith)).at _ few),
      bounded_by c.at-f.ensures.answer
          ((row_at_lem (8 + c.args.p3) c.requires.2 (omega (arith, third)) (omega arith)).at _ few),
      bounded_by c.at-e.ensures.answer
          ((row_at_lem c.args.p3 c.requires.2 (omega (arith, third)) (omega arith)).at _ few),
      omega (arith, third),
    )

pub loop-l-preserved : goal.loop-l-preserved
loop-l-preserved g c =
    let value = g.N.Lane.value in
    let number = λ (k : g.row.N.Denot). group_of (value k) in
    let few = c.loop-l-test.true in
    let s = c.requires.3 in
    let a = map value c.args.a.now in
    let now = c.loop-l.invariant.1 in
    let e : 32 * c.args.p3 ≡ 0 + 32 * c.args.p3 = omega arith in
    let first = read_as value c.loop-l.first _ (pos 0) (in_columns value c.loop-l.first (now.first_long ∙ s.first_long) few)
    c.index-first-l.is in
    let second = read_as value c.loop-l.second _ (pos 0)
    (in_columns value c.loop-l.second (now.second_long ∙ s.second_long) few) c.index-second-l.is in
    let group = read_as number c.loop-l.at _ 0 (in_columns number c.loop-l.at (now.at_long ∙ s.at_long) few)
    c.index-at-l.is in (
      omega (arith, few),
      quartered_column value number c.args.first.now c.args.second.now c.args.at.now c.loop-l.first c.loop-l.second
          c.loop-l.at now (in_columns value c.args.first.now s.first_long few)
          (in_columns value c.args.second.now s.second_long few) (in_columns number c.args.at.now s.at_long few)
          (c.column-c.ensures.answer
          ∙ (λ i. four_more (held (first i) (second i) (group i)) (c.at-q.ensures.answer i) (c.at-p.ensures.answer i)
          (c.at-f.ensures.answer i) ((c.at-e.ensures.answer ∙ (λ j. row_at a (e j) c.loop-l.l)) i) (4 * c.args.p3))),
    )

pub returns : goal.returns
returns g c =
    let all : c.loop-l.l ≡ 16 = omega (arith, c.loop-l.invariant.0, c.loop-l-test.false) in
    record { rows = sought_quarter c.requires.3 (rw all at c.loop-l.invariant.1) }
