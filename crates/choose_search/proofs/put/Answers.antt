-- The first s words and their leads are put.
use Rattle.std.proofs.Common.{◌∙◌, ◌*◌, pos, arith}
use Rattle.choose_recorded.proofs.Sixteen.{put_more}
use Rattle.choose_walsh.specs.Search.{group_of, word_of_key, lead_of_keys}
use Rattle.choose_search.proofs.Columns.{in_columns, read_as}
use Rattle.choose_search.proofs.put.Goals as goal

pub word-requires : goal.word-requires
word-requires g c =
    let value = g.N.Lane.value in
    let number = λ (k : g.row.N.Denot). group_of (value k) in
    let few = c.loop-s-test.true in
    let k = c.requires.0 in (
      rw (read_as value c.args.first.now _ (pos 0) (in_columns value c.args.first.now k.first_long few) c.index-first-s.is)
          (k.key _ few),
      rw (read_as number c.args.at.now _ 0 (in_columns number c.args.at.now k.at_long few) c.index-at-s.is) (k.place _ few),
    )

pub lead_of-requires : goal.lead_of-requires
lead_of-requires g c =
    let value = g.N.Lane.value in
    let few = c.loop-s-test.true in
    let k = c.requires.0 in
    let first = read_as value c.args.first.now _ (pos 0) (in_columns value c.args.first.now k.first_long few)
    c.index-first-s-in-loop-s.is in
    let second = read_as value c.args.second.now _ (pos 0) (in_columns value c.args.second.now k.second_long few)
    c.index-second-s.is in (
      c.requires.1,
      rw first (k.key _ few),
      rw second (k.next _ few),
      rw (second, first) (k.order _ few),
    )

pub loop-s-preserved : goal.loop-s-preserved
loop-s-preserved g c =
    let value = g.N.Lane.value in
    let number = λ (k : g.row.N.Denot). group_of (value k) in
    let few = c.loop-s-test.true in
    let k = c.requires.0 in
    let key = read_as value c.args.first.now _ (pos 0) (in_columns value c.args.first.now k.first_long few)
    c.index-first-s.is in
    let group = read_as number c.args.at.now _ 0 (in_columns number c.args.at.now k.at_long few) c.index-at-s.is in
    let first = read_as value c.args.first.now _ (pos 0) (in_columns value c.args.first.now k.first_long few)
    c.index-first-s-in-loop-s.is in
    let second = read_as value c.args.second.now _ (pos 0) (in_columns value c.args.second.now k.second_long few)
    c.index-second-s.is in (
      omega (arith, few),
      put_more _ (omega (arith, c.requires.2, few)) (c.word.ensures.answer ∙ (λ i. word_of_key (key i) (group i)))
          c.loop-s.invariant.1,
      put_more _ (omega (arith, c.requires.2, few))
          (c.lead_of.ensures.answer ∙ (λ i. c.args.unit * lead_of_keys (first i) (second i))) c.loop-s.invariant.2,
    )
