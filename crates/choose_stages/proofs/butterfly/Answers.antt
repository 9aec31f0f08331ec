-- Each turn of the loop is a butterfly of one column.
use Rattle.std.proofs.Common.{◌∙◌, ap, arith}
use Rattle.choose_walsh.specs.Turns.{plus, back}
use Rattle.choose_stages.proofs.Columns.{
  flown_column,
  turned_twice,
  turned_thrice,
  bounded_by,
  bounded_back,
  bounded_sum,
  within_lane,
}
use Rattle.choose_stages.proofs.butterfly.Goals as goal

pub plus-r0-requires : goal.plus-r0-requires
plus-r0-requires g c =
    let few = c.loop-l-test.true in
    bounded_sum g.met.T.Lane.room (bounded_by c.at-v.ensures.answer (c.requires.6.at _ few))
    (bounded_by c.at-u.ensures.answer (c.requires.5.at _ few))

pub plus-r1-requires : goal.plus-r1-requires
plus-r1-requires g c =
    let few = c.loop-l-test.true in
    bounded_sum g.met.T.Lane.room (bounded_by c.at-v.ensures.answer (c.requires.6.at _ few))
    (bounded_back c.back-u1.ensures.answer (bounded_by c.at-u.ensures.answer (c.requires.5.at _ few)))

pub plus-r2-requires : goal.plus-r2-requires
plus-r2-requires g c =
    let few = c.loop-l-test.true in
    bounded_sum g.met.T.Lane.room (bounded_by c.at-v.ensures.answer (c.requires.6.at _ few))
    (bounded_back c.back-u2.ensures.answer
    (bounded_back c.back-u1.ensures.answer (bounded_by c.at-u.ensures.answer (c.requires.5.at _ few))))

pub back-requires : goal.back-requires
back-requires g c =
    let few = c.loop-l-test.true in
    within_lane g.met.T.Lane.room
    (bounded_back c.back-u2.ensures.answer
    (bounded_back c.back-u1.ensures.answer (bounded_by c.at-u.ensures.answer (c.requires.5.at _ few)))).real

pub plus-r3-requires : goal.plus-r3-requires
plus-r3-requires g c =
    let few = c.loop-l-test.true in
    bounded_sum g.met.T.Lane.room (bounded_by c.at-v.ensures.answer (c.requires.6.at _ few))
    (bounded_back c.back.ensures.answer (bounded_back c.back-u2.ensures.answer
    (bounded_back c.back-u1.ensures.answer (bounded_by c.at-u.ensures.answer (c.requires.5.at _ few)))))

pub loop-l-preserved : goal.loop-l-preserved
loop-l-preserved g c =
    let v = c.at-v.ensures.answer in
    let u = c.at-u.ensures.answer in
    let u1 = c.back-u1.ensures.answer ∙ ap (back 1) u in
    let u2 = turned_twice _ c.back-u2.ensures.answer u1 in
    let u3 = turned_thrice _ c.back.ensures.answer u2 in (
      omega (arith, c.loop-l-test.true),
      flown_column g.T.Lane.value c.args.o.now c.loop-l.o c.loop-l.invariant.1 c.loop-l-test.true
          (omega (arith, c.requires.1, c.requires.4)) (c.plus-r0.ensures.answer ∙ (λ k. plus (v k) (u k)))
          (c.plus-r1.ensures.answer ∙ (λ k. plus (v k) (u1 k))) (c.plus-r2.ensures.answer ∙ (λ k. plus (v k) (u2 k)))
          (c.plus-r3.ensures.answer ∙ (λ k. plus (v k) (u3 k))),
    )
