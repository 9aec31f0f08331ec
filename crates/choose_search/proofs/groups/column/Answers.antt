-- Four groups, each met with p and e turned back once more.
use Rattle.std.proofs.Common.{◌≡◌, ap, ◌∙◌, ◌+◌, ◌+ℤ◌, arith}
use Rattle.rules_chips.specs.Chips.{pair}
use Rattle.base.proofs.Whole.{within_more}
use Rattle.base.proofs.Adding.{within_pos}
use Rattle.choose_walsh.specs.Turns.{plus}
use Rattle.choose_walsh.specs.Search.{group_of, held, met, four_more}
use Rattle.choose_stages.proofs.Columns.{bounded_back, turned_twice, turned_thrice}
use Rattle.choose_search.proofs.Keys.{two_in_limit}
use Rattle.choose_search.proofs.groups.column.Goals as goal

pub meet-b2-requires : goal.meet-b2-requires
meet-b2-requires g c = (
  c.requires.0,
  bounded_back c.back-p1.ensures.answer c.requires.1,
  c.requires.2,
  bounded_back c.back-e1.ensures.answer c.requires.3,
)

pub meet-b3-requires : goal.meet-b3-requires
meet-b3-requires g c = (
  c.requires.0,
  bounded_back c.back-p2.ensures.answer (bounded_back c.back-p1.ensures.answer c.requires.1),
  c.requires.2,
  bounded_back c.back-e2.ensures.answer (bounded_back c.back-e1.ensures.answer c.requires.3),
)

pub back-requires : goal.back-requires
back-requires g c =
    two_in_limit g.T.Lane.most g.met.T.Lane.room
    (bounded_back c.back-p2.ensures.answer (bounded_back c.back-p1.ensures.answer c.requires.1)).real

pub back-requires-2 : goal.back-requires-2
back-requires-2 g c =
    two_in_limit g.T.Lane.most g.met.T.Lane.room
    (bounded_back c.back-e2.ensures.answer (bounded_back c.back-e1.ensures.answer c.requires.3)).real

pub meet-requires : goal.meet-requires
meet-requires g c = (
  c.requires.0,
  bounded_back c.back.ensures.answer
      (bounded_back c.back-p2.ensures.answer (bounded_back c.back-p1.ensures.answer c.requires.1)),
  c.requires.2,
  bounded_back c.back-2.ensures.answer
      (bounded_back c.back-e2.ensures.answer (bounded_back c.back-e1.ensures.answer c.requires.3)),
)

pub plus-g1-requires : goal.plus-g1-requires
plus-g1-requires g c =
    rw (c.of-g0.ensures.answer, c.of-one.ensures.answer)
    (within_more (within_pos (c.args.g + 1)) (omega (arith, c.requires.4, g.met.T.Lane.room)))

pub plus-g2-requires : goal.plus-g2-requires
plus-g2-requires g c =
    rw (c.plus-g1.ensures.answer, c.of-g0.ensures.answer, c.of-one.ensures.answer)
    (within_more (within_pos (c.args.g + 1 + 1)) (omega (arith, c.requires.4, g.met.T.Lane.room)))

pub plus-requires : goal.plus-requires
plus-requires g c =
    rw (c.plus-g2.ensures.answer, c.plus-g1.ensures.answer, c.of-g0.ensures.answer, c.of-one.ensures.answer)
    (within_more (within_pos (c.args.g + 1 + 1 + 1)) (omega (arith, c.requires.4, g.met.T.Lane.room)))

pub returns : goal.returns
unfolding four_more
returns g c =
    let value = g.T.Lane.value in
    let q = pair (value c.args.q.i) (value c.args.q.q) in
    let f = pair (value c.args.f.i) (value c.args.f.q) in
    let p1 = c.back-p1.ensures.answer in
    let p2 = turned_twice _ c.back-p2.ensures.answer p1 in
    let p3 = turned_thrice _ c.back.ensures.answer p2 in
    let e1 = c.back-e1.ensures.answer in
    let e2 = turned_twice _ c.back-e2.ensures.answer e1 in
    let e3 = turned_thrice _ c.back-2.ensures.answer e2 in
    let one = c.of-one.ensures.answer in
    let g0 = c.of-g0.ensures.answer in
    let g1 = c.plus-g1.ensures.answer ∙ (λ i. g0 i +ℤ one i) in
    let g2 = c.plus-g2.ensures.answer ∙ (λ i. g1 i +ℤ one i) in
    let g3 = c.plus.ensures.answer ∙ (λ i. g2 i +ℤ one i) in
    let two : c.args.g + 1 + 1 ≡ c.args.g + 2 = omega arith in
    let three : c.args.g + 1 + 1 + 1 ≡ c.args.g + 3 = omega arith in
    let p = pair (value c.args.p.i) (value c.args.p.q) in
    let e = pair (value c.args.e.i) (value c.args.e.q) in
    let b0 = held (value c.args.b.first) (value c.args.b.second) (group_of (value c.args.b.group)) in
    let b1 = c.meet-b1.ensures.answer ∙ (λ i. met b0 (plus q p) (plus f e) (group_of (g0 i))) in
    let b2 = c.meet-b2.ensures.answer
    ∙ (λ i. met (b1 i) (plus q (p1 i)) (plus f (e1 i)) (group_of (g1 i))) in
    let b3 = c.meet-b3.ensures.answer
    ∙ (λ i. met (b2 i) (plus q (p2 i)) (plus f (e2 i)) ((ap group_of g2 ∙ two) i)) in
    record {
      answer = c.meet.ensures.answer
          ∙ (λ i. met (b3 i) (plus q (p3 i)) (plus f (e3 i)) ((ap group_of g3 ∙ three) i));
    }
