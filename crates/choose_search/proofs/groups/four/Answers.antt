-- What it makes is within the lane's limit, step by step, and comes to the two keys.
use Rattle.std.proofs.Common.{◌∙◌, ap, ◌+ℤ◌, ◌-ℤ◌}
use Rattle.rules_choosing.specs.Keys.{larger, smaller}
use Rattle.choose_walsh.specs.Turns.{credit, four_top, four_next}
use Rattle.choose_search.proofs.Keys.{sided_within, near_limit, far_limit, top_limit, next_limit}
use Rattle.choose_search.proofs.groups.four.Goals as goal

pub credit-t-requires : goal.credit-t-requires
credit-t-requires g c = rw c.sided.ensures.answer (sided_within _ c.requires.1)

pub credit-requires : goal.credit-requires
credit-requires g c = rw c.sided-2.ensures.answer (sided_within _ c.requires.2)

pub minus-u-requires : goal.minus-u-requires
minus-u-requires g c =
    rw (c.credit.ensures.answer, c.sided-2.ensures.answer, c.of.ensures.answer)
    (far_limit g.T.Lane.most g.met.T.Lane.room _ c.requires.2)

pub plus-requires : goal.plus-requires
unfolding four_top
plus-requires g c =
    rw (
      c.magnitude-m.ensures.answer,
      c.larger-top.ensures.answer,
      c.minus-u.ensures.answer,
      c.credit.ensures.answer,
      c.credit-t.ensures.answer,
      c.sided.ensures.answer,
      c.sided-2.ensures.answer,
      c.of.ensures.answer,
    )
    (top_limit g.T.Lane.most g.met.T.Lane.room c.requires.0 c.requires.1 c.requires.2)

pub lower-requires : goal.lower-requires
lower-requires g c = (
  rw (c.credit-t.ensures.answer, c.sided.ensures.answer) (near_limit g.T.Lane.most g.met.T.Lane.room _ c.requires.1),
  rw (c.minus-u.ensures.answer, c.credit.ensures.answer, c.sided-2.ensures.answer, c.of.ensures.answer)
      (far_limit g.T.Lane.most g.met.T.Lane.room _ c.requires.2),
  c.larger-top.ensures.answer,
)

pub plus-requires-2 : goal.plus-requires-2
unfolding four_next
plus-requires-2 g c =
    rw (
      c.magnitude-m.ensures.answer,
      c.lower.ensures.answer,
      c.minus-u.ensures.answer,
      c.credit.ensures.answer,
      c.credit-t.ensures.answer,
      c.sided.ensures.answer,
      c.sided-2.ensures.answer,
      c.of.ensures.answer,
    )
    (next_limit g.T.Lane.most g.met.T.Lane.room c.requires.0 c.requires.1 c.requires.2)

pub returns : goal.returns
unfolding four_top four_next
returns g c =
    let t = c.credit-t.ensures.answer ∙ ap credit c.sided.ensures.answer in
    let v = c.credit.ensures.answer ∙ ap credit c.sided-2.ensures.answer in
    let u = c.minus-u.ensures.answer ∙ (λ i. v i -ℤ c.of.ensures.answer i) in
    let top = c.larger-top.ensures.answer ∙ (λ i. larger (t i) (u i)) in
    let low = c.lower.ensures.answer ∙ (λ i. smaller (t i) (u i)) in
    record {
      answer = (
        c.plus.ensures.answer ∙ (λ i. c.magnitude-m.ensures.answer i +ℤ top i),
        c.plus-2.ensures.answer ∙ (λ i. c.magnitude-m.ensures.answer i +ℤ low i),
      );
    }
