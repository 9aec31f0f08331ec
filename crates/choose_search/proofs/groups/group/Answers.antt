-- The better of both pairs, and the next.
use Rattle.std.proofs.Common.{◌∙◌, ap, ◌-ℤ◌}
use Rattle.base.proofs.Whole.{within_neg}
use Rattle.rules_choosing.specs.Keys.{larger, smaller}
use Rattle.choose_walsh.specs.Turns.{four_top, four_next, top_of, next_of}
use Rattle.choose_search.proofs.Keys.{top_limit, top_less, next_less}
use Rattle.choose_search.proofs.groups.group.Goals as goal

pub four-q-requires : goal.four-q-requires
four-q-requires g c =
    (c.requires.0.imag, c.requires.1.imag, rw c.negated.ensures.answer (within_neg c.requires.1.real))

pub minus-u-requires : goal.minus-u-requires
minus-u-requires g c =
    rw (c.four-q.ensures.answer.0, c.negated.ensures.answer, c.of.ensures.answer)
    (top_less g.T.Lane.most g.met.T.Lane.room c.requires.0.imag c.requires.1.imag (within_neg c.requires.1.real))

pub minus-requires : goal.minus-requires
minus-requires g c =
    rw (c.four-q.ensures.answer.1, c.negated.ensures.answer, c.of-2.ensures.answer)
    (next_less g.T.Lane.most g.met.T.Lane.room c.requires.0.imag c.requires.1.imag (within_neg c.requires.1.real))

pub lower-requires : goal.lower-requires
lower-requires g c = (
  rw c.four-p.ensures.answer.0 (top_limit g.T.Lane.most g.met.T.Lane.room c.requires.0.real c.requires.1.real c.requires.1.imag),
  rw (c.minus-u.ensures.answer, c.four-q.ensures.answer.0, c.negated.ensures.answer, c.of.ensures.answer)
      (top_less g.T.Lane.most g.met.T.Lane.room c.requires.0.imag c.requires.1.imag (within_neg c.requires.1.real)),
  c.larger-top.ensures.answer,
)

pub returns : goal.returns
unfolding top_of next_of
returns g c =
    let value = g.T.Lane.value in
    let y = c.args.y in
    let x = c.args.x in
    let first = c.four-q.ensures.answer.0 ∙ ap (four_top (value y.q) (value x.q)) c.negated.ensures.answer in
    let second = c.four-q.ensures.answer.1 ∙ ap (four_next (value y.q) (value x.q)) c.negated.ensures.answer in
    let u = c.minus-u.ensures.answer ∙ (λ i. first i -ℤ c.of.ensures.answer i) in
    let w = c.minus.ensures.answer ∙ (λ i. second i -ℤ c.of-2.ensures.answer i) in
    let v = c.larger-v.ensures.answer ∙ (λ i. larger (c.four-p.ensures.answer.1 i) (w i)) in
    let low = c.lower.ensures.answer ∙ (λ i. smaller (c.four-p.ensures.answer.0 i) (u i)) in
    record {
      answer = (
        c.larger-top.ensures.answer ∙ (λ i. larger (c.four-p.ensures.answer.0 i) (u i)),
        c.larger.ensures.answer ∙ (λ i. larger (low i) (v i)),
      );
    }
