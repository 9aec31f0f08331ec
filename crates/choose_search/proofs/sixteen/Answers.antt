-- What enters, the first stage and the search come to the words decided and their leads.
use Rattle.std.proofs.Common.{◌≡◌, ℕ, ◌+◌, ◌*◌, ap, refl, subst, ◌∙◌, map, pos, negsuc, neg_ℤ, arith}
use mathlib.Core.Path.{subst⁻¹}
use lib.ListN.{get_or-replicate}
use lib.Signed.{◌<ℤ◌}
use Rattle.base.proofs.Whole.{within_more}
use Rattle.base.proofs.Adding.{within_pos}
use Rattle.choose_recorded.proofs.Sixteen.{put_ext}
use Rattle.choose_walsh.specs.Rows.{RowsBounded}
use Rattle.choose_walsh.proofs.Stages.{entered_rows, paired_rows}
use Rattle.choose_walsh.proofs.Search.{sought_none}
use Rattle.choose_walsh.proofs.Chosen.{chosen, led, keyed}
use Rattle.choose_walsh.specs.Search.{group_of}
use Rattle.choose_search.proofs.sixteen.Goals as goal

pub negated-none-requires : goal.negated-none-requires
negated-none-requires g c = rw c.of.ensures.answer (within_more (within_pos 2) (omega (arith, g.met.N.Lane.room)))

pub pairs-requires : goal.pairs-requires
pairs-requires g c =
    (omega (arith, c.enter.auto.z, c.requires.1), c.requires.2, entered_rows c.enter.ensures.z c.enter.ensures.small)

pub search-requires : goal.search-requires
search-requires g c =
    let two : (16 * g.N.Lane.most + 4) + (16 * g.N.Lane.most + 4) ≡ 2 * (16 * g.N.Lane.most + 4) = omega arith in
    let none = c.negated-none.ensures.answer ∙ ap neg_ℤ c.of.ensures.answer in (
      omega (arith, c.pairs.auto.a, c.requires.2),
      subst (λ (b : ℕ). RowsBounded b 16 (map g.N.Lane.value c.pairs.new.a)) two
          (paired_rows c.pairs.ensures.a (entered_rows c.enter.ensures.z c.enter.ensures.small)),
      sought_none _ _ _ _ refl refl refl
          (λ l few. subst⁻¹ (λ z. z <ℤ negsuc 0) (get_or-replicate 16 l _ (pos 0) few ∙ none) (record { lt = tt }))
          (λ l few. get_or-replicate 16 l _ (pos 0) few ∙ none)
          (λ l few. get_or-replicate 16 l _ 0 few ∙ ap group_of c.of-at.ensures.answer),
    )

pub put-requires : goal.put-requires
put-requires g c = (
  keyed c.enter.ensures.z c.pairs.ensures.a c.search.ensures.rows,
  c.requires.3,
  c.requires.4,
  c.requires.5,
  c.requires.6,
)

pub returns-clause-numbers : goal.returns-clause-numbers
returns-clause-numbers g c =
    put_ext c.put.ensures.numbers
    (λ s few. chosen _ _ _ s few c.enter.ensures.z c.pairs.ensures.a _ (c.search.ensures.rows.each s few))

pub returns-clause-leads : goal.returns-clause-leads
returns-clause-leads g c =
    put_ext c.put.ensures.leads
    (λ s few. ap (λ (n : ℕ). c.args.unit * n)
    (led _ _ _ s few c.enter.ensures.z c.pairs.ensures.a _ (c.search.ensures.rows.each s few)))
