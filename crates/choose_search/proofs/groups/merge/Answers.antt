-- Each part is the definition's.
use Rattle.std.proofs.Common.{◌∙◌, ap}
use lib.Signed.{lt_z}
use Rattle.rules_choosing.specs.Keys.{larger}
use Rattle.choose_walsh.specs.Search.{group_of, held, merged}
use Rattle.choose_search.proofs.Keys.{of_one}
use Rattle.choose_search.proofs.groups.merge.Goals as goal

pub returns : goal.returns
unfolding merged
returns g c =
    let value = g.T.Lane.value in
    let b = c.args.b in
    let k = c.args.k in
    let second = c.larger-3.ensures.answer ∙ (λ j. larger (value b.second) ((c.larger-2.ensures.answer
    ∙ (λ n. larger (c.smaller.ensures.answer n) (value k.second))) j)) in
    let group = ap (λ x. group_of (value x)) c.place.ensures.answer
    ∙ of_one (λ x. group_of (value x)) (lt_z (value b.first) (value k.first)) c.args.g b.group in
    record { answer = λ i. held (c.larger.ensures.answer i) (second i) (group i) }
