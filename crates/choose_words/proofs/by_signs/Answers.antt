use Rattle.std.proofs.Common.{◌≡◌, map, length, refl, ap, ◌∙◌, ℤ, ◌+ℤ◌, ◌-ℤ◌, rules}
use Rattle.std.proofs.lemmas.List.{length-map}
use Rattle.choose_sums.proofs.Signs.{summed_none, sum_room, plus_sum, minus_sum, summed_all}
use Rattle.choose_words.proofs.Numbers.{chip_is, may_add, may_take}
use Rattle.choose_words.proofs.by_signs.Goals as goal
use Rattle.choose_words.proofs.by_signs.Goals.{then-turns-k-eq0, else-turns-k-eq0}

pub loop-k-init : goal.loop-k-init
loop-k-init g c = summed_none _ _ c.zero-x.ensures

pub add-x-requires : goal.add-x-requires
add-x-requires g c =
    let long : length c.args.c ≡ 11 = search rules in
    let h = c.loop-k-test.true in
    may_add (record { is = refl; within = c.loop-k.invariant.bound }) (chip_is 11 c.args.c c.loop-k.k _ c.requires long h)
    g.met.T.Number.adds (sum_room _ _ h)

pub sub-x-requires : goal.sub-x-requires
sub-x-requires g c =
    let long : length c.args.c ≡ 11 = search rules in
    let h = c.loop-k-test.true in
    may_take (record { is = refl; within = c.loop-k.invariant.bound }) (chip_is 11 c.args.c c.loop-k.k _ c.requires long h)
    g.met.T.Number.takes (sum_room _ _ h)

pub loop-k-preserved : goal.loop-k-preserved
loop-k-preserved g c =
    let n = g.T.Number in
    let long : length c.args.c ≡ 11 = search rules in
    let mapped : length (map n.whole c.args.c) ≡ 11 = length-map c.args.c n.whole ∙ long in
    let h = c.loop-k-test.true in
    let sum = n.whole c.loop-k.x in
    elim c.if-turns-k-eq0.branch [
      | then-turns-k-eq0 w ↦ plus_sum c.loop-k.invariant c.requires mapped h w.if-turns-k-eq0.true
          (ap n.whole w.x-is ∙ g.met.T.Number.added _ _ _ w.add-x.ensures
          ∙ ap (λ (z : ℤ). sum +ℤ z) (chip_is 11 c.args.c c.loop-k.k _ c.requires long h).is)
      | else-turns-k-eq0 w ↦ minus_sum c.loop-k.invariant c.requires mapped h w.if-turns-k-eq0.false
          (ap n.whole w.x-is ∙ g.met.T.Number.taken _ _ _ w.sub-x.ensures
          ∙ ap (λ (z : ℤ). sum -ℤ z) (chip_is 11 c.args.c c.loop-k.k _ c.requires long h).is)
    ]

pub returns : goal.returns
returns g c = summed_all c.loop-k.invariant c.loop-k-test.false
