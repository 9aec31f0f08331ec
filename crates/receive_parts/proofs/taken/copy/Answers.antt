use Rattle.std.proofs.Common.{◌∙◌, refl, arith}
use lib.Seq.{take_all}
use mathlib.Core.List.{append-nil}
use Rattle.std.proofs.lemmas.List.{drop_all}
use Rattle.base.proofs.Over.{over_more}
use Rattle.receive_parts.proofs.taken.copy.Goals as goal

pub loop-k-init : goal.loop-k-init
loop-k-init c = refl

pub loop-k-preserved : goal.loop-k-preserved
loop-k-preserved c =
    let few = c.loop-k-test.true in
    over_more _ _ _ _ c.loop-k.invariant few (omega (arith, few, c.requires))

pub returns : goal.returns
returns c =
    let all = c.loop-k-test.false in
    let none = drop_all c.loop-k.k c.args.to.now (omega (arith, all, c.requires)) in
    record { to = c.loop-k.invariant ∙ rw (take_all _ _ all, none) (append-nil _) }
