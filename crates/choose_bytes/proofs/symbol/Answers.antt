use Rattle.std.proofs.Common.{◌≡◌, ◌∙◌, subst, w8, w16, to_z, of_z, rules}
use Rattle.std.proofs.lemmas.List.{length-replicate}
use Rattle.base.specs.Whole.{Within}
use Rattle.rules_choosing.proofs.Gathered.{byte_at, gathered_none, gathered_more, gathered_all}
use Rattle.choose_bytes.proofs.symbol.Goals as goal

pub loop-k-init : goal.loop-k-init
loop-k-init g c = gathered_none g.row.N _ _ _ (length-replicate g.row.N _)

pub loop-k-preserved : goal.loop-k-preserved
loop-k-preserved g c =
    let b = byte_at c.args.row.now c.args.from c.loop-k.k in
    let byte : to_z w8 (of_z w8 b) ≡ b = search rules in
    let read : to_z w16 (of_z w16 c.wide.result) ≡ c.wide.result = search rules in
    let is = c.wide.ensures.answer ∙ byte in
    gathered_more c.loop-k.invariant _ c.loop-k-test.true (read ∙ is) (subst (Within 128) is c.wide.ensures.small)

pub returns-clause-answer : goal.returns-clause-answer
returns-clause-answer g c = (gathered_all c.loop-k.invariant c.loop-k-test.false).0

pub returns-clause-small : goal.returns-clause-small
returns-clause-small g c = (gathered_all c.loop-k.invariant c.loop-k-test.false).1
