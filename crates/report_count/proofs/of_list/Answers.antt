-- Every recording counted is the next of the list; the loop ends at its end, or after 1,000. Assumes nothing.
use Rattle.std.proofs.Common.{◌≡◌, ap, sym, length, ◌∙◌, arith}
use Rattle.std.proofs.lemmas.Iterator.{YieldsList-from_slice, YieldsList-from_take, YieldsList-from_zip}
use Rattle.std.proofs.lemmas.Iterator.Consumers.{YieldsList-turn, YieldsList-end}
use Rattle.std.proofs.lemmas.List.{length_push}
use Rattle.rules_report.proofs.Lists.{none_counted}
use Rattle.report_count.proofs.Firsts.{nothing_counted, differ, firsts, next_pair, many_pairs, many, whole}
use Rattle.report_count.proofs.of_list.Goals as goal

pub returns-then-kinds-list : goal.returns-then-kinds-list
returns-then-kinds-list c =
    record { answer = (λ i. record { number = 7; report = nothing_counted c.default-report.result c.default-report.ensures i }) ∙ differ c.args.kinds.now c.args.list.now c.if-kinds-list.true }

pub loop-kind-init : goal.loop-kind-init
loop-kind-init c = nothing_counted c.default-report.result c.default-report.ensures ∙ none_counted

pub loop-kind-preserved : goal.loop-kind-preserved
loop-kind-preserved c =
    let kinds = c.args.kinds.now in
    let list = c.args.list.now in
    let same : length kinds ≡ length list = omega (arith, c.if-kinds-list.false) in
    let road =
    YieldsList-from_take 1000 (YieldsList-from_zip (YieldsList-from_slice kinds cc) (YieldsList-from_slice list (cc))) (cc) in
    let t =
    YieldsList-turn road c.loop-kind.yielded _ c.loop-kind.yielded_by _ c.next.new.self (c.in-Some.kind, c.in-Some.chips) c.in-Some.is
    c.next.ensures.steps in
    next_pair kinds list same (length c.loop-kind.yielded)
    (c.in-Some.kind.now, c.in-Some.chips.now) c.loop-kind.report c.add.result t.0 t.1 c.loop-kind.invariant
    c.add.ensures.answer
    ∙ ap (firsts kinds list) (sym (length_push c.loop-kind.yielded (c.in-Some.kind, c.in-Some.chips)))

pub returns-then-list-gt1000 : goal.returns-then-list-gt1000
returns-then-list-gt1000 c =
    let kinds = c.args.kinds.now in
    let list = c.args.list.now in
    let same : length kinds ≡ length list = omega (arith, c.if-kinds-list.false) in
    let road =
    YieldsList-from_take 1000 (YieldsList-from_zip (YieldsList-from_slice kinds cc) (YieldsList-from_slice list (cc))) (cc) in
    let e =
    YieldsList-end road c.loop-kind.yielded _ c.loop-kind.yielded_by _ c.next.new.self c.in-None.is
    c.next.ensures.steps in
    record {
      answer = many kinds list same _ _ c.if-list-gt1000.true (e.1 ∙ many_pairs kinds list same) c.loop-kind.invariant;
    }

pub returns-else-list-gt1000 : goal.returns-else-list-gt1000
returns-else-list-gt1000 c =
    let kinds = c.args.kinds.now in
    let list = c.args.list.now in
    let same : length kinds ≡ length list = omega (arith, c.if-kinds-list.false) in
    let road =
    YieldsList-from_take 1000 (YieldsList-from_zip (YieldsList-from_slice kinds cc) (YieldsList-from_slice list (cc))) (cc) in
    let e =
    YieldsList-end road c.loop-kind.yielded _ c.loop-kind.yielded_by _ c.next.new.self c.in-None.is
    c.next.ensures.steps in
    record {
      answer = whole kinds list same _ _ c.if-list-gt1000.false (e.1 ∙ many_pairs kinds list same) c.loop-kind.invariant;
    }
