-- The first three entries, or those behind one of tag 0, are the three settings if any are. Assumes nothing.
use Rattle.std.proofs.Common.{sym, ◌∙◌, arith}
use borrow.Author.Tests.{eq-eqb, ne_eqb}
use Rattle.rules_store.proofs.Firsts.{first_is, none_of_few, too_few, third_tells, ones_tell, place_tells}
use Rattle.store_keep.proofs.table.three_entries.Goals as goal

pub returns-then-n-lt3 : goal.returns-then-n-lt3
returns-then-n-lt3 c =
    record { answer = sym (none_of_few c.args.store.now c.args.n c.requires.1 c.if-n-lt3.true) }

pub returns-then-n-first : goal.returns-then-n-first
returns-then-n-first c =
    let f = first_is c.args.store.now c.args.n (omega arith) c.requires.1 c.entry-head.result c.entry-head.ensures.answer.0 in
    record { answer = sym (too_few _ _ _ f c.if-n-first.true) }

pub returns-then-c-eq3 : goal.returns-then-c-eq3
returns-then-c-eq3 c =
    let f = first_is c.args.store.now c.args.n (omega arith) c.requires.1 c.entry-head.result c.entry-head.ensures.answer.0 in
    let third = eq-eqb c.entry-c.result.tag 3 c.if-c-eq3.true in
    let all = third_tells _ _ _ f c.entry-a.result c.entry-b.result c.entry-c.result c.if-n-first.false
    c.entry-a.ensures.answer.0 c.entry-b.ensures.answer.0 c.entry-c.ensures.answer.0 in
    let ones = ones_tell _ _ _ f c.entry-a.result c.entry-b.result c.entry-c.result c.if-n-first.false
    c.entry-a.ensures.answer.0 c.entry-b.ensures.answer.0 c.entry-c.ensures.answer.0 third in
    let place = place_tells _ _ _ f c.entry-a.result c.entry-b.result c.entry-c.result c.if-n-first.false
    c.entry-a.ensures.answer.0 c.entry-b.ensures.answer.0 c.entry-c.ensures.answer.0 third in
    record { answer = (sym all ∙ third, place, ones) }

pub returns-else-c-eq3 : goal.returns-else-c-eq3
returns-else-c-eq3 c =
    let f = first_is c.args.store.now c.args.n (omega arith) c.requires.1 c.entry-head.result c.entry-head.ensures.answer.0 in
    record {
      answer = sym (third_tells _ _ _ f c.entry-a.result c.entry-b.result c.entry-c.result c.if-n-first.false
          c.entry-a.ensures.answer.0 c.entry-b.ensures.answer.0 c.entry-c.ensures.answer.0)
          ∙ ne_eqb c.entry-c.result.tag 3 c.if-c-eq3.false;
    }
