-- `feeding::feed_all`: before the first piece none is taken; a piece more is taken in a turn; at the end all are.
use Rattle.std.proofs.Common.{arith, rules}
use Rattle.receive_calls.proofs.Batches.{gone_none, gone_more, gone_all}
use Rattle.receive_calls.proofs.feeding.feed_all.Goals as goal

pub loop-at-init : goal.loop-at-init
loop-at-init c =
    let a = c.args in
    gone_none a.s.progress a.s.hold a.s.preamble a.s.header a.octets.now a.batch.now c.requires (search rules)
    (search rules) (search rules)

pub next_piece-q-requires : goal.next_piece-q-requires
next_piece-q-requires c =
    let x = c.loop-at.invariant in
    (x.takes_more_lem, x.hold_long, x.preamble_long, x.header_long)

pub loop-at-preserved : goal.loop-at-preserved
loop-at-preserved c =
    gone_more _ _ _ _ _ c.args.batch.now c.loop-at.at _ _ _ _ _ c.loop-at.invariant _ _ _ _ _
    c.next_piece-q.ensures.answer

pub returns : goal.returns
returns c =
    let a = c.args in
    record {
      answer = gone_all a.s a.octets.now a.batch.now c.loop-at.at c.loop-at.progress c.loop-at.hold c.loop-at.preamble
          c.loop-at.header c.loop-at.octets (omega (arith, c.loop-at-test.false)) c.loop-at.invariant;
    }
