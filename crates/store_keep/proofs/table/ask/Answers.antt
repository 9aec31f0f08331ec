-- One entry more, and what is known behind the last. Assumes nothing.
use Rattle.std.proofs.Common.{arith}
use Rattle.rules_store.proofs.OnePass.{pass_more, pass_falls, pass_gap, pass_over, pass_high, pass_all}
use Rattle.store_keep.proofs.table.ask.Goals as goal
use Rattle.store_keep.proofs.table.ask.Goals.{then-not-laid-via-then-not-laid, then-not-laid-via-else-not-laid+then-at-store}

pub returns-then-e-least : goal.returns-then-e-least
returns-then-e-least c =
    record {
      answer = pass_falls _ _ _ _ _ _ c.loop-i.invariant.1 _ c.entry-e.ensures.answer.0 (omega arith) c.if-e-least.true;
    }

pub loop-i-preserved : goal.loop-i-preserved
loop-i-preserved c = (
  omega (arith, c.entry-e.ensures.answer.2),
  pass_more _ _ _ _ _ _ c.loop-i.invariant.1 _ c.entry-e.ensures.answer.0 (omega arith) c.if-e-least.false,
)

pub returns-then-not-laid : goal.returns-then-not-laid
returns-then-not-laid c =
    record {
      answer = elim c.then-not-laid.branch [
        | then-not-laid-via-then-not-laid w ↦ pass_gap _ _ _ _ _ _ c.loop-i.invariant.1 (omega arith) w.if-not-laid.true
        | then-not-laid-via-else-not-laid+then-at-store w ↦ pass_over _ _ _ _ _ _ c.loop-i.invariant.1 (omega arith)
            w.if-not-laid.false w.if-at-store.true
      ];
    }

pub returns-then-least-gt128 : goal.returns-then-least-gt128
returns-then-least-gt128 c =
    record {
      answer = pass_high _ _ _ _ _ _ c.loop-i.invariant.1 (omega arith) c.if-not-laid.false c.if-at-store.false
          c.if-least-gt128.true;
    }

pub returns : goal.returns
returns c =
    record {
      answer = pass_all _ _ _ _ _ _ c.loop-i.invariant.1 (omega arith) c.if-not-laid.false c.if-at-store.false
          c.if-least-gt128.false;
    }
