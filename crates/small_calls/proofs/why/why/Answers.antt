-- `why::why`: 1, 8, 9 over the front, and then what was heard.
use native.Mathlib.Omega.{arith}
use Rattle.base.proofs.Tests.{failed, passed}
use Rattle.rules_chips.proofs.Recorders.{length_hard}
use Rattle.rules_calls.specs.Headers.{ours}
use Rattle.small_calls.proofs.OfFront.{why_no_kind, why_told, why_shorter, why_unusable}
use Rattle.small_calls.proofs.why.why.Goals as goal

pub returns-then-not-is_kind : goal.returns-then-not-is_kind
returns-then-not-is_kind c = record {
  answer = why_no_kind _ _ _ (failed c.is_kind.ensures.answer c.if-not-is_kind.true) c.refused.ensures.answer;
}

pub bounds-chips-place : goal.bounds-chips-place
bounds-chips-place c =
    omega (arith, (rw c.in-Unusable.is at c.look_at_front.ensures.answer).1, length_hard c.args.chips.now)

pub returns-in-Shorter : goal.returns-in-Shorter
returns-in-Shorter c =
    let known = passed c.is_kind.ensures.answer c.if-not-is_kind.false in
    record {
      answer = why_shorter _ _ _ _ known c.kind_of-k.ensures.answer
          (rw c.in-Shorter.is at c.look_at_front.ensures.answer ours) c.front_chips.ensures.answer
          c.refused-in-Shorter.ensures.answer;
    }

pub returns-in-Unusable : goal.returns-in-Unusable
returns-in-Unusable c =
    let known = passed c.is_kind.ensures.answer c.if-not-is_kind.false in
    let looked = rw c.in-Unusable.is at c.look_at_front.ensures.answer in
    record {
      answer = why_unusable _ _ _ _ known c.kind_of-k.ensures.answer _ (looked.0 ours) c.refused-in-Unusable.ensures.answer;
    }

pub returns-in-Usable : goal.returns-in-Usable
returns-in-Usable c =
    let known = passed c.is_kind.ensures.answer c.if-not-is_kind.false in
    record { answer = why_told _ _ _ _ known c.kind_of-k.ensures.answer (c.of_front.ensures.answer c.args.kind) }
