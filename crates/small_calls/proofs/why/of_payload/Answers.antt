-- `why::of_payload`: 16, 17, and what is behind them.
use native.Mathlib.Omega.{arith}
use Rattle.small_calls.proofs.Payload.{few_octets, shown_ends, shown_room, shown_behind}
use Rattle.small_calls.proofs.why.of_payload.Goals as goal

pub frame_chips-all-requires : goal.frame_chips-all-requires
frame_chips-all-requires c = few_octets c.args.kind c.args.chips.now c.args.told c.requires.0

pub returns-then-chips-all : goal.returns-then-chips-all
returns-then-chips-all c =
    let a = c.args in
    record {
      answer = λ number. shown_ends a.kind a.chips.now a.told number a.room c.requires.0 c.frame_chips-all.ensures.answer
          c.if-chips-all.true c.refused.ensures.answer;
    }

pub returns-then-room-told : goal.returns-then-room-told
returns-then-room-told c =
    let a = c.args in
    record {
      answer = λ number. shown_room a.kind a.chips.now a.told number a.room c.requires.0
          (omega (arith, c.frame_chips-all.ensures.answer, c.if-chips-all.false)) c.if-room-told.true
          c.refused-then-room-told.ensures.answer;
    }

pub of_chips-requires : goal.of_chips-requires
of_chips-requires c =
    let r = c.requires in (
      few_octets c.args.kind c.args.chips.now c.args.told r.0,
      omega (arith, c.frame_chips-all.ensures.answer, c.if-chips-all.false),
      r.1,
      r.2,
      r.3,
    )

pub returns : goal.returns
returns c =
    let a = c.args in
    record {
      answer = λ number. shown_behind a.kind a.chips.now a.told number a.room c.requires.0
          (omega (arith, c.frame_chips-all.ensures.answer, c.if-chips-all.false))
          (c.of_chips.ensures.answer number a.room c.if-room-told.false);
    }
