-- `why::of_chips`: 9, then 10 over the payload, each where the search found it.
use mathlib.Core.Path.{sym, ◌∙◌}
use native.Mathlib.Omega.{arith}
use Rattle.rules_chips.proofs.Recorders.{length_hard}
use Rattle.small_calls.proofs.Payload.{
  odd_room,
  payload_usable,
  odd_usable,
  unusable_there,
  unusable_is,
  odd_is,
  shown_unusable,
  shown_odd,
  shown_good,
}
use Rattle.small_calls.proofs.why.of_chips.Goals as goal

pub first_unusable-requires : goal.first_unusable-requires
first_unusable-requires c = omega (arith, c.frame_chips-all.ensures.answer, c.requires.1, length_hard c.args.chips.now)

pub bounds-chips-place : goal.bounds-chips-place
bounds-chips-place c =
    let a = c.args in
    let found = unusable_is a.kind a.chips.now a.told _ c.front_chips-from.ensures.answer c.frame_chips-all.ensures.answer
    c.first_unusable.ensures.answer in
    unusable_there a.kind a.chips.now a.told c.requires.1 _ (sym found ∙ c.in-Some.is)

pub returns-in-Some : goal.returns-in-Some
returns-in-Some c =
    let a = c.args in
    let found = unusable_is a.kind a.chips.now a.told _ c.front_chips-from.ensures.answer c.frame_chips-all.ensures.answer
    c.first_unusable.ensures.answer in
    record {
      answer = λ number room fits. shown_unusable a.kind a.chips.now a.told number room fits _
          (sym found ∙ c.in-Some.is) c.refused.ensures.answer;
    }

pub odd_in_payload-requires : goal.odd_in_payload-requires
odd_in_payload-requires c =
    let a = c.args in
    let front = c.front_chips-from.ensures.answer in
    let found = unusable_is a.kind a.chips.now a.told _ front c.frame_chips-all.ensures.answer
    c.first_unusable.ensures.answer in (
      omega (arith, front, c.requires.1),
      c.requires.3,
      rw front (payload_usable a.kind a.chips.now a.told c.requires.1 (sym found ∙ c.in_default.is)),
    )

pub growth_at-requires : goal.growth_at-requires
growth_at-requires c =
    let a = c.args in
    let front = c.front_chips-from.ensures.answer in
    let found = unusable_is a.kind a.chips.now a.told _ front c.frame_chips-all.ensures.answer
    c.first_unusable.ensures.answer in
    let is = sym (odd_is a.kind a.chips.now a.told _ front c.requires.2 c.odd_in_payload.ensures.answer)
    ∙ c.in-Some-odd_in_payload.is in
    let room = odd_room a.kind a.chips.now a.told c.requires.1 _ is in (
      room.0,
      room.1,
      odd_usable a.kind a.chips.now a.told c.requires.1 (sym found ∙ c.in_default.is) _ is c.requires.4,
    )

pub returns-in-Some-odd_in_payload : goal.returns-in-Some-odd_in_payload
returns-in-Some-odd_in_payload c =
    let a = c.args in
    let front = c.front_chips-from.ensures.answer in
    let found = unusable_is a.kind a.chips.now a.told _ front c.frame_chips-all.ensures.answer
    c.first_unusable.ensures.answer in
    let odd = odd_is a.kind a.chips.now a.told _ front c.requires.2 c.odd_in_payload.ensures.answer in
    record {
      answer = λ number room fits. shown_odd a.kind a.chips.now a.told number room fits _ (sym found ∙ c.in_default.is)
          (sym odd ∙ c.in-Some-odd_in_payload.is) c.growth_at.ensures.answer c.refused-in-Some-odd_in_payload.ensures.answer;
    }

pub returns-in-None : goal.returns-in-None
returns-in-None c =
    let a = c.args in
    let front = c.front_chips-from.ensures.answer in
    let found = unusable_is a.kind a.chips.now a.told _ front c.frame_chips-all.ensures.answer
    c.first_unusable.ensures.answer in
    let odd = odd_is a.kind a.chips.now a.told _ front c.requires.2 c.odd_in_payload.ensures.answer in
    record {
      answer = λ number room fits. shown_good a.kind a.chips.now a.told number room fits (sym found ∙ c.in_default.is)
          (sym odd ∙ c.in-None.is) c.good.ensures.answer;
    }
