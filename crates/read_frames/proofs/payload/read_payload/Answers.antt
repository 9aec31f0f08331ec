-- `payload::read_payload`: 17, 9, 10 in this order, each by the tests that led there.
use mathlib.Core.Path.{refl}
use lib.ListN.{length}
use Rattle.read_frames.proofs.Order.{searched, payload_room, payload_unusable, payload_usable, payload_heard}
use native.Mathlib.Omega.{arith}
use Rattle.read_frames.proofs.payload.read_payload.Goals as goal

pub returns-then-octets-n-clause-answer : goal.returns-then-octets-n-clause-answer
returns-then-octets-n-clause-answer c = payload_room _ _ _ _ c.if-octets-n.true

pub returns-in-Some-clause-answer : goal.returns-in-Some-clause-answer
returns-in-Some-clause-answer c =
    payload_unusable _ _ _ _ _
    (searched c.args.kind c.args.told _ (length c.args.octets.now) c.frame_chips-used.ensures.answer
    (omega (arith, c.if-octets-n.false)) _ c.front_chips-from.ensures.answer c.first_unusable.ensures.answer)
    c.in-Some.is

pub hear_payload-odd-requires : goal.hear_payload-odd-requires
hear_payload-odd-requires c = (
  c.requires.1,
  payload_usable _ _ _ _
      (searched c.args.kind c.args.told _ (length c.args.octets.now) c.frame_chips-used.ensures.answer
      (omega (arith, c.if-octets-n.false)) _ c.front_chips-from.ensures.answer c.first_unusable.ensures.answer)
      c.in_default.is c.requires.1,
  omega (arith, c.if-octets-n.false),
  c.requires.2,
  c.requires.3,
  c.requires.4,
)

pub returns-in-Some-odd-clause-answer : goal.returns-in-Some-odd-clause-answer
returns-in-Some-odd-clause-answer c =
    let p = c.hear_payload-odd in
    (payload_heard _ _ _ _ p.result.odd p.result.least _ _
    (searched c.args.kind c.args.told _ (length c.args.octets.now) c.frame_chips-used.ensures.answer
    (omega (arith, c.if-octets-n.false)) _ c.front_chips-from.ensures.answer c.first_unusable.ensures.answer)
    c.in_default.is p.ensures.answer p.ensures.least p.ensures.octets (rw c.in-Some-odd.is refl)).0

pub returns-in-None-clause-answer : goal.returns-in-None-clause-answer
returns-in-None-clause-answer c =
    let p = c.hear_payload-odd in
    (payload_heard _ _ _ _ p.result.odd p.result.least _ _
    (searched c.args.kind c.args.told _ (length c.args.octets.now) c.frame_chips-used.ensures.answer
    (omega (arith, c.if-octets-n.false)) _ c.front_chips-from.ensures.answer c.first_unusable.ensures.answer)
    c.in_default.is p.ensures.answer p.ensures.least p.ensures.octets (rw c.in-None.is refl)).0
