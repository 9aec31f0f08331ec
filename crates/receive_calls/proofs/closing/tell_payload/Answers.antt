-- `closing::tell_payload`: way by way.
use Rattle.receive_calls.proofs.Closes.{way_ends, way_room, way_unusable, way_odd, way_good}
use Rattle.receive_calls.proofs.closing.tell_payload.Goals as goal

pub returns-then-p-all-clause-answer : goal.returns-then-p-all-clause-answer
returns-then-p-all-clause-answer c =
    let a = c.args in
    way_ends a.p a.octets.now _ _ _ c.kind_of-kind.ensures.answer c.rate_of-rate.ensures.answer
    c.frame_chips-all.ensures.answer _ _ c.if-p-all.true c.refuse.ensures.answer c.refuse.ensures.octets

pub returns-then-p-clause-answer : goal.returns-then-p-clause-answer
returns-then-p-clause-answer c =
    let a = c.args in
    way_room a.p a.octets.now _ _ _ c.kind_of-kind.ensures.answer c.rate_of-rate.ensures.answer
    c.frame_chips-all.ensures.answer c.if-p-all.false _ _ c.if-p.true c.refuse-then-p.ensures.answer
    c.refuse-then-p.ensures.octets

pub returns-then-p-ne0-clause-answer : goal.returns-then-p-ne0-clause-answer
returns-then-p-ne0-clause-answer c =
    let a = c.args in
    way_unusable a.p a.octets.now _ _ _ c.kind_of-kind.ensures.answer c.rate_of-rate.ensures.answer
    c.frame_chips-all.ensures.answer c.if-p-all.false _ _ c.if-p.false c.if-p-ne0.true
    c.refuse-then-p-ne0.ensures.answer c.refuse-then-p-ne0.ensures.octets

pub returns-then-p-ne0-2-clause-answer : goal.returns-then-p-ne0-2-clause-answer
returns-then-p-ne0-2-clause-answer c =
    let a = c.args in
    way_odd a.p a.octets.now _ _ _ c.kind_of-kind.ensures.answer c.rate_of-rate.ensures.answer
    c.frame_chips-all.ensures.answer c.if-p-all.false _ _ c.if-p.false c.if-p-ne0.false c.if-p-ne0-2.true
    c.refuse-then-p-ne0-2.ensures.answer c.refuse-then-p-ne0-2.ensures.octets

pub returns-clause-answer : goal.returns-clause-answer
returns-clause-answer c =
    let a = c.args in
    way_good a.p a.octets.now _ _ _ c.kind_of-kind.ensures.answer c.rate_of-rate.ensures.answer
    c.frame_chips-all.ensures.answer c.if-p-all.false c.if-p.false c.if-p-ne0.false c.if-p-ne0-2.false
