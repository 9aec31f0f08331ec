-- `close_in`: by the status.
use Rattle.std.proofs.Common.{refl, sym, ◌∙◌, arith}
use Rattle.rules_calls.specs.declared.Refusal.TheVariants.{ShorterThanFront}
use Rattle.rules_receiving.proofs.Takes.{takes_payload, takes_stays, takes_refused}
use Rattle.receive_calls.proofs.Closes.{
  refused_other,
  kept_other,
  close_taken,
  close_refused,
  way_short,
  way_stays,
}
use Rattle.receive_calls.proofs.close_in.Goals as goal

pub returns-then-not-takes : goal.returns-then-not-takes
returns-then-not-takes c =
    close_refused c.args.s c.args.octets.now _ c.takes.ensures.answer _ c.if-not-takes.true c.not_open.ensures.answer

pub tell_payload-answer-requires : goal.tell_payload-answer-requires
tell_payload-answer-requires c =
    (takes_payload c.args.s.progress _ (sym c.takes.ensures.answer ∙ c.if-not-takes.false) c.in-2.is).few

pub returns-in-1 : goal.returns-in-1
returns-in-1 c =
    let a = c.args in
    let r = c.refuse-answer.ensures in
    close_taken a.s a.octets.now _ c.takes.ensures.answer _ _ _ c.if-not-takes.false refl
    (refused_other _ ShorterThanFront r.answer (omega arith)) c.refuse-answer.auto.octets
    (way_short a.s a.octets.now _ _ r.octets c.in-1.is r.answer)

pub returns-in-2 : goal.returns-in-2
returns-in-2 c =
    let a = c.args in
    let r = c.tell_payload-answer.ensures in
    close_taken a.s a.octets.now _ c.takes.ensures.answer _ _ _ c.if-not-takes.false refl r.other
    c.tell_payload-answer.auto.octets
    (λ kind fed y. r.answer kind fed a.s.hold a.s.preamble a.s.header c.in-2.is y)

pub returns-in_default : goal.returns-in_default
returns-in_default c =
    let a = c.args in
    let r = c.kept-answer.ensures in
    let taken = sym c.takes.ensures.answer ∙ c.if-not-takes.false in
    let stays = takes_stays a.s.progress _ taken (λ e. grind arith) (λ e. grind arith) in
    close_taken a.s a.octets.now _ c.takes.ensures.answer _ _ _ c.if-not-takes.false refl
    (kept_other a.s.progress _ r.answer (takes_refused a.s.progress _ taken stays)) c.kept-answer.auto.octets
    (way_stays a.s a.octets.now _ _ r.octets stays r.answer)
