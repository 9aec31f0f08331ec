-- A refusal leaves the store; else one octet is another. Assumes nothing.
use Rattle.std.proofs.Common.{◌≡◌, ◌∙◌, false, Err, refl, arith, rules}
use Rattle.base.proofs.Tests.{failed, passed}
use Rattle.rules_store.specs.Store.{no_settings, is_setting}
use Rattle.rules_store.proofs.Three.{tag_low, tag_high, tag_right}
use Rattle.rules_store.proofs.Returns.{not_read, not_tagged, not_good, as_read, value_fits, place_in, put_there}
use Rattle.store_keep.specs.Refusals.{number_of}
use Rattle.store_keep.specs.Reading.{all_of}
use Rattle.store_keep.proofs.Found.{nonzero}
use Rattle.store_keep.proofs.replace.Goals as goal
use Rattle.store_keep.proofs.replace.Goals.{then-tag-lt1-via-then-tag-lt1, then-tag-lt1-via-else-tag-lt1+then-tag-gt3}

pub returns-in_err-at-clause-answer : goal.returns-in_err-at-clause-answer
returns-in_err-at-clause-answer c =
    let e = c.in_err-at.field-0.0 in
    let r : c.from_residual.result ≡ Err e = search rules in
    rw r
    (not_read c.args.store.now c.args.tag c.args.value (no_settings (number_of e)) c.in_err-at.ensures.answer (nonzero e)).0

pub returns-in_err-at-clause-store : goal.returns-in_err-at-clause-store
returns-in_err-at-clause-store c =
    let e = c.in_err-at.field-0.0 in
    (not_read c.args.store.now c.args.tag c.args.value (no_settings (number_of e)) c.in_err-at.ensures.answer (nonzero e)).1

pub returns-in_err-s-clause-answer : goal.returns-in_err-s-clause-answer
returns-in_err-s-clause-answer c =
    let e = c.in_err-s.field-0.0 in
    let r : c.from_residual-in_err-s.result ≡ Err e = search rules in
    rw r
    (not_read c.args.store.now c.args.tag c.args.value (no_settings (number_of e))
    (c.in_err-s.ensures.answer ∙ c.in_ok-at.ensures.answer.2) (nonzero e)).0

pub returns-in_err-s-clause-store : goal.returns-in_err-s-clause-store
returns-in_err-s-clause-store c =
    let e = c.in_err-s.field-0.0 in
    (not_read c.args.store.now c.args.tag c.args.value (no_settings (number_of e))
    (c.in_err-s.ensures.answer ∙ c.in_ok-at.ensures.answer.2) (nonzero e)).1

pub returns-then-tag-lt1-clause-answer : goal.returns-then-tag-lt1-clause-answer
returns-then-tag-lt1-clause-answer c =
    let octets = c.args.store.now in
    let s = all_of c.in_ok-s.s in
    let read = c.in_ok-s.ensures.answer ∙ c.in_ok-at.ensures.answer.2 in
    let none : is_setting c.args.tag ≡ false =
    elim c.then-tag-lt1.branch [
      | then-tag-lt1-via-then-tag-lt1 w ↦ tag_low _ w.if-tag-lt1.true
      | then-tag-lt1-via-else-tag-lt1+then-tag-gt3 w ↦ tag_high _ w.if-tag-lt1.false w.if-tag-gt3.true
    ] in
    (not_tagged octets c.args.tag c.args.value s read refl none).0

pub returns-then-tag-lt1-clause-store : goal.returns-then-tag-lt1-clause-store
returns-then-tag-lt1-clause-store c =
    let octets = c.args.store.now in
    let s = all_of c.in_ok-s.s in
    let read = c.in_ok-s.ensures.answer ∙ c.in_ok-at.ensures.answer.2 in
    let none : is_setting c.args.tag ≡ false =
    elim c.then-tag-lt1.branch [
      | then-tag-lt1-via-then-tag-lt1 w ↦ tag_low _ w.if-tag-lt1.true
      | then-tag-lt1-via-else-tag-lt1+then-tag-gt3 w ↦ tag_high _ w.if-tag-lt1.false w.if-tag-gt3.true
    ] in
    (not_tagged octets c.args.tag c.args.value s read refl none).1

pub stands-requires : goal.stands-requires
stands-requires c =
    let octets = c.args.store.now in
    let s = all_of c.in_ok-s.s in
    let read = c.in_ok-s.ensures.answer ∙ c.in_ok-at.ensures.answer.2 in
    (tag_right _ c.if-tag-lt1.false c.if-tag-gt3.false, as_read octets c.args.tag c.args.value s read refl)

pub returns-then-not-stands-clause-answer : goal.returns-then-not-stands-clause-answer
returns-then-not-stands-clause-answer c =
    let octets = c.args.store.now in
    let s = all_of c.in_ok-s.s in
    let read = c.in_ok-s.ensures.answer ∙ c.in_ok-at.ensures.answer.2 in
    (not_good octets c.args.tag c.args.value s read refl (tag_right _ c.if-tag-lt1.false c.if-tag-gt3.false)
    (failed c.stands.ensures.answer c.if-not-stands.true)).0

pub returns-then-not-stands-clause-store : goal.returns-then-not-stands-clause-store
returns-then-not-stands-clause-store c =
    let octets = c.args.store.now in
    let s = all_of c.in_ok-s.s in
    let read = c.in_ok-s.ensures.answer ∙ c.in_ok-at.ensures.answer.2 in
    (not_good octets c.args.tag c.args.value s read refl (tag_right _ c.if-tag-lt1.false c.if-tag-gt3.false)
    (failed c.stands.ensures.answer c.if-not-stands.true)).1

pub overflow_cast-store : goal.overflow_cast-store
overflow_cast-store c =
    let octets = c.args.store.now in
    let s = all_of c.in_ok-s.s in
    let read = c.in_ok-s.ensures.answer ∙ c.in_ok-at.ensures.answer.2 in
    omega (
      arith,
      value_fits octets c.args.tag c.args.value s read refl (tag_right _ c.if-tag-lt1.false c.if-tag-gt3.false)
          (passed c.stands.ensures.answer c.if-not-stands.false),
    )

pub bounds-store-at : goal.bounds-store-at
bounds-store-at c =
    let octets = c.args.store.now in
    let s = all_of c.in_ok-s.s in
    let read = c.in_ok-s.ensures.answer ∙ c.in_ok-at.ensures.answer.2 in
    place_in octets c.args.tag c.args.value s read refl (tag_right _ c.if-tag-lt1.false c.if-tag-gt3.false)
    (passed c.stands.ensures.answer c.if-not-stands.false) _
    c.in_ok-at.ensures.answer.1

pub returns-clause-answer : goal.returns-clause-answer
returns-clause-answer c =
    let octets = c.args.store.now in
    let s = all_of c.in_ok-s.s in
    let read = c.in_ok-s.ensures.answer ∙ c.in_ok-at.ensures.answer.2 in
    (put_there octets c.args.tag c.args.value s read refl (tag_right _ c.if-tag-lt1.false c.if-tag-gt3.false)
    (passed c.stands.ensures.answer c.if-not-stands.false)
    c.in_ok-at.at c.in_ok-at.ensures.answer.1).0

pub returns-clause-store : goal.returns-clause-store
returns-clause-store c =
    let octets = c.args.store.now in
    let s = all_of c.in_ok-s.s in
    let read = c.in_ok-s.ensures.answer ∙ c.in_ok-at.ensures.answer.2 in
    (put_there octets c.args.tag c.args.value s read refl (tag_right _ c.if-tag-lt1.false c.if-tag-gt3.false)
    (passed c.stands.ensures.answer c.if-not-stands.false)
    c.in_ok-at.at c.in_ok-at.ensures.answer.1).1
