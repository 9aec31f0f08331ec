-- `front::front_told`: 9, 10, then what was heard of the front tells.
use Rattle.std.proofs.Common.{◌≡◌, ℕ, suc, ◌-◌, ◌∙◌, arith}
use Rattle.receive_calls.proofs.FrontTells.{
  stays_unusable,
  stays_odd,
  front_ends,
  front_tells,
  told_stays,
  told_tells,
}
use Rattle.receive_calls.proofs.front.front_told.Goals as goal

-- a number that is not 0
one_less : (n : ℕ) → (n ≡ 0 → ⊥) → n ≡ suc (n - 1)
one_less n h = omega (arith, h)

pub returns-then-p-ne0 : goal.returns-then-p-ne0
returns-then-p-ne0 c =
    let a = c.args in
    record {
      answer = told_stays a.kind a.p _ a.preamble.now a.header.now c.requires.5 c.requires.6 _ c.stay.ensures.answer
          c.requires.1 (omega arith, omega arith)
          (λ fed hold at x. stays_unusable a.kind fed a.p hold a.preamble.now a.header.now at x
          (a.p.bad - 1) (one_less a.p.bad c.if-p-ne0.true));
    }

pub returns-then-p-ne0-2 : goal.returns-then-p-ne0-2
returns-then-p-ne0-2 c =
    let a = c.args in
    record {
      answer = told_stays a.kind a.p _ a.preamble.now a.header.now c.requires.5 c.requires.6 _
          c.stay-then-p-ne0-2.ensures.answer c.requires.1 (omega arith, omega arith)
          (λ fed hold at x. stays_odd a.kind fed a.p hold a.preamble.now a.header.now at x c.if-p-ne0.false
          (a.p.odd - 1) (one_less a.p.odd c.if-p-ne0-2.true));
    }

pub returns-in-Err : goal.returns-in-Err
returns-in-Err c =
    let a = c.args in
    let r = c.told.ensures.refuses _ c.in-Err.is in
    record {
      answer = told_stays a.kind a.p _ a.preamble.now a.header.now c.requires.5 c.requires.6 _
          c.stay-in-Err.ensures.answer c.requires.1 (omega (arith, r.0), r.1)
          (λ fed hold at x.
          front_tells a.kind fed a.p hold a.preamble.now a.header.now at x c.if-p-ne0.false c.if-p-ne0-2.false
          c.requires.4 _ _ _ c.sfd_of.ensures.answer c.header_of.ensures.answer c.requires.5 c.told.ensures.answer
          ∙ c.in-Err.is);
    }

pub returns-in-Ok : goal.returns-in-Ok
returns-in-Ok c =
    let a = c.args in
    record {
      answer = told_tells a.kind a.p _ a.preamble.now a.header.now c.requires.5 c.requires.6 _
          c.tell.ensures.answer (c.told.ensures.few _ c.in-Ok.is) c.requires.0 c.requires.1 c.requires.2
          (λ fed hold at x. (
            front_tells a.kind fed a.p hold a.preamble.now a.header.now at x c.if-p-ne0.false c.if-p-ne0-2.false
                c.requires.4 _ _ _ c.sfd_of.ensures.answer c.header_of.ensures.answer c.requires.5
                c.told.ensures.answer
                ∙ c.in-Ok.is,
            front_ends a.kind fed a.p hold a.preamble.now a.header.now at x c.if-p-ne0.false c.if-p-ne0-2.false
                c.requires.4,
          ));
    }
