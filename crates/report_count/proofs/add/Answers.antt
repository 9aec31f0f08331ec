-- 31, or what the reading adds; a reading is fair, so nothing wraps. Assumes nothing.
use Rattle.std.proofs.Common.{◌≡◌, refl, sym, ap, subst, ◌∙◌, true, false, arith}
use borrow.Author.Tests.{eq-eqb, ne_eqb}
use Rattle.base.proofs.Tests.{failed, passed}
use Rattle.rules_calls.specs.declared.Record.{Record}
use Rattle.rules_report.specs.Totals.{Recording, Outcome, outcome_of}
use Rattle.rules_report.specs.Report.{with_frame, with_refusal, added, takes_more, counted_of}
use Rattle.rules_report.specs.declared.Report.{Report}
use Rattle.rules_report.specs.declared.Counted.{Counted}
use Rattle.rules_report.proofs.Outcomes.{Fair, fair}
use Rattle.report_count.proofs.add.Goals as goal

module _ (p : Report) (r : Recording) where
  full : takes_more p ≡ false → ◌≡◌ {A = Counted} (record { number = 31; report = p }) (counted_of p r)
  unfolding counted_of
  full h = rw h

  module _ (a : Record) (h : takes_more p ≡ true) (is : a ≡ (outcome_of r).answer) where
    abbrev outcome : Outcome
    outcome = record { kind = r.kind; answer = a }

    known : Fair a
    known = subst Fair (sym is) (fair r)

    same : outcome ≡ outcome_of r
    same = ap (λ (b : Record). record { kind = r.kind; answer = b }) is

    counted : (q : Report) → q ≡ added p outcome
        → ◌≡◌ {A = Counted} (record { number = 0; report = q }) (counted_of p r)
    unfolding counted_of
    counted q e = rw h (ap (λ (x : Report). record { number = 0; report = x }) (e ∙ ap (added p) same))

    frame : (q : Report) → a.number ≡ 0 → q ≡ with_frame p outcome
        → ◌≡◌ {A = Counted} (record { number = 0; report = q }) (counted_of p r)
    unfolding added
    frame q z e = counted q (rw (eq-eqb a.number 0 z) e)

    refusal : (q : Report) → (a.number ≡ 0 → ⊥)
        → ((o : Outcome) → o.answer.number ≡ a.number → q ≡ with_refusal p o)
        → ◌≡◌ {A = Counted} (record { number = 0; report = q }) (counted_of p r)
    unfolding added
    refusal q z e = counted q (rw (ne_eqb a.number 0 z) (e outcome refl))

pub returns-then-not-takes_more : goal.returns-then-not-takes_more
returns-then-not-takes_more c =
    let a = c.args in
    record {
      answer = full a.report (record { kind = a.kind; chips = a.chips.now })
          (failed c.takes_more.ensures.answer c.if-not-takes_more.true);
    }

pub with_frame-more-requires : goal.with_frame-more-requires
with_frame-more-requires c =
    let a = c.args in
    let h = passed c.takes_more.ensures.answer c.if-not-takes_more.false in
    let k = known a.report (record { kind = a.kind; chips = a.chips.now }) _ h c.read-a.ensures.answer in
    (h, k.few, k.brief c.if-a-eq0.true)

pub with_refusal-more-requires : goal.with_refusal-more-requires
with_refusal-more-requires c =
    let a = c.args in
    let h = passed c.takes_more.ensures.answer c.if-not-takes_more.false in
    let k = known a.report (record { kind = a.kind; chips = a.chips.now }) _ h c.read-a.ensures.answer in
    (h, omega (arith, k.most))

pub returns-then-a-eq0 : goal.returns-then-a-eq0
returns-then-a-eq0 c =
    let a = c.args in
    record {
      answer = frame a.report (record { kind = a.kind; chips = a.chips.now }) _
          (passed c.takes_more.ensures.answer c.if-not-takes_more.false) c.read-a.ensures.answer _ c.if-a-eq0.true
          c.with_frame-more.ensures.answer;
    }

pub returns-else-a-eq0 : goal.returns-else-a-eq0
returns-else-a-eq0 c =
    let a = c.args in
    record {
      answer = refusal a.report (record { kind = a.kind; chips = a.chips.now }) _
          (passed c.takes_more.ensures.answer c.if-not-takes_more.false) c.read-a.ensures.answer _ c.if-a-eq0.false
          c.with_refusal-more.ensures.answer;
    }
