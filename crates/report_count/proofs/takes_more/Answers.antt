-- The tests one after the other, as in the definition. Assumes nothing.
use Rattle.std.proofs.Common.{◌≡◌, ◌&&◌, Bool, true, false, ltb, leb, ap, sym, ◌∙◌}
use borrow.Author.Tests.{lt-ltb, le-ltb}
use Rattle.rules_report.specs.Report.{at_most, takes_more}
use Rattle.rules_report.specs.declared.Report.{Report}
use Rattle.report_count.proofs.takes_more.Goals as goal
use Rattle.report_count.proofs.takes_more.Goals.{then-p-lt1000, else-p-lt1000, then-at_most, else-at_most, then-at_most-2, else-at_most-2}

both : {u v w : Bool} (x : Bool) → u ≡ true → w ≡ v → v ≡ x → w ≡ (u && x)
both x e f g = rw e (f ∙ g)

neither : {u w : Bool} (x : Bool) → u ≡ false → w ≡ false → w ≡ (u && x)
neither x e f = rw e f

joined : (p : Report) {v w x : Bool} → v ≡ (ltb p.seen 1000 && at_most 1000 p.frames)
    → w ≡ (v && at_most 4095000 p.octets) → x ≡ (w && at_most 1000 p.refused)
    → (x && leb p.airtime 32952000) ≡ takes_more p
unfolding takes_more
joined p f g h =
    ap (λ b. b && leb p.airtime 32952000)
    (h ∙ ap (λ b. b && at_most 1000 p.refused) (g ∙ ap (λ b. b && at_most 4095000 p.octets) f))

pub returns-then-at_most-3 : goal.returns-then-at_most-3
returns-then-at_most-3 c =
    let p = c.args.p in
    let first : c.if-p-lt1000.value ≡ (ltb p.seen 1000 && at_most 1000 p.frames) =
    elim c.if-p-lt1000.branch [
      | then-p-lt1000 w ↦ both _ (lt-ltb p.seen 1000 w.if-p-lt1000.true) w.value-is w.at_most.ensures.answer
      | else-p-lt1000 w ↦ neither _ (le-ltb p.seen 1000 w.if-p-lt1000.false) (w.value-is ∙ le-ltb p.seen 1000 w.if-p-lt1000.false)
    ] in
    let second : c.if-at_most.value ≡ (c.if-p-lt1000.value && at_most 4095000 p.octets) =
    elim c.if-at_most.branch [
      | then-at_most w ↦ both _ w.if-at_most.true w.value-is w.at_most-then-at_most.ensures.answer
      | else-at_most w ↦ neither _ w.if-at_most.false (w.value-is ∙ w.if-at_most.false)
    ] in
    let third : c.if-at_most-2.value ≡ (c.if-at_most.value && at_most 1000 p.refused) =
    elim c.if-at_most-2.branch [
      | then-at_most-2 w ↦ both _ w.if-at_most-2.true w.value-is w.at_most-then-at_most-2.ensures.answer
      | else-at_most-2 w ↦ neither _ w.if-at_most-2.false (w.value-is ∙ w.if-at_most-2.false)
    ] in
    record { answer = sym (ap (λ b. b && leb p.airtime 32952000) c.if-at_most-3.true) ∙ joined p first second third }

pub returns-else-at_most-3 : goal.returns-else-at_most-3
returns-else-at_most-3 c =
    let p = c.args.p in
    let first : c.if-p-lt1000.value ≡ (ltb p.seen 1000 && at_most 1000 p.frames) =
    elim c.if-p-lt1000.branch [
      | then-p-lt1000 w ↦ both _ (lt-ltb p.seen 1000 w.if-p-lt1000.true) w.value-is w.at_most.ensures.answer
      | else-p-lt1000 w ↦ neither _ (le-ltb p.seen 1000 w.if-p-lt1000.false) (w.value-is ∙ le-ltb p.seen 1000 w.if-p-lt1000.false)
    ] in
    let second : c.if-at_most.value ≡ (c.if-p-lt1000.value && at_most 4095000 p.octets) =
    elim c.if-at_most.branch [
      | then-at_most w ↦ both _ w.if-at_most.true w.value-is w.at_most-then-at_most.ensures.answer
      | else-at_most w ↦ neither _ w.if-at_most.false (w.value-is ∙ w.if-at_most.false)
    ] in
    let third : c.if-at_most-2.value ≡ (c.if-at_most.value && at_most 1000 p.refused) =
    elim c.if-at_most-2.branch [
      | then-at_most-2 w ↦ both _ w.if-at_most-2.true w.value-is w.at_most-then-at_most-2.ensures.answer
      | else-at_most-2 w ↦ neither _ w.if-at_most-2.false (w.value-is ∙ w.if-at_most-2.false)
    ] in
    record {
      answer = c.if-at_most-3.false ∙ sym (ap (λ b. b && leb p.airtime 32952000) c.if-at_most-3.false)
          ∙ joined p first second third;
    }
