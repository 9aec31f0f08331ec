-- `feeding::next_front`: the front goes on, or is whole and told.
use Rattle.std.proofs.Common.{ℕ, ◌≤◌, ◌<◌, sym, ap, subst, ◌∙◌, arith}
use Rattle.rules_frame.specs.declared.Kind.{Kind}
use Rattle.rules_frame.specs.Frame.{is_kind, kind_of, front_chips}
use Rattle.rules_receiving.proofs.Takes.{takes_phase, takes_last, takes_front}
use Rattle.receive_calls.proofs.NextFronts.{front_stays, front_ends}
use Rattle.receive_calls.proofs.feeding.next_front.Goals as goal

pub front_piece-q-requires : goal.front_piece-q-requires
front_piece-q-requires c =
    let p = c.args.p in (
      subst (λ (k : Kind). p.count < front_chips k) (sym c.kind_of-kind.ensures.answer)
          (takes_front p p.room c.requires.0 c.requires.1).short,
      c.requires.2,
      c.requires.3,
      c.requires.4,
      takes_phase p p.room c.requires.0,
      takes_last p p.room c.requires.0,
    )

pub returns-then-q-front_chips : goal.returns-then-q-front_chips
returns-then-q-front_chips c =
    let a = c.args in
    record {
      answer = front_stays a.p _ a.hold.now a.preamble.now a.header.now a.rest.now c.front_piece-q.result
          _ _ _ c.requires.1 c.kind_of-kind.ensures.answer c.front_piece-q.ensures.answer
          (subst (λ (n : ℕ). c.front_piece-q.result.progress.count < n) c.front_chips.ensures.answer
          c.if-q-front_chips.true);
    }

pub front_told-progress-requires : goal.front_told-progress-requires
front_told-progress-requires c =
    let a = c.args in
    let x = c.front_piece-q.ensures.answer in (
      omega (arith, x.count_is, x.within, c.if-q-front_chips.false, c.front_chips.ensures.answer),
      ap is_kind x.kind_is ∙ (takes_front a.p a.p.room c.requires.0 c.requires.1).is_kind_lem,
      ap kind_of x.kind_is ∙ sym c.kind_of-kind.ensures.answer,
      x.preamble_long ∙ c.requires.3,
      x.header_long ∙ c.requires.4,
      x.small,
      x.last_small,
    )

pub returns : goal.returns
returns c =
    let a = c.args in
    record {
      answer = front_ends a.p _ a.hold.now a.preamble.now a.header.now a.rest.now c.front_piece-q.result
          _ _ _ c.requires.1 c.kind_of-kind.ensures.answer c.front_piece-q.ensures.answer _
          (subst (λ (n : ℕ). n ≤ c.front_piece-q.result.progress.count) c.front_chips.ensures.answer
          c.if-q-front_chips.false) c.front_told-progress.ensures.answer;
    }
