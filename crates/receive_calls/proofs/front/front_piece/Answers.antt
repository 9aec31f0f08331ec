-- `front::front_piece`: by how far the front has come.
use Rattle.std.proofs.Common.{◌≡◌, ℕ, ◌-◌, ◌<◌, ap, arith}
use Rattle.receive_calls.proofs.Fronting.{front_passes, preamble_keeps, header_keeps}
use Rattle.receive_calls.proofs.front.front_piece.Goals.{
  then-p-ne0-via-then-p-ne0,
  then-p-ne0-via-else-p-ne0+then-p-ne0-2,
}
use Rattle.receive_calls.proofs.front.front_piece.Goals as goal

pub returns-then-p-ne0 : goal.returns-then-p-ne0
returns-then-p-ne0 c =
    let a = c.args in
    let certain : a.p.bad ≡ 0 → a.p.odd ≡ 0 → ⊥ =
    elim c.then-p-ne0.branch [
      | then-p-ne0-via-then-p-ne0 w ↦ λ e f. w.if-p-ne0.true e
      | then-p-ne0-via-else-p-ne0+then-p-ne0-2 w ↦ λ e f. w.if-p-ne0-2.true f
    ] in
    record {
      answer = front_passes a.kind a.p a.hold.now a.preamble.now a.header.now a.rest.now _ _ c.requires.0
          (ap (λ (n : ℕ). n - a.p.count) c.front_chips.ensures.answer) c.requires.4 c.requires.5 c.pass.ensures.answer
          certain;
    }

below : (count from chips : ℕ) → from ≡ chips → count < from → count < chips
below count from chips e h = omega (arith, e, h)

pub returns-then-p-from : goal.returns-then-p-from
returns-then-p-from c =
    let a = c.args in
    record {
      answer = preamble_keeps a.kind a.p a.hold.now a.preamble.now a.header.now a.rest.now _ _
          c.keep.ensures.answer c.if-p-ne0.false c.if-p-ne0-2.false _ _ _ c.preamble_count-n.ensures.answer
          c.if-p-lt11.false (below _ _ _ c.preamble_chips-from.ensures.answer c.if-p-from.true)
          c.take_piece-t.ensures.answer;
    }

pub returns : goal.returns
returns c =
    let a = c.args in
    record {
      answer = header_keeps a.kind a.p a.hold.now a.preamble.now a.header.now a.rest.now _ _
          c.keep-2.ensures.answer c.if-p-ne0.false c.if-p-ne0-2.false _ _ _ _ c.header_rate-rate.ensures.answer
          c.preamble_chips-from.ensures.answer c.if-p-from.false c.take_piece-t-2.ensures.answer;
    }
