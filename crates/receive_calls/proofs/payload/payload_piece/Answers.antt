-- `payload::payload_piece`: behind the frame, a refusal that is certain, or a piece of the payload.
use Rattle.receive_calls.proofs.PayloadWays.{way_past, way_room, way_certain, way_part}
use Rattle.std.proofs.Common.{◌∙◌}
use Rattle.receive_calls.proofs.payload.payload_piece.Goals.{
  then-octets-p-via-then-octets-p,
  then-octets-p-via-else-octets-p+then-p-ne0,
  then-octets-p-via-else-octets-p+else-p-ne0+then-p-ne0-2,
}
use Rattle.receive_calls.proofs.payload.payload_piece.Goals as goal

pub returns-then-p-all : goal.returns-then-p-all
returns-then-p-all c =
    let a = c.args in
    record {
      answer = way_past a.p a.kind a.rate a.hold.now a.octets.now a.rest.now c.requires.0 c.requires.1
          (c.if-p-all.true ∙ c.frame_chips-all.ensures.answer);
    }

pub returns-then-octets-p : goal.returns-then-octets-p
returns-then-octets-p c =
    let a = c.args in
    let all = c.frame_chips-all.ensures.answer in
    let passed = c.pass.ensures.answer in
    record {
      answer = elim c.then-octets-p.branch [
        | then-octets-p-via-then-octets-p w ↦
            way_room a.p a.kind a.rate a.hold.now a.octets.now a.rest.now c.requires.0 c.requires.1 _ _ all
            c.if-p-all.false passed w.if-octets-p.true
        | then-octets-p-via-else-octets-p+then-p-ne0 w ↦
            way_certain a.p a.kind a.rate a.hold.now a.octets.now a.rest.now c.requires.0 c.requires.1 _ _ all
            c.if-p-all.false passed w.if-octets-p.false (λ b o. w.if-p-ne0.true b)
        | then-octets-p-via-else-octets-p+else-p-ne0+then-p-ne0-2 w ↦
            way_certain a.p a.kind a.rate a.hold.now a.octets.now a.rest.now c.requires.0 c.requires.1 _ _ all
            c.if-p-all.false passed w.if-octets-p.false (λ b o. w.if-p-ne0-2.true o)
      ];
    }

pub returns : goal.returns
returns c =
    let a = c.args in
    record {
      answer = way_part a.p a.kind a.rate a.hold.now a.octets.now a.rest.now c.requires.0 c.requires.1
          _ c.take_piece-t.result c.keep.result _ _ _ _ c.front_chips-from.ensures.answer c.if-octets-p.false
          c.if-p-ne0.false c.if-p-ne0-2.false c.take_piece-t.ensures.answer c.keep.ensures.answer
          c.settle.ensures.answer c.settle.ensures.octets;
    }
