-- `taken::join`: the octet is heard if it is whole with the piece, else it is held.
use Rattle.std.proofs.Common.{refl, sym, ◌∙◌, ◌+◌, ◌≤◌, length, arith}
use Rattle.receive_parts.proofs.Looks.{chips_most}
use Rattle.receive_parts.proofs.Joined.{hold_joined, row_joined, joined_whole, joined_part}
use Rattle.receive_parts.proofs.taken.join.Goals as goal

pub returns-then-n-octet_chips : goal.returns-then-n-octet_chips
returns-then-n-octet_chips c =
    let a = c.args in
    let r : a.h + length a.piece.now ≤ length a.hold.now = omega (arith, c.requires.0, c.requires.2, chips_most a.start.rate) in
    let y = c.copy.ensures.to in
    record {
      answer = joined_whole a.start.rate a.start.at a.start.symbol a.start.ear a.h a.hold.now a.piece.now a.octet.now
          c.hear_whole.result _ _ _ (hold_joined a.hold.now a.piece.now _ a.h _ refl r y)
          (row_joined a.hold.now a.piece.now _ a.h _ refl r y)
          (c.if-n-octet_chips.true ∙ c.octet_chips.ensures.answer) _ c.requires.1 c.hear_whole.ensures.answer;
    }

pub returns : goal.returns
returns c =
    let a = c.args in
    let r : a.h + length a.piece.now ≤ length a.hold.now = omega (arith, c.requires.0, c.requires.2, chips_most a.start.rate) in
    let y = c.copy.ensures.to in
    record {
      answer = joined_part a.start.rate a.start.at a.start.symbol a.start.ear a.h a.hold.now a.piece.now a.octet.now
          c.hold_part.result _ _ _ (hold_joined a.hold.now a.piece.now _ a.h _ refl r y)
          (row_joined a.hold.now a.piece.now _ a.h _ refl r y)
          (λ z. c.if-n-octet_chips.false (z ∙ sym c.octet_chips.ensures.answer)) refl c.hold_part.ensures.answer;
    }
