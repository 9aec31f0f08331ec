-- `taken::take_piece`: chips behind those held, or whole octets straight from the batch.
use Rattle.std.proofs.Common.{arith}
use Rattle.receive_parts.proofs.Ways.{counted, joins_taken, heard_taken}
use Rattle.receive_parts.proofs.taken.take_piece.Goals as goal

pub returns-then-w-eq0 : goal.returns-then-w-eq0
returns-then-w-eq0 c =
    let a = c.args in
    let chips = c.octet_chips-chips.ensures.answer in
    let known = counted a.rate a.from a.n a.count _ chips c.requires.0 c.requires.1 in
    record {
      answer = joins_taken a.rate a.from a.first a.n a.count _ _ _ _ a.ear a.hold.now a.rest.now
          a.out.now c.join-piece.result _ _ c.join-piece.new.octet chips c.octet_symbols-symbols.ensures.answer known
          c.requires.2 c.requires.6 c.requires.7 (omega (arith, c.min-taken.ensures)) (omega (arith, c.min-taken.ensures))
          (λ x y. omega (arith, c.min-taken.ensures)) c.join-piece.ensures.answer c.join-piece.auto.octet;
    }

pub returns : goal.returns
returns c =
    let a = c.args in
    let chips = c.octet_chips-chips.ensures.answer in
    record {
      answer = heard_taken a.rate a.from a.first a.n a.count _ _ _ _ _ a.ear a.hold.now a.rest.now
          a.out.now c.hear_whole-piece.result c.hear_whole-piece.new.out chips c.octet_symbols-symbols.ensures.answer
          (counted a.rate a.from a.n a.count _ chips c.requires.0 c.requires.1) c.requires.2
          c.whole_count-w.ensures.answer (omega (arith, c.if-w-eq0.false)) c.hear_whole-piece.ensures.answer
          c.hear_whole-piece.auto.out;
    }
