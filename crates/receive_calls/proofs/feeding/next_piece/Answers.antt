-- `feeding::next_piece`: by the status.
use Rattle.std.proofs.Common.{arith}
use Rattle.rules_receiving.proofs.Takes.{takes_room, takes_stays}
use Rattle.receive_calls.proofs.Stages.{takes_own, paid_of, stays_some}
use Rattle.receive_calls.proofs.feeding.next_piece.Goals as goal

pub next_front-requires : goal.next_front-requires
next_front-requires c = (takes_own c.args.p _ c.requires.0, c.in-1.is, c.requires.1, c.requires.2, c.requires.3)

pub payload_piece-requires : goal.payload_piece-requires
payload_piece-requires c =
    let p = c.args.p in (
      paid_of p _ _ _ c.requires.0 c.in-2.is c.kind_of-kind.ensures.answer c.rate_of-rate.ensures.answer,
      takes_room p _ c.requires.0,
      c.requires.1,
    )

pub returns-in_default : goal.returns-in_default
returns-in_default c =
    let a = c.args in
    record {
      answer = stays_some a.p a.hold.now a.preamble.now a.header.now a.octets.now a.rest.now c.requires.0
          (takes_stays a.p _ c.requires.0 (λ e. grind arith) (λ e. grind arith));
    }
