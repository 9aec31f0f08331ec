-- `heard::Start::hear_usable`: the octets are heard as from a recording that starts with the row.
use Rattle.std.proofs.Common.{arith}
use Rattle.rules_chips.proofs.Recorders.{length_hard}
use Rattle.receive_parts.proofs.Rows.{odd_moved, row_usable, symbols_few, chips_few, usable_heard}
use Rattle.receive_parts.proofs.heard.Start.hear_usable.Goals as goal

pub hear_octets-part-requires : goal.hear_octets-part-requires
hear_octets-part-requires c =
    let a = c.args in (
      omega (arith, c.requires.0, length_hard a.row.now),
      row_usable a.self.at _ a.row.now c.requires.0 c.requires.4,
      c.requires.3,
      symbols_few a.self.rate a.self.symbol _ _ c.requires.0 (omega (arith, c.requires.1)) c.requires.2,
    )

pub placed-odd-requires : goal.placed-odd-requires
placed-odd-requires c =
    let a = c.args in
    odd_moved a.self.rate a.self.at a.self.ear.phase _ c.hear_octets-part.result.heard.odd _ c.hear_octets-part.ensures.answer.line.place
    (chips_few a.self.rate a.self.at _ _ c.requires.0 c.requires.1)

pub returns : goal.returns
returns c =
    let a = c.args in
    let e = c.placed-odd.ensures in
    record {
      answer = usable_heard a.self.rate a.self.at a.self.symbol a.self.ear a.row.now _ _ c.placed-odd.result _
          c.hear_octets-part.ensures.answer c.requires.4 e.answer e.few;
    }
