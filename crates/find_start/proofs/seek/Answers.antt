-- `seek`: none where there is no mark, and else the first that starts, offset after offset.
use mathlib.Core.Path.{sym}
use native.Mathlib.Omega.{arith}
use lib.ListN.{drop}
use Rattle.rules_chips.specs.Chips.{hard_recording}
use Rattle.rules_finding.proofs.Laws.{start_none}
use Rattle.rules_finding.proofs.Seeks.{seek_hit, seek_none}
use Rattle.find_start.proofs.seek.Goals as goal

pub returns-then-not-any : goal.returns-then-not-any
returns-then-not-any c =
    let a = c.args in
    record {
      answer = seek_none a.kind (hard_recording a.chips.now) a.at a.count
          (λ j l. c.requires.2 j l (c.any.ensures.answer c.if-not-any.true j (omega (arith, c.requires.0))));
    }

pub returns-in-Ok : goal.returns-in-Ok
returns-in-Ok c =
    let a = c.args in
    record {
      answer = seek_hit a.kind (hard_recording a.chips.now) a.at c.loop-j.j a.count c.loop-j-test.true c.loop-j.invariant
          _ _ c.in-Ok.is c.try_at.ensures.answer;
    }

pub returns : goal.returns
returns c =
    let a = c.args in
    record {
      answer = sym (start_none a.kind a.at a.count (drop a.at (hard_recording a.chips.now))
          (λ j l. c.loop-j.invariant j (omega (arith, c.loop-j-test.false))));
    }
