-- `Recording::chip_count`: a soft recording goes as far as the shorter row, one of bytes as far as pairs do.
use mathlib.Core.Path.{sym}
use Rattle.rules_chips.proofs.Recorders.{length_hard, length_soft}
use Rattle.rules_chips.proofs.Bytes.{length_bytes}
use native.Mathlib.Omega.{arith}
use Rattle.choose_recorders.proofs.Recording.chip_count.Goals as goal

pub returns-in-Hard : goal.returns-in-Hard
returns-in-Hard c = record { answer = rw c.in-Hard.is (sym (length_hard _)) }

pub returns-in-Soft : goal.returns-in-Soft
returns-in-Soft c = record {
  answer = rw c.in-Soft.is (omega (arith, c.min.ensures, length_soft c.in-Soft.i.now c.in-Soft.q.now));
}

pub returns-in-Bytes : goal.returns-in-Bytes
returns-in-Bytes c = record { answer = rw c.in-Bytes.is (sym (length_bytes _)) }
