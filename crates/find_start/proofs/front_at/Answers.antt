-- `front_at`: the front of what the recording has from there.
use mathlib.Core.Path.{sym, ap, ◌∙◌}
use mathlib.Core.List.{List}
use Prim.Native.Nat.{ℕ}
use Rattle.base.proofs.Over.{lent}
use Rattle.rules_chips.specs.Chips.{hard_recording}
use Rattle.rules_chips.proofs.Recorders.{drop_hard}
use Rattle.rules_reading.specs.Reading.{front_of}
use Rattle.find_start.proofs.front_at.Goals as goal

pub returns : goal.returns
returns c =
    let a = c.args in
    record {
      answer = c.read_front.ensures.answer.told
          ∙ ap (λ (xs : List ℕ). front_of a.kind (hard_recording xs)) (lent a.chips.now a.at)
          ∙ ap (front_of a.kind) (sym (drop_hard a.at a.chips.now));
    }
