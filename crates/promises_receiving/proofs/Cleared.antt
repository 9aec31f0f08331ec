-- Once a refusal is certain the buffer is zeros.
--     received_cleared    by each outcome of the hard read
-- Assumes nothing.
use Rattle.std.specs.Prelude.{Result}
use Rattle.rules_calls.specs.declared.Refusal.{Refusal}
use mathlib.Core.Path.{◌≡◌, refl, subst, ◌∙◌}
use mathlib.Core.List.{List}
use Prim.Native.Nat.{ℕ}
use native.Mathlib.Omega.{arith}
use lib.ListN.{take, replicate}
use Rattle.rules_chips.specs.Chips.{Taken, hard_recording}
use Rattle.rules_frame.specs.Frame.{kind_of}
use Rattle.rules_calls.specs.declared.Record.{Record}
use Rattle.rules_calls.specs.declared.Reading.{Reading}
use Rattle.rules_calls.specs.Answers.{record_of}
use Rattle.rules_receiving.specs.Yet.{buffer_yet}
use Rattle.rules_receiving.proofs.Beginnings.{kind_yet, front_yet, room_yet, unusable_yet_lem, odd_yet_lem}
use Rattle.rules_receiving.proofs.Outcomes.{
  HardComes,
  no_kind,
  by_front,
  ends,
  no_room,
  unusable,
  odd,
  accepted,
  hard_comes,
  told_length,
}
use Rattle.promises_receiving.specs.Promises.{Certain, at_front, by_header, ReceivedCleared}
use Rattle.promises_receiving.specs.Promises as certain
use Rattle.promises_receiving.proofs.Shown.{cut_buffer}

module _ (kind room : ℕ) (rec : List Taken) (c : ℕ) where
  clears : {g : Result Reading Refusal} → HardComes kind rec room g → Certain (record_of g) c
      → buffer_yet kind (take c rec) room ≡ replicate room 0
  clears (no_kind i) x = kind_yet kind room (take c rec) i
  clears (by_front {e} f) x = front_yet kind room c rec e f
  clears (ends t f) (certain.unusable n p) = absurd (omega arith)
  clears (ends t f) (certain.grown n p) = absurd (omega arith)
  clears (ends t f) (at_front n l) = absurd (omega (arith, told_length (kind_of kind) rec t f))
  clears (ends t f) (by_header n d) = absurd (d refl)
  clears (no_room t w l) x = room_yet kind room rec t w.is_kind_lem w.told w.long l c
  clears (unusable t w p f) (certain.unusable n l) =
      unusable_yet_lem kind room rec t w.is_kind_lem w.told w.long p c f l
  clears (unusable t w p f) (certain.grown n l) = absurd (omega arith)
  clears (unusable t w p f) (at_front n l) = absurd (omega (arith, told_length (kind_of kind) rec t w.told))
  clears (unusable t w p f) (by_header n d) = absurd (omega arith)
  clears (odd t w p f) (certain.unusable n l) = absurd (omega arith)
  clears (odd t w p f) (certain.grown n l) = odd_yet_lem kind room rec t w.is_kind_lem w.told w.long p c f l
  clears (odd t w p f) (at_front n l) = absurd (omega (arith, told_length (kind_of kind) rec t w.told))
  clears (odd t w p f) (by_header n d) = absurd (omega arith)
  clears (accepted t w fits u o) (certain.unusable n l) = absurd (omega arith)
  clears (accepted t w fits u o) (certain.grown n l) = absurd (omega arith)
  clears (accepted t w fits u o) (at_front n l) = absurd (n refl)
  clears (accepted t w fits u o) (by_header n d) = absurd (omega arith)

pub received_cleared : ReceivedCleared
received_cleared kind room chips b kept f c x s buf y =
    let rec = hard_recording chips in
    cut_buffer c chips y
    ∙ clears kind room rec c (hard_comes kind rec room) (subst (λ (v : Record). Certain v c) f.answer x)
