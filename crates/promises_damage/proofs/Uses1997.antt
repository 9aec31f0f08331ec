-- Uses of the statement about long frames that stand their damage and a guide of 1997: a caption that is heard
-- (`caption`), and those that are not (`too_fast`, `clock_bit_lem`). Assumes nothing.
use mathlib.Core.Path.{◌≡◌, refl, ap, ◌∙◌}
use mathlib.Core.List.{List, ◌++◌}
use Prim.Native.Nat.{ℕ, ◌-◌, ◌≤◌}
use lib.ListN.{length, take, replicate}
use lib.Seq.{take_at}
use Rattle.rules_rates.specs.Plain.{LengthOf}
use Rattle.rules_calls.specs.declared.Record.{Record}
use Rattle.rules_calls.specs.declared.Written.{Written}
use Rattle.rules_calls.specs.Plain.{Rate1997}
use Rattle.rules_calls.proofs.Guides.{not_110}
use Rattle.rules_damage.specs.Plain.{FrameStands}
use Rattle.promises.specs.Calls.{refused, Sent}
use Rattle.promises_1997.specs.Calls.{Read1997}
use Rattle.promises_damage.proofs.Kept.{kept}

module _ (phase : ℕ) (p : List ℕ) (w : Written) (sent rec tail : List ℕ) (room : ℕ) (a : Record) (left : List ℕ)
    (room_for : length p ≤ room) (f : Read1997 (rec ++ tail) room a left) (l : ℕ) where
  caption : {rate : ℕ} → Rate1997 rate → Sent 0 rate phase 0 p w sent → LengthOf rate (length p) l
      → FrameStands 0 rate (length p) (take w.chips sent) rec
      → (a.number ≡ 0) × (a.place ≡ 0) × (a.rate ≡ rate) × (a.length ≡ l) × (a.n ≡ length p)
      × (a.used ≡ w.chips) × (a.clock ≡ 0) × (1024 ≤ a.lead) × (take (length p) left ≡ p)
  caption {rate} y s d stands =
      let v = (kept.spoiled_1997 rate phase 0 p w sent s l d rec tail stands room a left room_for f).0 y refl in (
        (λ i. (v.0 i).number),
        (λ i. (v.0 i).place),
        (λ i. (v.0 i).rate),
        (λ i. (v.0 i).length),
        (λ i. (v.0 i).n),
        (λ i. (v.0 i).used),
        (λ i. (v.0 i).clock),
        v.1,
        ap (take (length p)) v.2 ∙ take_at p (replicate (room - length p) 0) (length p) refl,
      )

  too_fast : (clock : ℕ) → Sent 0 110 phase clock p w sent → LengthOf 110 (length p) l
      → FrameStands 0 110 (length p) (take w.chips sent) rec → a ≡ refused 13 l
  too_fast clock s d stands =
      (kept.spoiled_1997 110 phase clock p w sent s l d rec tail stands room a left room_for f).1 (not_110 refl)

  clock_bit_lem : {rate : ℕ} → Rate1997 rate → (clock : ℕ) → (clock ≡ 0 → ⊥) → Sent 0 rate phase clock p w sent
      → LengthOf rate (length p) l → FrameStands 0 rate (length p) (take w.chips sent) rec → a ≡ refused 14 l
  clock_bit_lem {rate} y clock set s d stands =
      (kept.spoiled_1997 rate phase clock p w sent s l d rec tail stands room a left room_for f).2 y set
