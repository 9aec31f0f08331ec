-- The exact value of every finite f32: m · 2^e is m · 2^e · 2^149 steps, below 0 where the sign bit is set.
-- Assumes nothing.
use mathlib.Core.Path.{◌≡◌, ap, ◌∙◌}
use mathlib.Core.Bool.{Bool, true, false, cond}
use Prim.Native.Nat.{ℕ, ◌*◌, ◌^◌}
use lib.Dec.{T}
use lib.IntN.{ℤ, pos, neg_ℤ, ◌*ℤ◌}
use lib.Ieee.{fin, binary32, up, down, fits}
use Rattle.rules_chips.specs.Floats.{steps, value_of}
use Rattle.rules_chips.proofs.Steps.{steps_exact}
use Rattle.rules_chips.proofs.Meaning.{scaled}

-- promise: The exact value of every finite f32, m · 2^e with its sign, is as many steps of 2^-149 as that comes to
-- rule: 3.8
pub value_exact : (s : Bool) (m : ℕ) (e : ℤ) → T (fits binary32 (fin s m e))
    → value_of (fin s m e) *ℤ pos (down e) ≡ cond s (neg_ℤ (pos (m * up e * 2 ^ 149))) (pos (m * up e * 2 ^ 149))
value_exact true m e t =
    scaled true (steps (fin true m e)) (down e) ∙ ap (λ (x : ℕ). neg_ℤ (pos x)) (steps_exact true m e t)
value_exact false m e t =
    scaled false (steps (fin false m e)) (down e) ∙ ap (λ (x : ℕ). pos x) (steps_exact false m e t)
