-- A starting phase is 0, 1, 2 or 3, and no other number (RULES 6.4, refusal 5).
-- Assumes nothing.
use mathlib.Core.Path.{◌≡◌}
use mathlib.Core.Bool.{true, false}
use Prim.Native.Nat.{ℕ, ◌≤◌, ◌<◌}
use native.Mathlib.Omega.{arith}
use borrow.Author.Tests.{lt-ltb, le-ltb, ltb-true}
use Rattle.rules_frame.specs.Frame.{is_phase}

pub is_phase_lem : (phase : ℕ) → phase ≤ 3 → is_phase phase ≡ true
is_phase_lem phase h = lt-ltb phase 4 (omega arith)

pub no_phase : (phase : ℕ) → 3 < phase → is_phase phase ≡ false
no_phase phase h = le-ltb phase 4 (omega arith)

pub phase_most : (phase : ℕ) → is_phase phase ≡ true → phase ≤ 3
phase_most phase e = omega (arith, ltb-true phase 4 e)
