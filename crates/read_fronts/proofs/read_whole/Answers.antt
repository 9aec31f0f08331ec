-- `read_whole`: what the front tells, and 16.
use mathlib.Core.Path.{◌≡◌}
use Prim.Native.Nat.{ℕ, ◌≤◌}
use native.Mathlib.Omega.{arith}
use Rattle.read_fronts.proofs.Sizes.{whole_few, whole_kept}
use Rattle.read_fronts.proofs.read_whole.Goals as goal

-- a comparison of two results is one of what they are
within : (a b x y : ℕ) → a ≡ x → b ≡ y → b ≤ a → y ≤ x
within a b x y e f h = omega arith

pub frame_chips-all-requires : goal.frame_chips-all-requires
frame_chips-all-requires c = whole_few _ _ _ _ c.read_front-opening.ensures.answer _ c.in-Ok.is

pub returns-else-chip_count-all : goal.returns-else-chip_count-all
returns-else-chip_count-all c = record {
  answer = whole_kept _ _ _ _ c.read_front-opening.ensures.answer _ c.in-Ok.is
      (within _ _ _ _ c.chip_count.ensures.answer c.frame_chips-all.ensures.answer (omega (arith, c.if-chip_count-all.false)));
}
