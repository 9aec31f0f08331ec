-- `look_at_front`: 8, 9, and then all chips of a front are usable.
use mathlib.Core.Path.{◌≡◌}
use Prim.Native.Nat.{ℕ, ◌≤◌, ◌<◌}
use native.Mathlib.Omega.{arith}
use Rattle.read_fronts.proofs.Order.{front_short, front_unusable, front_usable}
use Rattle.read_fronts.proofs.look_at_front.Goals as goal

-- a comparison of two results is one of what they are
below : (a b x y : ℕ) → a ≡ x → b ≡ y → a < b → x < y
below a b x y e f h = omega arith

within : (a b x : ℕ) → a ≡ x → b ≤ a → b ≤ x
within a b x e h = omega arith

pub returns-then-chip_count-chips : goal.returns-then-chip_count-chips
returns-then-chip_count-chips c = record {
  answer = front_short _ _ (below _ _ _ _ c.chip_count.ensures.answer c.front_chips-chips.ensures.answer c.if-chip_count-chips.true);
}

pub returns-in-Some : goal.returns-in-Some
returns-in-Some c = record {
  answer = front_unusable _ _ _ _ c.front_chips-chips.ensures.answer
      (within _ _ _ c.chip_count.ensures.answer (omega (arith, c.if-chip_count-chips.false)))
      c.first_unusable.ensures.answer _ c.in-Some.is;
}

pub returns-in-None : goal.returns-in-None
returns-in-None c = record {
  answer = front_usable _ _ _ _ c.front_chips-chips.ensures.answer
      (within _ _ _ c.chip_count.ensures.answer (omega (arith, c.if-chip_count-chips.false)))
      c.first_unusable.ensures.answer c.in-None.is;
}
