-- Bounds on counts, and how far they are from the exact values (RULES 2.6): 2^139 steps are a count, 2^138 half of one.
-- Definitions only. Assumes nothing.
use Rattle.std.specs.Prelude.{ℕ, ◌^◌, ℤ, pos, ◌-ℤ◌, ◌*ℤ◌}
use Rattle.base.specs.Whole.{Within}
use Rattle.rules_chips.specs.declared.Counts.{Counts}

-- I and Q are from -b to b
-- working notion: of the laws of sums
pub record Bounded (b : ℕ) (c : Counts) : Type 0 where
  pub real : Within b c.i
  pub imag : Within b c.q

-- k counts less m steps, in steps
abbrev pub off_by : ℤ → ℤ → ℤ
off_by k m = (k *ℤ pos (2 ^ 139)) -ℤ m

-- the counts c are at most `half` steps from the exact value e, in I and in Q: with no step they are that value
pub record Apart (half : ℕ) (c e : Counts) : Type 0 where
  pub real : Within half (off_by c.i e.i)
  pub imag : Within half (off_by c.q e.q)
