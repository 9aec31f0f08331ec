use Rattle.std.proofs.Common.{ℕ, ◌*◌, ◌≤◌, ◌<◌, Fits, w32, arith}
use native.Mathlib.Nat.{mul-le-mul_left, mul_comm}
use Rattle.choose_search.proofs.lead_of.Goals as goal

-- a lead by the largest unit fits, so it does by a smaller one
product : (u n most : ℕ) → u ≤ most → n * most < 4294967296 → Fits w32 (u * n)
product u n most h k = record { fits = omega (arith, mul-le-mul_left n h, mul_comm u n) }

pub overflow_mul-result : goal.overflow_mul-result
overflow_mul-result g c = product _ _ g.N.Lane.units c.requires.0 c.lead.ensures.small
