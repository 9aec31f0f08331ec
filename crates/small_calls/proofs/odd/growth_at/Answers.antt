-- `odd::growth_at`: numbers of words at 1 Mbit/s are phases.
use native.Mathlib.Omega.{arith}
use Rattle.small_calls.proofs.Blocks.{grown_small}
use Rattle.small_calls.proofs.odd.growth_at.Goals as goal

pub overflow_add-result : goal.overflow_add-result
overflow_add-result c =
    record { fits = omega (arith, (grown_small _ c.args.place _ c.requires.0 c.decide.ensures.numbers).1) }

pub overflow_sub-result : goal.overflow_sub-result
overflow_sub-result c = omega (arith, (grown_small _ c.args.place _ c.requires.0 c.decide.ensures.numbers).0)
