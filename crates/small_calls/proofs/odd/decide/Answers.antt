-- `odd::decide`: a hard recording has as many chips as octets.
use mathlib.Core.Path.{refl}
use native.Mathlib.Omega.{arith}
use Rattle.rules_chips.proofs.Recorders.{length_hard}
use Rattle.small_calls.proofs.odd.decide.Goals as goal

pub decide-requires : goal.decide-requires
decide-requires c = let r = c.requires in (r.0, omega (arith, r.1, length_hard c.args.chips.now), r.2, r.3, refl)
