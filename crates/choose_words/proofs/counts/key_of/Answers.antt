use Rattle.std.proofs.Common.{◌≡◌, refl, ap, w32, ℤ, pos, negsuc, arith}
use lib.Dec.{T}
use lib.IntN.{nat_abs}
use lib.Signed.{non_neg}
use lib.Ieee.{to_signed}
use Rattle.base.proofs.Adding.{held}
use Rattle.choose_words.proofs.counts.key_of.Goals as goal

natural : (z : ℤ) → T (non_neg z) → z ≡ pos (nat_abs z)
natural (pos n) t = refl
natural (negsuc n) t = absurd t

pub float_to_int-result : goal.float_to_int-result
float_to_int-result c = c.requires.0

pub overflow_cast-result : goal.overflow_cast-result
overflow_cast-result c =
    rw (held w32 (natural (to_signed 31 c.args.x) c.requires.1) (omega (arith, c.requires.2)))
    (tt, record { fits = omega (arith, c.requires.2) })

pub returns : goal.returns
returns c = ap nat_abs (held w32 (natural (to_signed 31 c.args.x) c.requires.1) (omega (arith, c.requires.2)))
