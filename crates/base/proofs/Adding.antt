-- The bits of a signed number and the whole number that they stand for, with a bound, at every width: sums, differences
-- and products by a natural number are such again. A number that is natural keeps the natural number.
-- Assumes nothing.
use mathlib.Core.Path.{◌≡◌, refl, sym, ap, ◌∙◌, subst}
use Prim.Native.Nat.{ℕ, suc, ◌+◌, ◌*◌, ◌^◌, ◌<◌}
use native.Mathlib.Nat.{mul-le-mul_left, mul-le-mul_right, mul-add, mul-zero}
use native.Mathlib.Omega.{arith}
use lib.IntN.{ℤ, pos, negsuc, neg_ℤ, ◌+ℤ◌, ◌-ℤ◌, ◌*ℤ◌, *ℤ_comm, *ℤ-negsuc}
use mir.Syntax.{Width}
use mir.Val.{SFits, to_z, of_z, hbits}
use mir.Facts.{to_z-of_z}
use Rattle.base.specs.Whole.{up, dn, Within}
use Rattle.base.proofs.Whole.{neg_up, neg_dn, up_pos, dn_pos, fits_at, within_more, within_add, within_neg}

-- the bits s stand for z, which is from -b to b
pub record Reads (w : Width) (b s : ℕ) (z : ℤ) : Type 0 where
  pub is : to_z w s ≡ z
  pub within : Within b z

-- however it is made
module _ {w : Width} {b : ℕ} {v z : ℤ} (e : v ≡ z) (h : Within b z) (k : b < 2 ^ hbits w) where
  pub made_fits : SFits w v
  made_fits = subst (SFits w) (sym e) (fits_at w h k)

  pub made : Reads w b (of_z w v) z
  made = record { is = to_z-of_z made_fits ∙ e; within = h }

pub reads_of : {w : Width} {b : ℕ} {z : ℤ} → b < 2 ^ hbits w → Within b z → Reads w b (of_z w z) z
reads_of k h = made refl h k

pub within_pos : (n : ℕ) → Within n (pos n)
within_pos n = record { high = omega (arith, up_pos n, dn_pos n); low = omega (arith, up_pos n, dn_pos n) }

module _ {w : Width} {b d s t : ℕ} {y z : ℤ} (h : Reads w b s y) (g : Reads w d t z) where
  sum : to_z w s +ℤ to_z w t ≡ y +ℤ z
  sum = λ i. h.is i +ℤ g.is i

  pub reads_fits : b + d < 2 ^ hbits w → SFits w (to_z w s +ℤ to_z w t)
  reads_fits k = made_fits sum (within_add h.within g.within) k

  pub reads_add : b + d < 2 ^ hbits w → Reads w (b + d) (of_z w (to_z w s +ℤ to_z w t)) (y +ℤ z)
  reads_add k = made sum (within_add h.within g.within) k

  less : to_z w s -ℤ to_z w t ≡ y -ℤ z
  less = λ i. h.is i -ℤ g.is i

  pub less_fits : b + d < 2 ^ hbits w → SFits w (to_z w s -ℤ to_z w t)
  less_fits k = made_fits less (within_add h.within (within_neg g.within)) k

  pub reads_less : b + d < 2 ^ hbits w → Reads w (b + d) (of_z w (to_z w s -ℤ to_z w t)) (y -ℤ z)
  reads_less k = made less (within_add h.within (within_neg g.within)) k

-- ---- a natural number times a whole one
pub times_up : (a : ℕ) (z : ℤ) → up (pos a *ℤ z) ≡ a * up z
unfolding up
times_up a (pos n) = refl
times_up a (negsuc n) = neg_up (pos (a * suc n)) ∙ dn_pos (a * suc n) ∙ sym (mul-zero a)

pub times_dn : (a : ℕ) (z : ℤ) → dn (pos a *ℤ z) ≡ a * dn z
unfolding dn
times_dn a (pos n) = sym (mul-zero a)
times_dn a (negsuc n) = neg_dn (pos (a * suc n)) ∙ up_pos (a * suc n)

within_times : (a : ℕ) {b : ℕ} {z : ℤ} → Within b z → Within (a * b) (pos a *ℤ z)
within_times a {b} {z} h = record {
  high = omega (arith, times_up a z, times_dn a z, mul-le-mul_left a h.high, mul-add a b (dn z));
  low = omega (arith, times_up a z, times_dn a z, mul-le-mul_left a h.low, mul-add a b (up z));
}

-- a whole number, too
pub within_mul : {a b : ℕ} {y z : ℤ} → Within a y → Within b z → Within (a * b) (y *ℤ z)
unfolding up dn
within_mul {a} {b} {y = pos n} {z} h k =
    within_more (within_times n k) (mul-le-mul_right b (omega (arith, h.high)))
within_mul {a} {b} {y = negsuc n} {z} h k =
    subst (Within (a * b)) (ap neg_ℤ (*ℤ_comm (pos (suc n)) z) ∙ sym (*ℤ-negsuc z n) ∙ *ℤ_comm z (negsuc n))
    (within_neg (within_more (within_times (suc n) k) (mul-le-mul_right b (omega (arith, h.low)))))

module _ {w : Width} {a b d s t : ℕ} {z : ℤ} (h : Reads w d s (pos a)) (g : Reads w b t z)
    (k : a * b < 2 ^ hbits w) where
  times : to_z w s *ℤ to_z w t ≡ pos a *ℤ z
  times = λ i. h.is i *ℤ g.is i

  pub times_fits : SFits w (to_z w s *ℤ to_z w t)
  times_fits = made_fits times (within_times a g.within) k

  pub reads_times : Reads w (a * b) (of_z w (to_z w s *ℤ to_z w t)) (pos a *ℤ z)
  reads_times = made times (within_times a g.within) k

-- ---- a signed number that is natural
module _ (w : Width) {z : ℤ} {k : ℕ} (e : z ≡ pos k) (l : k < 2 ^ hbits w) where
  pub held_fits : SFits w z
  held_fits = made_fits e (within_pos k) l

  pub held : to_z w (of_z w z) ≡ pos k
  held = (made e (within_pos k) l).is
