-- Laws of whole numbers for `omega`, which reads naturals alone. Every z is up z - dn z, and one law for each operation
-- says so in ℕ, linearly: `add a b` of a sum, `neg_up a` and `neg_dn a` of a negation. Handed those of the sums that a
-- goal has, `omega` proves what `same`, `le_of` and `lt_of` turn into an equation or an order of ℤ. Assumes nothing.
use mathlib.Core.Path.{◌≡◌, refl, ap, ◌∙◌}
use mathlib.Core.Bool.{Bool, true, false, not, cond}
use Prim.Native.Nat.{ℕ, zero, suc, ◌+◌, ◌-◌, ◌^◌, ◌≤◌, ◌<◌}
use native.Mathlib.Omega.{arith}
use lib.Dec.{T, ltb, leb→le, le→leb, ltb→lt, lt→ltb, nltb→le}
use lib.IntN.{ℤ, pos, negsuc, neg_ℤ, sub_ℕ, ◌+ℤ◌, ◌-ℤ◌, +ℤ_idl}
use lib.Signed.{mag, ◌≤ℤ◌, ◌<ℤ◌}
use mir.Syntax.{Width}
use mir.Val.{SFits, to_z, of_z, hbits}
use mir.Facts.{to_z-of_z}
use Rattle.base.specs.Whole.{up, dn, Within}

pub up_pos : (n : ℕ) → up (pos n) ≡ n
unfolding up
up_pos n = refl

pub dn_pos : (n : ℕ) → dn (pos n) ≡ 0
unfolding dn
dn_pos n = refl

cond_ind : (c : Bool) (x y : ℤ) (P : ℤ → Type 0) → (T c → P x) → (T (not c) → P y) → P (cond c x y)
cond_ind true x y P f g = f tt
cond_ind false x y P f g = g tt

sub : (a b : ℕ) → up (sub_ℕ a b) + b ≡ dn (sub_ℕ a b) + a
unfolding up dn
sub a b = cond_ind (ltb a b) (negsuc (b - suc a)) (pos (a - b)) (λ z. up z + b ≡ dn z + a)
    (λ t. below a b (ltb→lt a b t)) (λ t. above a b (nltb→le a b t))
  where
    below : (a b : ℕ) → a < b → 0 + b ≡ suc (b - suc a) + a
    below a b h = omega arith

    above : (a b : ℕ) → b ≤ a → a - b + b ≡ 0 + a
    above a b h = omega arith

pub add : (a b : ℤ) → up (a +ℤ b) + (dn a + dn b) ≡ dn (a +ℤ b) + (up a + up b)
unfolding up dn
add (pos a) (pos b) = omega arith
add (pos a) (negsuc b) = omega (arith, sub a (suc b))
add (negsuc a) (pos b) = omega (arith, sub b (suc a))
add (negsuc a) (negsuc b) = omega arith

pub neg_up : (a : ℤ) → up (neg_ℤ a) ≡ dn a
unfolding up dn
neg_up (pos zero) = refl
neg_up (pos (suc n)) = refl
neg_up (negsuc n) = refl

pub neg_dn : (a : ℤ) → dn (neg_ℤ a) ≡ up a
unfolding up dn
neg_dn (pos zero) = refl
neg_dn (pos (suc n)) = refl
neg_dn (negsuc n) = refl

-- an equation of ℤ from one of ℕ
pub same : (a b : ℤ) → up a + dn b ≡ up b + dn a → a ≡ b
unfolding up dn
same (pos a) (pos b) e = ap pos (omega arith)
same (pos a) (negsuc b) e = absurd (omega arith)
same (negsuc a) (pos b) e = absurd (omega arith)
same (negsuc a) (negsuc b) e = ap negsuc (omega arith)

-- an order of ℤ from one of ℕ, and back
pub le_of : (a b : ℤ) → up a + dn b ≤ up b + dn a → a ≤ℤ b
unfolding up dn
le_of (pos a) (pos b) h = record { le = le→leb a b (omega arith) }
le_of (pos a) (negsuc b) h = absurd (omega arith)
le_of (negsuc a) (pos b) h = record { le = tt }
le_of (negsuc a) (negsuc b) h = record { le = le→leb b a (omega arith) }

pub of_le : (a b : ℤ) → a ≤ℤ b → up a + dn b ≤ up b + dn a
unfolding up dn
of_le (pos a) (pos b) h = omega (arith, leb→le a b h.le)
of_le (pos a) (negsuc b) h = absurd h.le
of_le (negsuc a) (pos b) h = omega arith
of_le (negsuc a) (negsuc b) h = omega (arith, leb→le b a h.le)

pub of_lt : (a b : ℤ) → a <ℤ b → up a + dn b < up b + dn a
unfolding up dn
of_lt (pos a) (pos b) h = omega (arith, ltb→lt a b h.lt)
of_lt (pos a) (negsuc b) h = absurd h.lt
of_lt (negsuc a) (pos b) h = omega arith
of_lt (negsuc a) (negsuc b) h = omega (arith, ltb→lt b a h.lt)

pub lt_of : (a b : ℤ) → up a + dn b < up b + dn a → a <ℤ b
unfolding up dn
lt_of (pos a) (pos b) h = record { lt = lt→ltb a b (omega arith) }
lt_of (pos a) (negsuc b) h = absurd (omega arith)
lt_of (negsuc a) (pos b) h = record { lt = tt }
lt_of (negsuc a) (negsuc b) h = record { lt = lt→ltb b a (omega arith) }

pub fits_at : (w : Width) {b : ℕ} {z : ℤ} → Within b z → b < 2 ^ hbits w → SFits w z
unfolding up dn
fits_at w {z = pos n} h k = record { sfits = omega (arith, h.high) }
fits_at w {z = negsuc n} h k = record { sfits = omega (arith, h.low) }

pub within_zero : (b : ℕ) → Within b (pos 0)
unfolding up dn
within_zero b = record { high = omega arith; low = omega arith }

pub within_more : {b d : ℕ} {z : ℤ} → Within b z → b ≤ d → Within d z
within_more w h = record { high = omega (arith, w.high); low = omega (arith, w.low) }

pub within_add : {b d : ℕ} {y z : ℤ} → Within b y → Within d z → Within (b + d) (y +ℤ z)
within_add {b} {d} {y} {z} h k = record { high = omega (arith, add y z); low = omega (arith, add y z) }

pub within_neg : {b : ℕ} {z : ℤ} → Within b z → Within b (neg_ℤ z)
within_neg {b} {z} h = record { high = omega (arith, neg_up z, neg_dn z); low = omega (arith, neg_up z, neg_dn z) }

-- a byte is from -128 to 127
pub byte_within : (z : ℤ) → mag z < 128 → Within 128 z
unfolding up dn
byte_within (pos n) h = record { high = omega arith; low = omega arith }
byte_within (negsuc n) h = record { high = omega arith; low = omega arith }

-- ---- a signed number of any width: its bits read back, a negation
pub small : (w : Width) (b : ℕ) → b < 2 ^ hbits w → (z : ℤ) → Within b z → to_z w (of_z w z) ≡ z
small w b k z h = to_z-of_z (fits_at w h k)

pub within_read : (w : Width) {b : ℕ} {z : ℤ} → b < 2 ^ hbits w → Within b z → Within b (to_z w (of_z w z))
within_read w {b} {z} k h = rw (small w b k z h) h

module _ (w : Width) (b : ℕ) (k : b < 2 ^ hbits w) (z : ℤ) (h : Within b z) where
  is_neg : pos 0 -ℤ to_z w (of_z w z) ≡ neg_ℤ z
  is_neg = ap (λ (y : ℤ). pos 0 -ℤ y) (small w b k z h) ∙ +ℤ_idl (neg_ℤ z)

  pub neg_fits : SFits w (pos 0 -ℤ to_z w (of_z w z))
  neg_fits = rw is_neg (fits_at w (within_neg h) k)

  pub neg_read : to_z w (of_z w (pos 0 -ℤ to_z w (of_z w z))) ≡ neg_ℤ z
  neg_read = to_z-of_z neg_fits ∙ is_neg
