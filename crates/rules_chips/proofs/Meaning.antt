-- What `count_of` means: the count of a usable x is nearest to its value (`counted`), no other whole number is
-- (`no_other`), and it is from -8192 to 8192. Magnitudes go by `Rounds`; a number with the other sign is too far off.
-- Assumes nothing.
use mathlib.Core.Path.{◌≡◌, refl, sym, ap, ◌∙◌, subst⁻¹}
use mathlib.Core.Bool.{Bool, true, false, not, cond}
use Prim.Native.Nat.{ℕ, zero, suc, ◌+◌, ◌-◌, ◌*◌, ◌%◌, ◌^◌, ◌≤◌, ◌<◌}
use native.Mathlib.Nat.{zero-mul, suc-mul}
use native.Mathlib.Omega.{arith}
use lib.Dec.{T, ltb, leb, leb→le, nleb→lt, ltb→lt, nltb→le}
use lib.IntN.{ℤ, pos, negsuc, neg_ℤ, nat_abs, sub_ℕ, ◌-ℤ◌, ◌*ℤ◌}
use lib.Pow.{pow_pos}
use lib.Ieee.{Float, nan, inf, fin}
use Rattle.base.specs.Whole.{Within, up, dn}
use Rattle.base.proofs.Whole.{within_zero}
use Rattle.rules_chips.specs.Floats.{steps, negative, usable, nearest, signed, count_of, value_of, Nearest}
use Rattle.rules_chips.specs.Bounds.{off_by}
use Rattle.rules_chips.proofs.Rounding.{Rounds, only, nearest_near, nearest_le}
use Rattle.rules_chips.proofs.Sum.{cond_yes}

-- ---- usable
steps_under : (x : Float) → T (usable x) → steps x ≤ 8 * 2 ^ 149
unfolding usable
steps_under nan u = absurd u
steps_under (inf s) u = absurd u
steps_under (fin s m e) u = leb→le (steps (fin s m e)) (8 * 2 ^ 149) u

usable_count : (x : Float) → T (usable x) → count_of x ≡ signed (negative x) (nearest (steps x))
unfolding count_of
usable_count x u = cond_yes (usable x) (signed (negative x) (nearest (steps x))) (pos 0) u

-- ---- the range
size : (s : Bool) (a : ℕ) → nat_abs (signed s a) ≡ a
size false a = refl
size true zero = refl
size true (suc a) = refl

pub abs_within : (b : ℕ) (z : ℤ) → nat_abs z ≤ b → Within b z
unfolding up dn
abs_within b (pos n) h = record { high = omega arith; low = omega arith }
abs_within b (negsuc n) h = record { high = omega arith; low = omega arith }

pub count_within : (x : Float) → Within 8192 (count_of x)
unfolding count_of
count_within x = go (usable x) (steps_under x)
  where
    go : (b : Bool) → (T b → steps x ≤ 8 * 2 ^ 149)
        → Within 8192 (cond b (signed (negative x) (nearest (steps x))) (pos 0))
    go true f =
        abs_within 8192 (signed (negative x) (nearest (steps x)))
        (rw (size (negative x) (nearest (steps x))) (nearest_le (steps x) (f tt)))
    go false f = within_zero 8192

-- ---- distances
gap : (a b : ℕ) → nat_abs (sub_ℕ a b) ≡ (a - b) + (b - a)
gap a b = go (ltb a b) (ltb→lt a b) (nltb→le a b)
  where
    go : (t : Bool) → (T t → a < b) → (T (not t) → b ≤ a)
        → nat_abs (cond t (negsuc (b - suc a)) (pos (a - b))) ≡ (a - b) + (b - a)
    go true f g = let h : a < b = f tt in omega arith
    go false f g = let h : b ≤ a = g tt in omega arith

alike : (s : Bool) (u n : ℕ) → nat_abs (signed s u -ℤ signed s n) ≡ (u - n) + (n - u)
alike false u zero = omega arith
alike false u (suc n) = gap u (suc n)
alike true zero zero = refl
alike true zero (suc n) = omega arith
alike true (suc u) zero = gap 0 (suc u) ∙ omega arith
alike true (suc u) (suc n) = gap (suc n) (suc u) ∙ omega arith

unlike : (s : Bool) (u n : ℕ) → nat_abs (signed s u -ℤ signed (not s) n) ≡ u + n
unlike false u zero = refl
unlike false u (suc n) = refl
unlike true zero zero = refl
unlike true zero (suc n) = gap 0 (suc n) ∙ omega arith
unlike true (suc u) zero = gap 0 (suc u) ∙ omega arith
unlike true (suc u) (suc n) = omega arith

pub scaled : (s : Bool) (a h : ℕ) → signed s a *ℤ pos h ≡ signed s (a * h)
scaled false a h = refl
scaled true zero h = ap pos (zero-mul h) ∙ sym (ap (λ (x : ℕ). neg_ℤ (pos x)) (zero-mul h))
scaled true (suc a) h = refl

-- ---- from the magnitudes to the signed numbers and back, for counts of any h steps
module _ (h : ℕ) (s : Bool) (n a : ℕ) where
  abbrev distance : ℕ
  distance = nat_abs (signed s a *ℤ pos h -ℤ signed s n)

  apart : distance ≡ (a * h - n) + (n - a * h)
  apart = ap (λ (z : ℤ). nat_abs (z -ℤ signed s n)) (scaled s a h) ∙ alike s (a * h) n

  close_of : Rounds h n a → 2 * distance ≤ h
  close_of p = rw apart (omega arith)

  even_of : Rounds h n a → 2 * distance ≡ h → nat_abs (signed s a) % 2 ≡ 0
  even_of p e = rw (size s a) (go (rw apart at e))
    where
      go : 2 * (a * h - n + (n - a * h)) ≡ h → a % 2 ≡ 0
      go e = either (leb n (a * h)) (leb→le n (a * h)) (nleb→lt n (a * h))
        where
          either : (b : Bool) → (T b → n ≤ a * h) → (T (not b) → a * h < n) → a % 2 ≡ 0
          either true f g = let l : n ≤ a * h = f tt in p.tie_above (omega arith)
          either false f g = let l : a * h < n = g tt in p.tie_below (omega arith)

  rounds_of : 2 * distance ≤ h → (2 * distance ≡ h → nat_abs (signed s a) % 2 ≡ 0) → Rounds h n a
  rounds_of c e =
      go (rw apart at c) (λ (t : 2 * (a * h - n + (n - a * h)) ≡ h). rw (size s a) at (e (rw apart t)))
    where
      go : 2 * (a * h - n + (n - a * h)) ≤ h → (2 * (a * h - n + (n - a * h)) ≡ h → a % 2 ≡ 0) → Rounds h n a
      go c e = record {
        above = omega arith;
        below = omega arith;
        tie_above = λ t. e (omega arith);
        tie_below = λ t. e (omega arith);
      }

-- a number with the other sign is too far off, but for 0
too_far : (h : ℕ) (s : Bool) (n a : ℕ) → 0 < h → 2 * nat_abs (signed s (suc a) *ℤ pos h -ℤ signed (not s) n) ≤ h → ⊥
too_far h s n a H c =
    let across : nat_abs (signed s (suc a) *ℤ pos h -ℤ signed (not s) n) ≡ suc a * h + n =
    ap (λ (z : ℤ). nat_abs (z -ℤ signed (not s) n)) (scaled s (suc a) h) ∙ unlike s (suc a * h) n in
    let d : 2 * (suc a * h + n) ≤ h = rw across at c in
    let e : suc a * h ≡ a * h + h = suc-mul a h in
    omega arith

-- ---- the count
-- promise: The count of a usable f32 is the whole number nearest to 1024 times its value, ties to the even one; no
-- other number is; the error is at most half a count
-- rule: 2.6, 8.6
-- code: count
-- with: no_other, count_near, worked_counts
pub counted : (x : Float) → T (usable x) → Nearest (value_of x) (count_of x)
counted x u =
    let s = negative x in
    let n = steps x in
    subst⁻¹ (Nearest (value_of x)) (usable_count x u)
    (record {
      close = close_of (2 ^ 139) s n (nearest n) (nearest_near n);
      even = even_of (2 ^ 139) s n (nearest n) (nearest_near n);
    })

pub no_other : (x : Float) (k : ℤ) → T (usable x) → Nearest (value_of x) k → k ≡ count_of x
no_other x k u p = go (negative x) (steps x) k p.close p.even ∙ sym (usable_count x u)
  where
    one : (s : Bool) (n a : ℕ) → Rounds (2 ^ 139) n a → signed s a ≡ signed s (nearest n)
    one s n a q = ap (signed s) (only (2 ^ 139) n a (nearest n) (pow_pos 139) q (nearest_near n))

    go : (s : Bool) (n : ℕ) (k : ℤ) → 2 * nat_abs (k *ℤ pos (2 ^ 139) -ℤ signed s n) ≤ 2 ^ 139
        → (2 * nat_abs (k *ℤ pos (2 ^ 139) -ℤ signed s n) ≡ 2 ^ 139 → nat_abs k % 2 ≡ 0) → k ≡ signed s (nearest n)
    go false n (pos a) c e = one false n a (rounds_of (2 ^ 139) false n a c e)
    go false n (negsuc a) c e = absurd (too_far (2 ^ 139) true n a (pow_pos 139) c)
    go true n (pos zero) c e = one true n 0 (rounds_of (2 ^ 139) true n 0 c e)
    go true n (pos (suc a)) c e = absurd (too_far (2 ^ 139) false n a (pow_pos 139) c)
    go true n (negsuc a) c e = one true n (suc a) (rounds_of (2 ^ 139) true n (suc a) c e)

-- ---- the error
half : (h : ℕ) (z : ℤ) → 2 * nat_abs z ≤ 2 * h → Within h z
half h z c = abs_within h z (omega arith)

pub count_near : (x : Float) → T (usable x) → Within (2 ^ 138) (off_by (count_of x) (value_of x))
count_near x u = half (2 ^ 138) (off_by (count_of x) (value_of x)) (counted x u).close
