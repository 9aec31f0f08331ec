-- A finite f32 is a whole number of steps: the division in `steps` leaves no remainder (`steps_exact`). So `usable` is
-- what the two comparisons with -8 and 8 find (`usable_is`).
-- Assumes nothing.
use mathlib.Core.Path.{◌≡◌, refl, sym, ap, ◌∙◌}
use mathlib.Core.Logic.{inl, inr}
use mathlib.Core.Bool.{Bool, true, false, ◌&&◌, ◌||◌}
use Prim.Native.Nat.{ℕ, zero, suc, ◌+◌, ◌-◌, ◌*◌, ◌/◌, ◌%◌, ◌^◌, ◌≤◌, ◌<◌}
use native.Mathlib.Nat.{le_of_eq, eq-or-lt_of_le, le_trans, lt_of_not-le, not-le_of_lt, le_of_suc-le-suc}
use native.Mathlib.Nat.{zero-mul, mul_assoc, mul_right_comm, mul-le-mul_right, le_of_mul-le-mul_right, mul-div_cancel}
use native.Mathlib.Omega.{arith}
use lib.Dec.{T, leb, ltb, eqb, leb→le, le→leb, ltb→lt, lt→ltb, eqb→eq}
use lib.Pow.{pow-add, pow_pos, pow-lt}
use lib.IntN.{ℤ, pos, negsuc}
use lib.Ieee.{Float, nan, inf, fin, binary32, up, down, fits, le}
use lib.Ieee.Digits.{back}
use lib.Ieee.Fits.{down_pos, and_l, and_r, and_i, eq→eqb}
use Rattle.rules_chips.specs.Floats.{steps, usable}

-- ---- the division
exponent_le : (i j : ℕ) → 2 ^ i ≤ 2 ^ j → i ≤ j
exponent_le i j h = le_of_suc-le-suc (lt_of_not-le (λ (g : suc j ≤ i). not-le_of_lt (pow-lt g) h))

divides : (e : ℤ) → down e ≤ 2 ^ 149 → (j : ℕ) × (2 ^ 149 ≡ j * down e)
divides (pos k) h = (2 ^ 149, refl)
divides (negsuc k) h = (
  2 ^ (149 - suc k),
  ap (λ (x : ℕ). 2 ^ x) (sym (back 149 (suc k) (exponent_le (suc k) 149 h))) ∙ pow-add 2 (149 - suc k) (suc k),
)

whole : (a d c : ℕ) → 0 < d → a ≡ c * d → a / d * d ≡ a
whole a d c p h = ap (λ (x : ℕ). x * d) (ap (λ (x : ℕ). x / d) h ∙ mul-div_cancel c p) ∙ sym h

pub steps_exact : (s : Bool) (m : ℕ) (e : ℤ) → T (fits binary32 (fin s m e))
    → steps (fin s m e) * down e ≡ m * up e * 2 ^ 149
unfolding steps fits
steps_exact s zero e t =
    whole (0 * up e * 2 ^ 149) (down e) 0 (down_pos e)
    (ap (λ (x : ℕ). x * 2 ^ 149) (zero-mul (up e)) ∙ sym (zero-mul (down e)))
steps_exact s (suc m) e t =
    let A = eqb (suc m % 2) 1 && ltb (suc m) (2 ^ 24) in
    let C = leb (down e) (2 ^ 149) in
    let D = ltb (suc m * up e) (2 ^ 128 * down e) in
    let d = divides e (leb→le (down e) (2 ^ 149) (and_r A C (and_l (A && C) D t))) in
    whole (suc m * up e * 2 ^ 149) (down e) (suc m * up e * d.0) (down_pos e)
    (ap (λ (x : ℕ). suc m * up e * x) d.1 ∙ sym (mul_assoc (suc m * up e) d.0 (down e)))

-- n steps are a / d, and 8 is 8 * l steps
pub under : (n a d l : ℕ) → 0 < d → 0 < l → n * d ≡ a * l → n ≤ 8 * l → a ≤ 8 * d
under n a d l D L h k =
    le_of_mul-le-mul_right
    (le_trans (le_of_eq (sym h)) (le_trans (mul-le-mul_right d k) (le_of_eq (mul_right_comm 8 l d)))) L

over : (n a d l : ℕ) → 0 < d → 0 < l → n * d ≡ a * l → a ≤ 8 * d → n ≤ 8 * l
over n a d l D L h k = under a n l d L D (sym h) k

-- ---- the comparisons: `<=` is `<` or `==`
same : (a b : Bool) → (T a → T b) → (T b → T a) → a ≡ b
same true true f g = refl
same true false f g = absurd (f tt)
same false true f g = absurd (g tt)
same false false f g = refl

from_le : (a b : ℕ) (y x : Bool) → (T y → a ≤ b) → T (ltb a b || (y && x)) → a ≤ b
from_le a b y x g = go (ltb a b) y (ltb→lt a b) g
  where
    go : (l e : Bool) → (T l → a < b) → (T e → a ≤ b) → T (l || (e && x)) → a ≤ b
    go true e f g t = let h : a < b = f tt in omega arith
    go false true f g t = g tt
    go false false f g t = absurd t

first : (l z : Bool) → T l → T (l || z)
first true z t = tt
first false z t = absurd t

to_le : (a b : ℕ) (y : Bool) → (a ≡ b → T y) → a ≤ b → T (ltb a b || (y && true))
to_le a b y g h =
    elim (eq-or-lt_of_le h)
    [ inl p ↦ last (ltb a b) y (g p) | inr l ↦ first (ltb a b) (y && true) (lt→ltb a b l) ]
  where
    last : (l e : Bool) → T e → T (l || (e && true))
    last true e t = tt
    last false true t = tt
    last false false t = t

abbrev above : Float → Bool
above x = le (fin true 1 (pos 3)) x

abbrev below : Float → Bool
below x = le x (fin false 1 (pos 3))

eight_up : (s : Bool) (m : ℕ) (e : ℤ) → T (above (fin s m e) && below (fin s m e)) → m * up e ≤ 8 * down e
unfolding le
eight_up false m e t =
    let a = m * up e * 1 in
    let b = 8 * down e in
    let h : a ≤ b = from_le a b (eqb a b) true (λ (y : T (eqb a b)). le_of_eq (eqb→eq a b y))
    (and_r (above (fin false m e)) (below (fin false m e)) t) in
    omega arith
eight_up true m e t =
    let a = m * up e * 1 in
    let b = 8 * down e in
    let h : a ≤ b = from_le a b (eqb b a) true (λ (y : T (eqb b a)). le_of_eq (sym (eqb→eq b a y)))
    (and_l (above (fin true m e)) (below (fin true m e)) t) in
    omega arith

eight_down : (s : Bool) (m : ℕ) (e : ℤ) → m * up e ≤ 8 * down e → T (above (fin s m e) && below (fin s m e))
unfolding le
eight_down false m e h =
    let a = m * up e * 1 in
    let b = 8 * down e in
    and_i (above (fin false m e)) (below (fin false m e))
    (first (ltb 0 (b + a)) (eqb b a && eqb b 0) (lt→ltb 0 (b + a) (omega (arith, down_pos e))))
    (to_le a b (eqb a b) (λ (p : a ≡ b). eq→eqb p) (omega arith))
eight_down true m e h =
    let a = m * up e * 1 in
    let b = 8 * down e in
    and_i (above (fin true m e)) (below (fin true m e))
    (to_le a b (eqb b a) (λ (p : a ≡ b). eq→eqb (sym p)) (omega arith))
    (first (ltb 0 (a + b)) (eqb a b && eqb a 0) (lt→ltb 0 (a + b) (omega (arith, down_pos e))))

pub usable_is : (x : Float) → T (fits binary32 x) → usable x ≡ (le (fin true 1 (pos 3)) x && le x (fin false 1 (pos 3)))
unfolding usable le
usable_is nan t = refl
usable_is (inf true) t = refl
usable_is (inf false) t = refl
usable_is (fin s m e) t =
    let n = steps (fin s m e) in
    let x = steps_exact s m e t in
    same (leb n (8 * 2 ^ 149)) (above (fin s m e) && below (fin s m e))
    (λ (h : T (leb n (8 * 2 ^ 149))). eight_down s m e
    (under n (m * up e) (down e) (2 ^ 149) (down_pos e) (pow_pos 149) x (leb→le n (8 * 2 ^ 149) h)))
    (λ (h : T (above (fin s m e) && below (fin s m e))). le→leb n (8 * 2 ^ 149)
    (over n (m * up e) (down e) (2 ^ 149) (down_pos e) (pow_pos 149) x (eight_up s m e h)))
