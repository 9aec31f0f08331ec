-- The whole number nearest to n / h, the even one at a tie. It is one number (`only`); `nearest` and the logic's own
-- `closest` are it; and it goes along with an even number of h's that n is added to or taken from. Nothing here is
-- about floats. `omega` takes numbers of at most 38 digits, and 2 ^ 139 has 42: so the laws are over any h, and k * h
-- is an unknown to `omega`.
-- Assumes nothing.
use mathlib.Core.Path.{◌≡◌, refl, sym, ap, ◌∙◌, subst}
use mathlib.Core.Bool.{Bool, true, false, not, cond}
use Prim.Native.Nat.{ℕ, suc, ◌+◌, ◌-◌, ◌*◌, ◌/◌, ◌%◌, ◌^◌, ◌≤◌, ◌<◌}
use Prim.Native.Nat.{compare, Ordering}
use native.Mathlib.Nat.{le_antisymm, mul-le-mul_right, le_of_mul-le-mul_right, suc-mul, add-mul, one-mul}
use native.Mathlib.Nat.{div-add-mod', mod-lt}
use native.Mathlib.Numerals.{add-one}
use native.Mathlib.Omega.{arith}
use lib.Dec.{T, is_le, compare_is_eq, ltb, eqb, ltb→lt, nltb→le, leb→le, nleb→lt, eqb→eq, eqb_refl}
use lib.Arith.{lt_of_le-ne}
use lib.Pow.{pow_pos}
use lib.Ieee as ieee
use lib.Ieee.Nearest.{closest}
use Rattle.rules_chips.specs.Floats.{nearest}

-- twice the distance of k * h from n is at most h, and where it is h, k is even
pub record Rounds (h n k : ℕ) : Type 0 where
  pub above : 2 * (k * h) ≤ 2 * n + h
  pub below : 2 * n ≤ 2 * (k * h) + h
  pub tie_above : 2 * (k * h) ≡ 2 * n + h → k % 2 ≡ 0
  pub tie_below : 2 * n ≡ 2 * (k * h) + h → k % 2 ≡ 0

-- ---- there is one such number
not_less : (h n k j : ℕ) → 0 < h → Rounds h n k → Rounds h n j → k < j → ⊥
not_less h n k j H p q l =
    let m : suc k * h ≤ j * h = mul-le-mul_right h l in
    let s : suc k * h ≡ k * h + h = suc-mul k h in
    let a : 2 * (j * h) ≤ 2 * n + h = q.above in
    let b : 2 * n ≤ 2 * (k * h) + h = p.below in
    let e : k % 2 ≡ 0 = p.tie_below (omega arith) in
    let f : j % 2 ≡ 0 = q.tie_above (omega arith) in
    let g : j ≤ suc k = le_of_mul-le-mul_right {k = h} (omega arith) H in
    omega arith

pub only : (h n k j : ℕ) → 0 < h → Rounds h n k → Rounds h n j → k ≡ j
only h n k j H p q =
    let a : ¬ (k < j) = not_less h n k j H p q in
    let b : ¬ (j < k) = not_less h n j k H q p in
    omega arith

-- ---- from the quotient q and the remainder r
module _ (h n q r : ℕ) (e : q * h + r ≡ n) where
  at_less : 2 * r < h → Rounds h n q
  at_less l = record {
    above = omega arith;
    below = omega arith;
    tie_above = λ t. absurd (omega arith);
    tie_below = λ t. absurd (omega arith);
  }

  at_more : h < 2 * r → r < h → Rounds h n (suc q)
  at_more l m =
      let s : suc q * h ≡ q * h + h = suc-mul q h in
      record {
        above = omega arith;
        below = omega arith;
        tie_above = λ t. absurd (omega arith);
        tie_below = λ t. absurd (omega arith);
      }

  at_half : 2 * r ≡ h → Rounds h n (q + q % 2)
  at_half l = go (q % 2) refl (omega arith)
    where
      go : (b : ℕ) → q % 2 ≡ b → b < 2 → Rounds h n (q + b)
      go b p m =
          let s : (q + b) * h ≡ q * h + b * h = add-mul q b h in
          let t : b * h ≤ 1 * h = mul-le-mul_right h (omega arith) in
          let u : 1 * h ≡ h = one-mul h in
          let even : (q + b) % 2 ≡ 0 = omega arith in
          record { above = omega arith; below = omega arith; tie_above = λ t. even; tie_below = λ t. even }

-- ---- the logic's `closest`, and this crate's `nearest`
abbrev Cmp : Ordering → ℕ → ℕ → Type 0
Cmp Ordering.lt a b = a < b
Cmp Ordering.eq a b = a ≡ b
Cmp Ordering.gt a b = b < a

cmp : (a b : ℕ) → Cmp (compare a b) a b
cmp a b =
    go (compare a b) (leb→le a b) (nleb→lt a b) (eqb→eq a b)
    (λ (e : a ≡ b). subst (λ (x : ℕ). T (eqb a x)) e (eqb_refl a))
  where
    go : (o : Ordering) → (T (is_le o) → a ≤ b) → (T (not (is_le o)) → b < a) → (T (compare_is_eq o) → a ≡ b)
        → (a ≡ b → T (compare_is_eq o)) → Cmp o a b
    go Ordering.lt h k e n = lt_of_le-ne (h tt) n
    go Ordering.eq h k e n = e tt
    go Ordering.gt h k e n = k tt

pub closest_near : (h n : ℕ) → 0 < h → Rounds h n (closest n h)
closest_near h n H = go (compare (n % h * 2) h) (cmp (n % h * 2) h)
  where
    e : n / h * h + n % h ≡ n
    e = div-add-mod' n h

    go : (o : Ordering) → Cmp o (n % h * 2) h → Rounds h n (ieee.nearest (n / h) o)
    go Ordering.lt l = at_less h n (n / h) (n % h) e (omega arith)
    go Ordering.eq l = at_half h n (n / h) (n % h) e (omega arith)
    go Ordering.gt l = at_more h n (n / h) (n % h) e (omega arith) (mod-lt n H)

pub nearest_near : (n : ℕ) → Rounds (2 ^ 139) n (nearest n)
unfolding nearest
nearest_near n = go (2 ^ 139) (n / 2 ^ 139) (n % 2 ^ 139) (div-add-mod' n (2 ^ 139)) (mod-lt n (pow_pos 139))
  where
    go : (h q r : ℕ) → q * h + r ≡ n → r < h
        → Rounds h n (cond (ltb (2 * r) h) q (cond (ltb h (2 * r)) (q + 1) (q + q % 2)))
    go h q r e m =
        by (ltb (2 * r) h) (ltb→lt (2 * r) h) (nltb→le (2 * r) h)
        (ltb h (2 * r)) (ltb→lt h (2 * r)) (nltb→le h (2 * r))
      where
        by : (b : Bool) → (T b → 2 * r < h) → (T (not b) → h ≤ 2 * r)
            → (d : Bool) → (T d → h < 2 * r) → (T (not d) → 2 * r ≤ h)
            → Rounds h n (cond b q (cond d (q + 1) (q + q % 2)))
        by true x y d z w = at_less h n q r e (x tt)
        by false x y true z w = rw add-one (at_more h n q r e (z tt) m)
        by false x y false z w = at_half h n q r e (le_antisymm (w tt) (y tt))

-- ---- with an even number M of h's
pub plus : (h n k M : ℕ) → M % 2 ≡ 0 → Rounds h n k → Rounds h (M * h + n) (M + k)
plus h n k M v p =
    let s : (M + k) * h ≡ M * h + k * h = add-mul M k h in
    record {
      above = omega arith;
      below = omega arith;
      tie_above = λ t. let u : k % 2 ≡ 0 = p.tie_above (omega arith) in omega arith;
      tie_below = λ t. let u : k % 2 ≡ 0 = p.tie_below (omega arith) in omega arith;
    }

pub less : (h n k M : ℕ) → M % 2 ≡ 0 → n ≤ M * h → k ≤ M → Rounds h n k → Rounds h (M * h - n) (M - k)
less h n k M v l m p =
    let s : k * h + (M - k) * h ≡ M * h = sym (add-mul k (M - k) h) ∙ ap (λ (x : ℕ). x * h) (omega arith) in
    record {
      above = omega arith;
      below = omega arith;
      tie_above = λ t. let u : k % 2 ≡ 0 = p.tie_below (omega arith) in omega arith;
      tie_below = λ t. let u : k % 2 ≡ 0 = p.tie_above (omega arith) in omega arith;
    }

-- what is nearest to n / h is at most M where n is at most M * h
pub at_most_lem : (h n k M : ℕ) → 0 < h → n ≤ M * h → Rounds h n k → k ≤ M
at_most_lem h n k M H l p = le_of_not_less (λ (g : M < k).
    let a : suc M * h ≤ k * h = mul-le-mul_right h g in
    let s : suc M * h ≡ M * h + h = suc-mul M h in
    omega arith)
  where
    le_of_not_less : ¬ (M < k) → k ≤ M
    le_of_not_less x = omega arith

-- 8 is 8192 counts
pub nearest_le : (n : ℕ) → n ≤ 8 * 2 ^ 149 → nearest n ≤ 8192
nearest_le n h = at_most_lem (2 ^ 139) n (nearest n) 8192 (pow_pos 139) h (nearest_near n)
