-- The better key of two opposite words as the code makes it: a magnitude, with no test.
-- Assumes nothing.
use mathlib.Core.Path.{◌≡◌, refl, ap, ◌∙◌}
use mathlib.Core.Bool.{Bool, true, false, cond}
use mathlib.Core.Logic.{◌⊎◌, inl, inr, ⊎_elim}
use Prim.Native.Nat.{ℕ, suc, ◌+◌, ◌*◌, ◌-◌, ◌^◌, ◌≤◌, ◌<◌}
use native.Mathlib.Nat.{mul-suc, mul-le-mul_left}
use native.Mathlib.Omega.{arith}
use borrow.Author.Tests.{ltb-true}
use lib.IntN.{ℤ, pos, negsuc, neg_ℤ, nat_abs, ◌+ℤ◌, ◌*ℤ◌}
use lib.Signed.{lt_z}
use mir.Syntax.{Width}
use mir.Val.{SFits, to_z, of_z, hbits}
use mir.Facts.{to_z_pos}
use Rattle.base.specs.Whole.{up, dn, Within}
use Rattle.base.proofs.Whole.{add, within_more}
use Rattle.rules_choosing.specs.Keys.{key_of}
use Rattle.base.proofs.Adding.{
  Reads,
  reads_of,
  within_pos,
  reads_fits,
  reads_add,
  times_up,
  times_dn,
  times_fits,
  reads_times,
  held_fits,
  held,
}

pub abs_below : (z : ℤ) → lt_z z (pos 0) ≡ true → neg_ℤ z ≡ pos (nat_abs z)
abs_below (pos n) e = absurd (omega (arith, ltb-true n 0 e))
abs_below (negsuc n) e = refl

pub abs_above : (z : ℤ) → lt_z z (pos 0) ≡ false → z ≡ pos (nat_abs z)
abs_above (pos n) e = refl
abs_above (negsuc n) e = absurd (let x : ◌≡◌ {A = ℕ} 0 1 = ap (λ (b : Bool). cond b 0 1) e in omega arith)

abs_sides : (z : ℤ) → ((up z ≡ nat_abs z) × (dn z ≡ 0)) ⊎ ((up z ≡ 0) × (dn z ≡ nat_abs z))
unfolding up dn
abs_sides (pos n) = inl (refl, refl)
abs_sides (negsuc n) = inr (refl, refl)

pub abs_le : {b : ℕ} {z : ℤ} → Within b z → nat_abs z ≤ b
abs_le {b} {z} w = ⊎_elim (λ e. omega (arith, w.high)) (λ e. omega (arith, w.low)) (abs_sides z)

-- of 4 w words
abbrev pub raised : ℕ → ℤ → ℤ
raised w z = (pos (4 * w) *ℤ z) +ℤ pos w

pub key_abs : (w n : ℕ) (z : ℤ) → n < w + w → nat_abs (raised w z) + (3 * w - 1 - n) ≡ key_of (w + w) n z
unfolding key_of up dn
key_abs w n (pos s) l =
    let e : w + w + (w + w) ≡ 4 * w = omega arith in
    rw e (omega arith)
key_abs w n (negsuc s) l =
    let e : w + w + (w + w) ≡ 4 * w = omega arith in
    let z = negsuc s in
    let a = times_up (4 * w) z in
    let b = times_dn (4 * w) z in
    let c = add (pos (4 * w) *ℤ z) (pos w) in
    rw e
    (⊎_elim (λ x. omega (arith, mul-suc (4 * w) s)) (λ x. omega (arith, mul-suc (4 * w) s)) (abs_sides (raised w z)))

pub key_small : (h n : ℕ) (z : ℤ) {b : ℕ} → Within b z → key_of h n z ≤ (h + h) * b + (h + h)
unfolding key_of up dn
key_small h n (pos s) {b} w =
    let l : s ≤ b = omega (arith, w.high) in
    omega (arith, mul-le-mul_left (h + h) l)
key_small h n (negsuc s) {b} w =
    let l : suc s ≤ b = omega (arith, w.low) in
    omega (arith, mul-le-mul_left (h + h) l)

-- ---- in signed numbers of any width: of a score from -b to b all that is made fits, and the end is the key
module _ (v : Width) (b w n : ℕ) (s : ℤ) (few : b < 2 ^ hbits v) (room : 4 * w * b + 4 * w < 2 ^ hbits v)
    (h : Within b s) (l : n < w + w) where
  four : Reads v 4 4 (pos 4)
  four = record { is = to_z_pos v (omega arith); within = within_pos 4 }

  quarter : Reads v w w (pos w)
  quarter = record { is = to_z_pos v (omega arith); within = within_pos w }

  score : Reads v b (of_z v s) s
  score = reads_of few h

  -- the bits, as the code makes them
  abbrev words : ℕ
  words = of_z v (to_z v 4 *ℤ to_z v w)

  abbrev product : ℕ
  product = of_z v (to_z v words *ℤ to_z v (of_z v s))

  abbrev sum : ℕ
  sum = of_z v (to_z v product +ℤ to_z v w)

  pub words_fit : SFits v (to_z v 4 *ℤ to_z v w)
  words_fit = times_fits four quarter (omega arith)

  words_num : Reads v (4 * w) words (pos (4 * w))
  words_num = reads_times four quarter (omega arith)

  pub product_fits : SFits v (to_z v words *ℤ to_z v (of_z v s))
  product_fits = times_fits words_num score (omega arith)

  product_num : Reads v (4 * w * b) product (pos (4 * w) *ℤ s)
  product_num = reads_times words_num score (omega arith)

  pub raised_fits : SFits v (to_z v product +ℤ to_z v w)
  raised_fits = reads_fits product_num quarter (omega arith)

  raised_num : Reads v (4 * w * b + w) sum (raised w s)
  raised_num = reads_add product_num quarter (omega arith)

  pub raised_within : {d : ℕ} → 4 * w * b + w ≤ d → Within d (to_z v sum)
  raised_within k = rw raised_num.is (within_more raised_num.within k)

  -- with its magnitude
  module _ {r : ℤ} (e : r ≡ pos (nat_abs (to_z v sum))) where
    abbrev rest : ℕ
    rest = 3 * w - 1 - n

    abs_is : r ≡ pos (nat_abs (raised w s))
    abs_is = e ∙ ap (λ (z : ℤ). pos (nat_abs z)) raised_num.is

    below : nat_abs (raised w s) + rest < 2 ^ hbits v
    below = omega (arith, abs_le raised_num.within)

    sum_is : to_z v (of_z v r) +ℤ to_z v rest ≡ pos (nat_abs (raised w s) + rest)
    sum_is = λ i. held v abs_is (omega (arith, below)) i +ℤ to_z_pos v {n = rest} (omega arith) i

    pub key_fits : SFits v (to_z v (of_z v r) +ℤ to_z v rest)
    key_fits = held_fits v sum_is below

    pub key_is : to_z v (of_z v (to_z v (of_z v r) +ℤ to_z v rest)) ≡ pos (key_of (w + w) n s)
    key_is = held v sum_is below ∙ ap pos (key_abs w n s l)

  -- a key is read back
  pub key_read : {z : ℤ} → z ≡ pos (key_of (w + w) n (to_z v (of_z v s))) → to_z v (of_z v z) ≡ pos (key_of (w + w) n s)
  key_read e =
      let four : w + w + (w + w) ≡ 4 * w = omega arith in
      held v (e ∙ ap (λ (y : ℤ). pos (key_of (w + w) n y)) score.is)
      (omega (arith, rw four at (key_small (w + w) n s h)))

-- ---- the same with a test
pub key_below : (w n : ℕ) (z : ℤ) → lt_z z (pos 0) ≡ true → n < w + w → 4 * w * nat_abs z + (2 * w - 1 - n)
    ≡ key_of (w + w) n z
unfolding key_of
key_below w n (pos s) t l = absurd (omega (arith, ltb-true s 0 t))
key_below w n (negsuc s) t l = let e : w + w + (w + w) ≡ 4 * w = omega arith in rw e (omega arith)

pub key_above : (w n : ℕ) (z : ℤ) → lt_z z (pos 0) ≡ false → n < w + w → 4 * w * nat_abs z + (4 * w - 1 - n)
    ≡ key_of (w + w) n z
unfolding key_of
key_above w n (pos s) t l = let e : w + w + (w + w) ≡ 4 * w = omega arith in rw e (omega arith)
key_above w n (negsuc s) t l = absurd (let x : ◌≡◌ {A = ℕ} 0 1 = ap (λ (b : Bool). cond b 0 1) t in omega arith)
