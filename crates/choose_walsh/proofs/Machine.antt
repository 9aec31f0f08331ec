-- The keys of a last butterfly in signed numbers of any width: what is made of numbers from -b to b fits, and is read
-- back as what it is in whole numbers.
--     within_one, credit_within                     how large one of two is, and what is added to a magnitude
--     reads_smaller, two_minus_fits, reads_credit   the smaller of two, and what a number adds to the magnitude of y
--     credit_by, left_over                          credit and smaller where SSE2 has no instruction for them
-- Assumes nothing.
use mathlib.Core.Path.{◌≡◌, ap, ◌∙◌}
use mathlib.Core.Bool.{Bool, true, false, not, cond}
use Prim.Native.Nat.{ℕ, ◌+◌, ◌^◌, ◌<◌}
use native.Mathlib.Omega.{arith}
use lib.IntN.{ℤ, pos, negsuc, neg_ℤ, ◌+ℤ◌, ◌-ℤ◌}
use lib.Dec.{T}
use lib.Signed.{lt_z, ◌≤ℤ◌, ◌<ℤ◌, lt_z_yes, lt_z_no}
use mir.Syntax.{Width}
use mir.Val.{SFits, to_z, of_z, hbits}
use Rattle.base.specs.Whole.{up, dn, Within}
use Rattle.base.proofs.Whole.{add, neg_up, neg_dn, same, of_lt, of_le, within_add, within_neg, within_more}
use Rattle.rules_choosing.specs.Keys.{larger, smaller}
use Rattle.base.proofs.Adding.{Reads, made_fits, made, within_pos}
use Rattle.choose_walsh.specs.Turns.{credit}

pub within_one : {c : ℕ} {u v : ℤ} (t : Bool) → Within c u → Within c v → Within c (cond t u v)
within_one true h k = h
within_one false h k = k

-- the smaller of two
pub reads_smaller : {w : Width} {c s t : ℕ} {y z r : ℤ} → c < 2 ^ hbits w → Reads w c s y → Reads w c t z
    → r ≡ smaller (to_z w s) (to_z w t) → Reads w c (of_z w r) (smaller y z)
reads_smaller {y = y} {z} few h g e =
    made (e ∙ (λ i. smaller (h.is i) (g.is i))) (within_one (lt_z y z) h.within g.within) few

within_two : Within 2 (negsuc 1)
within_two = within_neg (within_pos 2)

pub credit_within : {b : ℕ} (u : ℤ) → Within b u → Within (2 + b) (credit u)
unfolding credit
credit_within {b} u h =
    within_one (lt_z u (negsuc 1 -ℤ u)) (within_add within_two (within_neg h)) (within_more h (omega arith))

module _ {w : Width} {b : ℕ} (few : 2 + b < 2 ^ hbits w) {s : ℕ} {u : ℤ} (h : Reads w b s u) where
  pub two_minus_fits : SFits w (negsuc 1 -ℤ to_z w s)
  two_minus_fits =
      made_fits (ap (λ (z : ℤ). negsuc 1 -ℤ z) h.is) (within_add within_two (within_neg h.within)) few

  -- as the code makes it
  pub credit_is : {r : ℤ} → r ≡ larger (to_z w s) (to_z w (of_z w (negsuc 1 -ℤ to_z w s))) → to_z w (of_z w r) ≡ credit u
  unfolding credit
  credit_is {r} e =
      (made (e ∙ (λ i. larger (h.is i) (minus.is i))) (credit_within u h.within) few).is
    where
      minus : Reads w (2 + b) (of_z w (negsuc 1 -ℤ to_z w s)) (negsuc 1 -ℤ u)
      minus =
          made (ap (λ (z : ℤ). negsuc 1 -ℤ z) h.is) (within_add within_two (within_neg h.within)) few

  -- as it is called
  pub reads_credit : {r : ℤ} → r ≡ credit (to_z w s) → Reads w (2 + b) (of_z w r) (credit u)
  reads_credit e = made (e ∙ ap credit h.is) (credit_within u h.within) few

-- the other way to a credit: the complement, and 1 less, where it is below 0
pub credit_by : (u : ℤ) → cond (lt_z u (pos 0)) (negsuc 0 -ℤ u) u +ℤ cond (lt_z u (pos 0)) (negsuc 0) (pos 0) ≡ credit u
unfolding credit up dn
credit_by u =
    by (lt_z u (pos 0)) (lt_z u (negsuc 1 -ℤ u)) (lt_z_yes {a = u} {b = pos 0}) (lt_z_no {a = u} {b = pos 0})
    (lt_z_yes {a = u} {b = negsuc 1 -ℤ u}) (lt_z_no {a = u} {b = negsuc 1 -ℤ u})
  where
    two : up (negsuc 1 -ℤ u) + (2 + up u) ≡ dn (negsuc 1 -ℤ u) + dn u
    two = omega (arith, add (negsuc 1) (neg_ℤ u), neg_up u, neg_dn u)

    one : up (negsuc 0 -ℤ u) + (1 + up u) ≡ dn (negsuc 0 -ℤ u) + dn u
    one = omega (arith, add (negsuc 0) (neg_ℤ u), neg_up u, neg_dn u)

    by : (b d : Bool) → (T b → u <ℤ pos 0) → (T (not b) → pos 0 ≤ℤ u) → (T d → u <ℤ (negsuc 1 -ℤ u))
        → (T (not d) → (negsuc 1 -ℤ u) ≤ℤ u)
        → cond b (negsuc 0 -ℤ u) u +ℤ cond b (negsuc 0) (pos 0) ≡ cond d (negsuc 1 -ℤ u) u
    by true true f g h k = same _ _ (omega (arith, one, two, add (negsuc 0 -ℤ u) (negsuc 0)))
    by true false f g h k =
        same _ _ (omega (
          arith,
          one,
          two,
          add (negsuc 0 -ℤ u) (negsuc 0),
          of_lt u (pos 0) (f tt),
          of_le (negsuc 1 -ℤ u) u (k tt),
        ))
    by false true f g h k =
        absurd (omega (arith, two, of_le (pos 0) u (g tt), of_lt u (negsuc 1 -ℤ u) (h tt)))
    by false false f g h k = same _ _ (omega (arith, add u (pos 0)))

-- what the larger of two leaves of their sum is the smaller
pub left_over : (a b : ℤ) → (a +ℤ b) -ℤ larger a b ≡ smaller a b
left_over a b = by (lt_z a b)
  where
    by : (t : Bool) → (a +ℤ b) -ℤ cond t b a ≡ cond t a b
    by true = same _ _ (omega (arith, add a b, add (a +ℤ b) (neg_ℤ b), neg_up b, neg_dn b))
    by false = same _ _ (omega (arith, add a b, add (a +ℤ b) (neg_ℤ a), neg_up a, neg_dn a))
