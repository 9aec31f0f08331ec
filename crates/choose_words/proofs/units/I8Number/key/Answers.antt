use Rattle.std.proofs.Common.{◌≡◌, ℕ, ◌+◌, ◌*◌, ◌-◌, ◌≤◌, true, false, ap, ◌∙◌, w8, ℤ, pos, ◌-ℤ◌, to_z, of_z, arith}
use native.Mathlib.Nat.{mul-le-mul_left}
use lib.Dec.{lit<}
use lib.IntN.{nat_abs}
use lib.Signed.{lt_z}
use Rattle.base.specs.Whole.{Within}
use Rattle.base.proofs.Whole.{small, neg_fits, neg_read}
use Rattle.rules_choosing.proofs.Wide.{abs_below, abs_above, abs_le, key_below, key_above}
use Rattle.choose_words.proofs.units.I8Number.key.Goals as goal

module _ {w : ℕ} {s : ℤ} (l : w ≤ 4) (h : Within 11 s) where
  score : to_z w8 (of_z w8 s) ≡ s
  score = small w8 11 (lit< tt) s h

  below : lt_z (to_z w8 (of_z w8 s)) (pos 0) ≡ true → to_z w8 (of_z w8 (pos 0 -ℤ to_z w8 (of_z w8 s))) ≡ pos (nat_abs s)
  below t = neg_read w8 11 (lit< tt) s h ∙ abs_below s (rw score at t)

  above : lt_z (to_z w8 (of_z w8 s)) (pos 0) ≡ false → to_z w8 (of_z w8 s) ≡ pos (nat_abs s)
  above t = score ∙ abs_above s (rw score at t)

  -- what is added up fits an octet
  few : 4 * w * nat_abs s ≤ 176
  few = omega (arith, l, mul-le-mul_left (4 * w) (abs_le h))

pub overflow_sub-result : goal.overflow_sub-result
overflow_sub-result c = neg_fits w8 11 (lit< tt) _ c.requires.1

pub overflow_cast-result : goal.overflow_cast-result
overflow_cast-result c =
    rw (below c.requires.0 c.requires.1 c.if-self-lt0.true) (tt, record { fits = omega (arith, abs_le c.requires.1) })

pub overflow_mul-result-then-self-lt0 : goal.overflow_mul-result-then-self-lt0
overflow_mul-result-then-self-lt0 c =
    let r = c.requires in
    rw (below r.0 r.1 c.if-self-lt0.true) (record { fits = omega (arith, few r.0 r.1) })

pub overflow_add-result : goal.overflow_add-result
overflow_add-result c =
    let r = c.requires in
    rw (below r.0 r.1 c.if-self-lt0.true) (record { fits = omega (arith, few r.0 r.1, r.0) })

pub overflow_mul-result-else-self-lt0-2 : goal.overflow_mul-result-else-self-lt0-2
overflow_mul-result-else-self-lt0-2 c =
    let r = c.requires in
    rw (above r.0 r.1 c.if-self-lt0.false) (record { fits = omega (arith, few r.0 r.1) })

pub overflow_add-result-else-self-lt0 : goal.overflow_add-result-else-self-lt0
overflow_add-result-else-self-lt0 c =
    let r = c.requires in
    rw (above r.0 r.1 c.if-self-lt0.false) (record { fits = omega (arith, few r.0 r.1, r.0) })

pub returns-then-self-lt0 : goal.returns-then-self-lt0
returns-then-self-lt0 c =
    let r = c.requires in
    let w = c.args.w in
    ap (λ (z : ℤ). 4 * w * nat_abs z + (2 * w - 1 - c.args.n)) (below r.0 r.1 c.if-self-lt0.true)
    ∙ key_below w c.args.n c.args.self (rw (score r.0 r.1) at c.if-self-lt0.true) r.2

pub returns-else-self-lt0 : goal.returns-else-self-lt0
returns-else-self-lt0 c =
    let r = c.requires in
    let w = c.args.w in
    ap (λ (z : ℤ). 4 * w * nat_abs z + (4 * w - 1 - c.args.n)) (above r.0 r.1 c.if-self-lt0.false)
    ∙ key_above w c.args.n c.args.self (rw (score r.0 r.1) at c.if-self-lt0.false) r.2
