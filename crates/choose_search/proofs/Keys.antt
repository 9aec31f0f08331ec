-- What a group's keys are made of is within a lane's limit, chips being from -most to most.
-- Assumes nothing.
use Rattle.std.proofs.Common.{◌≡◌, ℕ, ℤ, ◌+◌, ◌*◌, ◌≤◌, Bool, true, false, cond, pos, nat_abs, ◌-ℤ◌, refl, arith}
use lib.Signed.{lt_z}
use Rattle.base.specs.Whole.{Within}
use Rattle.base.proofs.Whole.{within_add, within_neg, within_more}
use Rattle.base.proofs.Adding.{within_pos}
use Rattle.rules_choosing.proofs.Wide.{abs_le}
use Rattle.rules_chips.specs.declared.Counts.{Counts}
use Rattle.rules_chips.specs.Bounds.{Bounded}
use Rattle.choose_walsh.specs.Turns.{plus, sided, credit, four_top, four_next}
use Rattle.choose_walsh.proofs.Machine.{within_one, credit_within}

pub sided_within : {b : ℕ} (y : ℤ) {a : ℤ} → Within b a → Within b (sided y a)
unfolding sided
sided_within y h = within_one (lt_z y (pos 0)) (within_neg h) h

-- one of two, told by a function of it
pub of_one : {A B : Type 0} (f : A → B) (t : Bool) (x y : A) → f (cond t x y) ≡ cond t (f x) (f y)
of_one f true x y = refl
of_one f false x y = refl

module _ (most : ℕ) where
  abbrev m : ℕ
  m = 16 * most + 4

  pub two_summed : {y x : Counts} → Bounded (2 * m) y → Bounded (2 * m) x → Bounded (4 * m) (plus y x)
  two_summed h k = record {
    real = within_more (within_add h.real k.real) (omega arith);
    imag = within_more (within_add h.imag k.imag) (omega arith);
  }

  -- what is added to the magnitude of y
  near : (y : ℤ) {a : ℤ} → Within (4 * m) a → Within (4 * m + 3) (credit (sided y a))
  near y h = within_more (credit_within (sided y _) (sided_within y h)) (omega arith)

  far : (y : ℤ) {a : ℤ} → Within (4 * m) a → Within (4 * m + 3) (credit (sided y a) -ℤ pos 1)
  far y h = within_more (within_add (credit_within (sided y _) (sided_within y h)) (within_neg (within_pos 1))) (omega arith)

  -- a key of four words
  top : {y a b : ℤ} → Within (4 * m) y → Within (4 * m) a → Within (4 * m) b → Within (8 * m + 3) (four_top y a b)
  unfolding four_top
  top {y} {a} {b} hy ha hb =
      within_more
      (within_add (within_more (within_pos (nat_abs y)) (abs_le hy))
      (within_one (lt_z (credit (sided y a)) (credit (sided y b) -ℤ pos 1)) (far y hb) (near y ha))) (omega arith)

  next : {y a b : ℤ} → Within (4 * m) y → Within (4 * m) a → Within (4 * m) b → Within (8 * m + 3) (four_next y a b)
  unfolding four_next
  next {y} {a} {b} hy ha hb =
      within_more
      (within_add (within_more (within_pos (nat_abs y)) (abs_le hy))
      (within_one (lt_z (credit (sided y a)) (credit (sided y b) -ℤ pos 1)) (near y ha) (far y hb))) (omega arith)

  module _ {limit : ℕ} (room : 8 * m + 7 ≤ limit) where
    pub in_limit : {z : ℤ} → Within (4 * m) z → Within limit z
    in_limit h = within_more h (omega (arith, room))

    pub two_in_limit : {z : ℤ} → Within (2 * m) z → Within limit z
    two_in_limit h = within_more h (omega (arith, room))

    pub four_in_limit : {x : Counts} → Bounded (4 * m) x → Bounded limit x
    four_in_limit h = record { real = in_limit h.real; imag = in_limit h.imag }

    pub near_limit : (y : ℤ) {a : ℤ} → Within (4 * m) a → Within limit (credit (sided y a))
    near_limit y h = within_more (near y h) (omega (arith, room))

    pub far_limit : (y : ℤ) {a : ℤ} → Within (4 * m) a → Within limit (credit (sided y a) -ℤ pos 1)
    far_limit y h = within_more (far y h) (omega (arith, room))

    pub top_limit : {y a b : ℤ} → Within (4 * m) y → Within (4 * m) a → Within (4 * m) b
        → Within limit (four_top y a b)
    top_limit hy ha hb = within_more (top hy ha hb) (omega (arith, room))

    pub next_limit : {y a b : ℤ} → Within (4 * m) y → Within (4 * m) a → Within (4 * m) b
        → Within limit (four_next y a b)
    next_limit hy ha hb = within_more (next hy ha hb) (omega (arith, room))

    pub top_less : {y a b : ℤ} → Within (4 * m) y → Within (4 * m) a → Within (4 * m) b
        → Within limit (four_top y a b -ℤ pos 4)
    top_less hy ha hb = within_more (within_add (top hy ha hb) (within_neg (within_pos 4))) (omega (arith, room))

    pub next_less : {y a b : ℤ} → Within (4 * m) y → Within (4 * m) a → Within (4 * m) b
        → Within limit (four_next y a b -ℤ pos 4)
    next_less hy ha hb = within_more (within_add (next hy ha hb) (within_neg (within_pos 4))) (omega (arith, room))
