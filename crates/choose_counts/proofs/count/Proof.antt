-- `choose_counts::count` meets its contract: `Sum` says what the bit pattern of the sum is, and the rest is the
-- difference of two signed numbers. 1178599424 is the bit pattern of 12288, which is 12582912 counts.
-- Assumes nothing.
use mathlib.Core.Path.{◌≡◌, refl, sym, ap, ◌∙◌, subst, subst⁻¹}
use mathlib.Core.Bool.{Bool, true, false}
use Prim.Native.Nat.{ℕ, zero, suc, ◌+◌, ◌-◌, ◌≤◌, ◌<◌}
use native.Mathlib.Omega.{arith}
use borrow.Author.Rules.{rules}
use borrow.Author.Tests.{lt-ltb, le-ltb}
use lib.Dec.{T}
use lib.IntN.{ℤ, pos, negsuc, neg_ℤ, ◌-ℤ◌}
use lib.Ieee.{Float, binary32, of_bits, to_bits}
use lib.Ieee as ieee
use mir.Syntax.{w32}
use mir.Val.{SFits, to_z}
use mir.ValLaws.{to_z_pos, to_z-of_z}
use Rattle.base.specs.Whole.{up, dn, Within}
use Rattle.base.proofs.Whole.{add, neg_up, neg_dn, up_pos, dn_pos, fits_at}
use Rattle.rules_chips.specs.Floats.{steps, negative, usable, nearest, signed, count_of}
use Rattle.rules_chips.proofs.Sum.{cond_yes, moved, Summed, summed}
use Rattle.choose_counts.proofs.count.Statement.{statement}
use Rattle.choose_counts.proofs.count.Tie as tie

-- ---- the difference of the patterns is the count
small : (s : Bool) (k : ℕ) → k ≤ 8192 → 1166016512 + moved s 12582912 k < 2147483648
small false k h = omega arith
small true k h = omega arith

pattern_less : (s : Bool) (k : ℕ) → k ≤ 8192 → pos (1166016512 + moved s 12582912 k) -ℤ pos 1178599424 ≡ signed s k
pattern_less false k h =
    simp (le-ltb (1166016512 + (12582912 + k)) 1178599424 (omega arith)) (ap pos (omega arith))
pattern_less true zero h = refl
pattern_less true (suc k) h =
    simp (lt-ltb (1166016512 + (12582912 - suc k)) 1178599424 (omega arith)) (ap negsuc (omega arith))

-- the difference of any two such numbers is one
sub_fits : (a b : ℕ) → a < 2147483648 → b < 2147483648 → SFits w32 (to_z w32 a -ℤ pos b)
sub_fits a b h k =
    let e : up (pos a -ℤ pos b) + b ≡ dn (pos a -ℤ pos b) + a =
    omega (arith, add (pos a) (neg_ℤ (pos b)), neg_up (pos b), neg_dn (pos b), up_pos a, dn_pos a, up_pos b, dn_pos b) in
    let w : Within 2147483647 (pos a -ℤ pos b) = record { high = omega arith; low = omega arith } in
    rw (to_z_pos w32 a h) (fits_at w32 w (omega arith))

abbrev code : Float → ℕ
code x = to_bits binary32 (ieee.add binary32 x (of_bits binary32 1178599424))

module _ (x : Float) (y : Summed x) where
  fits_bits : code x < 2147483648
  unfolding of_bits
  fits_bits = subst⁻¹ (λ (n : ℕ). n < 2147483648) y.bits (small (negative x) (nearest (steps x)) y.few)

  difference : to_z w32 (code x) -ℤ pos 1178599424 ≡ signed (negative x) (nearest (steps x))
  unfolding of_bits
  difference =
      let s = negative x in
      let k = nearest (steps x) in
      ap (λ (n : ℕ). to_z w32 n -ℤ pos 1178599424) y.bits
      ∙ ap (λ (z : ℤ). z -ℤ pos 1178599424) (to_z_pos w32 (1166016512 + moved s 12582912 k) (small s k y.few))
      ∙ pattern_less s k y.few

have : (c : tie.Start) → Summed c.args.x
have c = summed c.args.x (subst T (sym c.well_formed.0.1) tt) c.requires

float_to_bits_b : tie.Need-float_to_bits-b
unfolding of_bits
float_to_bits_b c = (have c).no_nan

cast_result : tie.Need-overflow_cast-result
cast_result c = record { sfits = fits_bits c.args.x (have c) }

sub_result : tie.Need-overflow_sub-result
sub_result c = search (rules, sub_fits (code c.args.x), fits_bits c.args.x (have c))

returns : tie.Need-returns
unfolding count_of
returns c =
    to_z-of_z w32 (to_z w32 (code c.args.x) -ℤ pos 1178599424) (sub_result c) ∙ difference c.args.x (have c)
    ∙ sym (cond_yes (usable c.args.x) _ (pos 0) c.requires)

pub count_spec : {M : Type 1} → statement M
count_spec = tie.close (tie.spec
    float_to_bits_b cast_result sub_result returns)
