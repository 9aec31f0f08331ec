-- Chips that are all of one recorder: what a chip of each counts on an axis.
-- Assumes nothing.
use mathlib.Core.Bool.{Bool, true, false}
use mathlib.Core.Path.{◌≡◌, refl, ap, ◌∙◌, subst}
use Prim.Native.Nat.{ℕ, zero, suc, ◌+◌, ◌≤◌}
use native.Mathlib.Omega.{arith}
use lib.Dec.{T, lit<, lit≤, eqb}
use lib.IntN.{ℤ, pos, ◌-ℤ◌}
use mir.Syntax.{w8}
use mir.Val.{SFits, to_z, of_z, bool_byte}
use borrow.Author.Tests.{ne_eqb}
use Rattle.base.proofs.Tests.{both_left, both_right}
use Rattle.choose_axes.specs.declared.Axis.{Axis}
use Rattle.choose_axes.specs.declared.Axis.TheVariants.{I, Q}
use Rattle.rules_chips.specs.declared.Sample.{Sample}
use Rattle.rules_chips.specs.declared.Chip.{Chip}
use Rattle.rules_chips.specs.declared.Chip.TheVariants.{Lost, Hard, Soft}
use Rattle.rules_chips.specs.Floats.{usable, count_of}
use Rattle.rules_chips.specs.Chips.{pair, nothing, full_chip, usable_sample, counts_of}
use Rattle.choose_axes.specs.Axes.{along, phase_on, soft_usable, is_hard, octet_of}
use Rattle.rules_chips.proofs.Sum.{cond_yes}

-- ---- a soft chip that is usable
module _ {c : Chip} {s : Sample} (e : c ≡ Soft s) (t : T (soft_usable c)) where
  usable_s : T (usable_sample s)
  usable_s = subst (λ (d : Chip). T (soft_usable d)) e t

  pub usable_i : T (usable s.i)
  usable_i = both_left (usable s.i) (usable s.q) usable_s

  pub usable_q : T (usable s.q)
  usable_q = both_right (usable s.i) (usable s.q) usable_s

  pub soft_counts : counts_of c ≡ pair (count_of s.i) (count_of s.q)
  soft_counts = ap counts_of e ∙ cond_yes (usable_sample s) (pair (count_of s.i) (count_of s.q)) nothing usable_s

-- ---- a hard chip
pub hard_counts : (c : Chip) → T (is_hard c) → full_chip 1024 (octet_of c) ≡ counts_of c
hard_counts Lost t = refl
hard_counts (Hard p) t = refl
hard_counts (Soft s) t = absurd t

-- ---- its unit on an axis as the code makes it: whether it is the phase of 1 less whether it is that of -1
pub unit_fits : (a b : Bool) → SFits w8 (to_z w8 (bool_byte a) -ℤ to_z w8 (bool_byte b))
unit_fits true true = record { sfits = lit< tt }
unit_fits true false = record { sfits = lit< tt }
unit_fits false true = record { sfits = lit< tt }
unit_fits false false = record { sfits = lit< tt }

abbrev pub made : ℕ → ℕ → ℤ
made p plus = to_z w8 (of_z w8 (to_z w8 (bool_byte (eqb p plus)) -ℤ to_z w8 (bool_byte (eqb p (plus + 2)))))

past : (p plus : ℕ) → 4 ≤ p → plus ≤ 1 → made p plus ≡ pos 0
past p plus h l = rw (ne_eqb p plus (λ e. omega arith), ne_eqb p (plus + 2) (λ e. omega arith)) refl

pub unit_made : (x : Axis) (p : ℕ) → made p (phase_on x) ≡ along x (full_chip 1 p)
unit_made I zero = refl
unit_made I (suc zero) = refl
unit_made I (suc (suc zero)) = refl
unit_made I (suc (suc (suc zero))) = refl
unit_made I (suc (suc (suc (suc p)))) = past (suc (suc (suc (suc p)))) 0 (omega arith) (lit≤ tt)
unit_made Q zero = refl
unit_made Q (suc zero) = refl
unit_made Q (suc (suc zero)) = refl
unit_made Q (suc (suc (suc zero))) = refl
unit_made Q (suc (suc (suc (suc p)))) = past (suc (suc (suc (suc p)))) 1 (omega arith) (lit≤ tt)
