-- The counts of every chip are from -8192 to 8192; those of a usable soft one are at most half a count from its exact
-- value, and those of a hard or a lost one are the value itself. Hard chips are computed at each phase; soft ones go by
-- the laws of their two fields. Assumes nothing.
use mathlib.Core.Bool.{Bool, true, false, cond}
use mathlib.Core.List.{List, map}
use Prim.Native.Nat.{ℕ, zero, suc, ◌^◌, ◌≤◌}
use lib.Dec.{T, lit≤}
use lib.ListN.{get_or, get_or-map}
use lib.IntN.{ℤ, pos, negsuc, nat_abs}
use Rattle.base.proofs.Tests.{both_left, both_right}
use Rattle.base.proofs.Whole.{within_zero}
use Rattle.rules_chips.specs.declared.Sample.{Sample}
use Rattle.rules_chips.specs.declared.Chip.{Chip}
use Rattle.rules_chips.specs.declared.Chip.TheVariants.{Lost, Hard, Soft}
use Rattle.rules_chips.specs.Floats.{usable, count_of}
use Rattle.rules_chips.specs.Chips.{pair, nothing, usable_sample, counts_of, exact_of}
use Rattle.rules_chips.specs.Bounds.{Bounded, Apart}
use Rattle.rules_chips.proofs.Sum.{cond_yes}
use Rattle.rules_chips.proofs.Meaning.{abs_within, count_within, count_near}

-- ---- the range
bounded : (x y : ℤ) → nat_abs x ≤ 8192 → nat_abs y ≤ 8192 → Bounded 8192 (pair x y)
bounded x y h k = record { real = abs_within 8192 x h; imag = abs_within 8192 y k }

pub counts_within : (c : Chip) → Bounded 8192 (counts_of c)
counts_within Lost = bounded (pos 0) (pos 0) (lit≤ tt) (lit≤ tt)
counts_within (Hard zero) = bounded (pos 1024) (pos 0) (lit≤ tt) (lit≤ tt)
counts_within (Hard (suc zero)) = bounded (pos 0) (pos 1024) (lit≤ tt) (lit≤ tt)
counts_within (Hard (suc (suc zero))) = bounded (negsuc 1023) (pos 0) (lit≤ tt) (lit≤ tt)
counts_within (Hard (suc (suc (suc zero)))) = bounded (pos 0) (negsuc 1023) (lit≤ tt) (lit≤ tt)
counts_within (Hard (suc (suc (suc (suc p))))) = bounded (pos 0) (pos 0) (lit≤ tt) (lit≤ tt)
counts_within (Soft s) = go (usable_sample s)
  where
    go : (b : Bool) → Bounded 8192 (cond b (pair (count_of s.i) (count_of s.q)) nothing)
    go true = record { real = count_within s.i; imag = count_within s.q }
    go false = bounded (pos 0) (pos 0) (lit≤ tt) (lit≤ tt)

-- so are those of a whole row, and of what stands for one past its end
pub row_within : (cs : List Chip) (k : ℕ) → Bounded 8192 (get_or (map counts_of cs) k nothing)
row_within cs k = rw (get_or-map counts_of cs k Lost) (counts_within (get_or cs k Lost))

-- ---- the error
pub hard_exact : (p : ℕ) → Apart 0 (counts_of (Hard p)) (exact_of (Hard p))
hard_exact zero = record { real = within_zero 0; imag = within_zero 0 }
hard_exact (suc zero) = record { real = within_zero 0; imag = within_zero 0 }
hard_exact (suc (suc zero)) = record { real = within_zero 0; imag = within_zero 0 }
hard_exact (suc (suc (suc zero))) = record { real = within_zero 0; imag = within_zero 0 }
hard_exact (suc (suc (suc (suc p)))) = record { real = within_zero 0; imag = within_zero 0 }

pub lost_exact : Apart 0 (counts_of Lost) (exact_of Lost)
lost_exact = record { real = within_zero 0; imag = within_zero 0 }

pub soft_near : (s : Sample) → T (usable_sample s) → Apart (2 ^ 138) (counts_of (Soft s)) (exact_of (Soft s))
soft_near s u =
    rw (cond_yes (usable_sample s) (pair (count_of s.i) (count_of s.q)) nothing u)
    (record {
      real = count_near s.i (both_left (usable s.i) (usable s.q) u);
      imag = count_near s.q (both_right (usable s.i) (usable s.q) u);
    })
