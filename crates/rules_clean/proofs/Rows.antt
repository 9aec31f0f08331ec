-- Soft rows that hold any phases as exact pairs, with either zero: the f32 numbers 1, -1 and 0 by their bits are
-- computed. Assumes nothing.
use mathlib.Core.Path.{◌≡◌, refl}
use mathlib.Core.List.{List, [], ◌∷◌, map}
use Prim.Native.Nat.{ℕ, zero, suc, ◌^◌, ◌<◌}
use native.Mathlib.Omega.{arith}
use lib.Dec.{T}
use lib.Ieee.{of_bits}
use Rattle.base.specs.Below.{Below}
use Rattle.base.proofs.Below.{below_head, below_tail}
use Rattle.rules_chips.specs.declared.Chip.TheVariants.{Soft}
use Rattle.rules_chips.specs.Floats.{steps, usable}
use Rattle.rules_chips.specs.Chips.{full_chip, usable_sample, exact_of}
use Rattle.rules_clean.specs.Clean.{sample_of, Exactly, none, more, soft_i, soft_q}

-- a zero by whose bits each phase is usable and exact
pub record Serves (z p : ℕ) : Type 0 where
  pub usable_so : T (usable_sample (sample_of (soft_i z p) (soft_q z p)))
  pub exact : exact_of (Soft (sample_of (soft_i z p) (soft_q z p))) ≡ full_chip (2 ^ 149) p

plus : (p : ℕ) → p < 4 → Serves 0 p
unfolding of_bits steps usable
plus zero h = record { usable_so = tt; exact = refl }
plus (suc zero) h = record { usable_so = tt; exact = refl }
plus (suc (suc zero)) h = record { usable_so = tt; exact = refl }
plus (suc (suc (suc zero))) h = record { usable_so = tt; exact = refl }
plus (suc (suc (suc (suc p)))) h = absurd (omega arith)

minus : (p : ℕ) → p < 4 → Serves 0x8000_0000 p
unfolding of_bits steps usable
minus zero h = record { usable_so = tt; exact = refl }
minus (suc zero) h = record { usable_so = tt; exact = refl }
minus (suc (suc zero)) h = record { usable_so = tt; exact = refl }
minus (suc (suc (suc zero))) h = record { usable_so = tt; exact = refl }
minus (suc (suc (suc (suc p)))) h = absurd (omega arith)

rows : (z : ℕ) → ((p : ℕ) → p < 4 → Serves z p) → (phases : List ℕ) → Below 4 phases
    → Exactly phases (map (soft_i z) phases) (map (soft_q z) phases)
rows z s [] h = none
rows z s (p ∷ phases) h =
    let here = s p (below_head h) in
    more here.usable_so here.exact (rows z s phases (below_tail h))

pub soft_rows : (phases : List ℕ) → Below 4 phases
    → Exactly phases (map (soft_i 0) phases) (map (soft_q 0) phases)
    × Exactly phases (map (soft_i 0x8000_0000) phases) (map (soft_q 0x8000_0000) phases)
soft_rows phases h = (rows 0 plus phases h, rows 0x8000_0000 minus phases h)
