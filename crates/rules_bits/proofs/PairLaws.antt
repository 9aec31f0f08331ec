-- Laws of the pairs of an octet's bits.
--     pairs_masked              two masks exchange the bits of every pair: computed for each octet
--     pair_bits, pair_phases    a pair's two bits, and the number they are
-- Assumes nothing.
use mathlib.Core.Path.{◌≡◌}
use Prim.Native.Nat.{ℕ, ◌+◌, ◌*◌, ◌/◌, ◌%◌, ◌<◌}
use native.Mathlib.Omega.{arith}
use lib.Bits.{bit_and}
use lib.Dec.{eqb, eqb→eq, T}
use Rattle.base.proofs.Tests.{all, all_at}
use Rattle.rules_bits.specs.Growths.{direct}
use Rattle.rules_bits.specs.Code.{pairs_of}

abbrev masked : ℕ → ℕ
masked o = bit_and o 0x55 * 2 + bit_and o 0xAA / 2

tested : T (all (λ o. eqb (masked o) (pairs_of o)) 256)
unfolding pairs_of
tested = tt

pub pairs_masked : (o : ℕ) → o < 256 → masked o ≡ pairs_of o
pairs_masked o h = eqb→eq (masked o) (pairs_of o) (all_at (λ k. eqb (masked k) (pairs_of k)) 256 tested o h)

-- eight bits in pairs, taken apart
module _ (b0 b1 b2 b3 b4 b5 b6 b7 : ℕ) (h0 : b0 < 2) (h1 : b1 < 2) (h2 : b2 < 2) (h3 : b3 < 2) (h4 : b4 < 2)
    (h5 : b5 < 2) (h6 : b6 < 2) (h7 : b7 < 2) where
  abbrev four : ℕ
  four = direct b0 b1 + 4 * direct b2 b3 + 16 * direct b4 b5 + 64 * direct b6 b7

  apart : (four / 4 ≡ direct b2 b3 + 4 * direct b4 b5 + 16 * direct b6 b7)
      × (four / 16 ≡ direct b4 b5 + 4 * direct b6 b7) × (four / 64 ≡ direct b6 b7)
  apart = (omega arith, omega arith, omega arith)

  each : (four / 2 % 2 ≡ b0) × (four % 2 ≡ b1) × (four / 4 / 2 % 2 ≡ b2) × (four / 4 % 2 ≡ b3)
      × (four / 16 / 2 % 2 ≡ b4) × (four / 16 % 2 ≡ b5) × (four / 64 / 2 % 2 ≡ b6) × (four / 64 % 2 ≡ b7)
  each = (
    omega arith,
    omega arith,
    rw apart.0 (omega arith),
    rw apart.0 (omega arith),
    rw apart.1 (omega arith),
    rw apart.1 (omega arith),
    rw apart.2 (omega arith),
    rw apart.2 (omega arith),
  )

  whole : (four / 4 % 4 ≡ direct b2 b3) × (four / 16 % 4 ≡ direct b4 b5) × (four / 64 % 4 ≡ direct b6 b7)
  whole = (rw apart.0 (omega arith), rw apart.1 (omega arith), rw apart.2 (omega arith))

bit : (x : ℕ) → x % 2 < 2
bit x = omega arith

-- the pairs of an octet have its bits
pub pair_bits : (o s : ℕ) → s ≡ pairs_of o
    → (s / 2 % 2 ≡ o % 2) × (s % 2 ≡ o / 2 % 2) × (s / 4 / 2 % 2 ≡ o / 2 / 2 % 2) × (s / 4 % 2 ≡ o / 2 / 2 / 2 % 2)
    × (s / 16 / 2 % 2 ≡ o / 2 / 2 / 2 / 2 % 2) × (s / 16 % 2 ≡ o / 2 / 2 / 2 / 2 / 2 % 2)
    × (s / 64 / 2 % 2 ≡ o / 2 / 2 / 2 / 2 / 2 / 2 % 2) × (s / 64 % 2 ≡ o / 2 / 2 / 2 / 2 / 2 / 2 / 2 % 2)
unfolding pairs_of
pair_bits o s e =
    rw e (each _ _ _ _ _ _ _ _ (bit _) (bit _) (bit _) (bit _) (bit _) (bit _) (bit _) (bit _))

-- and what they stand for directly
pub pair_phases : (o s : ℕ) → s ≡ pairs_of o
    → (s / 4 % 4 ≡ direct (o / 2 / 2 % 2) (o / 2 / 2 / 2 % 2))
    × (s / 16 % 4 ≡ direct (o / 2 / 2 / 2 / 2 % 2) (o / 2 / 2 / 2 / 2 / 2 % 2))
    × (s / 64 % 4 ≡ direct (o / 2 / 2 / 2 / 2 / 2 / 2 % 2) (o / 2 / 2 / 2 / 2 / 2 / 2 / 2 % 2))
unfolding pairs_of
pair_phases o s e =
    rw e (whole _ _ _ _ _ _ _ _ (bit _) (bit _) (bit _) (bit _) (bit _) (bit _) (bit _) (bit _))
