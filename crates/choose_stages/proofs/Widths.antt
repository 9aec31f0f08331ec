-- Sums, differences and opposites that a lane makes: each fits, and is read back as what it is.
-- Assumes nothing.
use mathlib.Core.Path.{◌≡◌}
use Prim.Native.Nat.{ℕ, ◌^◌, ◌<◌}
use lib.IntN.{ℤ, neg_ℤ, ◌+ℤ◌, ◌-ℤ◌}
use mir.Syntax.{Width}
use mir.Val.{SFits, to_z, of_z, hbits}
use mir.Facts.{to_z-of_z}
use Rattle.base.specs.Whole.{Within}
use Rattle.base.proofs.Whole.{within_neg}
use Rattle.base.proofs.Adding.{Reads, made_fits, made}

module _ {w : Width} {b : ℕ} {y z : ℤ} (few : b < 2 ^ hbits w) (hy : SFits w y) (hz : SFits w z) where
  added : to_z w (of_z w y) +ℤ to_z w (of_z w z) ≡ y +ℤ z
  added = λ i. to_z-of_z hy i +ℤ to_z-of_z hz i

  pub plus_fits : Within b (y +ℤ z) → SFits w (to_z w (of_z w y) +ℤ to_z w (of_z w z))
  plus_fits h = made_fits added h few

  pub plus_is : Within b (y +ℤ z) → to_z w (of_z w (to_z w (of_z w y) +ℤ to_z w (of_z w z))) ≡ y +ℤ z
  plus_is h = (made added h few).is

  taken : to_z w (of_z w y) -ℤ to_z w (of_z w z) ≡ y -ℤ z
  taken = λ i. to_z-of_z hy i -ℤ to_z-of_z hz i

  pub minus_fits : Within b (y -ℤ z) → SFits w (to_z w (of_z w y) -ℤ to_z w (of_z w z))
  minus_fits h = made_fits taken h few

  pub minus_is : Within b (y -ℤ z) → to_z w (of_z w (to_z w (of_z w y) -ℤ to_z w (of_z w z))) ≡ y -ℤ z
  minus_is h = (made taken h few).is

pub opposite_fits : {w : Width} {b : ℕ} {z : ℤ} → b < 2 ^ hbits w → SFits w z → Within b z
    → SFits w (neg_ℤ (to_z w (of_z w z)))
opposite_fits few hz h = made_fits (λ i. neg_ℤ (to_z-of_z hz i)) (within_neg h) few

-- a number of fewer bits, widened
pub widened : {v w : Width} {b : ℕ} {z : ℤ} → b < 2 ^ hbits w → SFits v z → Within b z
    → Reads w b (of_z w (to_z v (of_z v z))) z
widened few hz h = made (to_z-of_z hz) h few
