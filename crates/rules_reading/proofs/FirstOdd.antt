-- The first odd growth of a row.
--     or_low                 what is gathered of growths is odd where one of them is
--     row_none, row_first    none of the first m is odd, or the first that is
-- Assumes nothing.
use mathlib.Core.Path.{◌≡◌, refl, ap, ◌∙◌}
use mathlib.Core.List.{List, [], ◌∷◌}
use Rattle.std.specs.Prelude.{None, Some}
use Prim.Native.Nat.{ℕ, zero, suc, ◌+◌, ◌*◌, ◌%◌, ◌≤◌, ◌<◌, max}
use native.Mathlib.Nat.{le_of_suc-le-suc, not-suc-le-zero}
use native.Mathlib.Omega.{arith}
use lib.ListN.{length, get_or, take}
use lib.Seq.{get_or-take, length-take-le}
use lib.Bits.{bit_or, or_step}
use borrow.Author.Tests.{eq-eqb, ne_eqb}
use Rattle.rules_reading.specs.Reading.{first_odd}

pub or_low : (a b : ℕ) → (a % 2 ≤ bit_or a b % 2) × (b % 2 ≤ bit_or a b % 2)
or_low a b = by (bit_or a b) _ (or_step a b)
  where
    by : (z h : ℕ) → z ≡ h * 2 + max (a % 2) (b % 2) → (a % 2 ≤ z % 2) × (b % 2 ≤ z % 2)
    by z h e = (omega arith, omega arith)

odd_none : (at : ℕ) (xs : List ℕ) → ((j : ℕ) → j < length xs → get_or xs j 0 % 2 ≡ 0) → first_odd at xs ≡ None
unfolding first_odd
odd_none at [] h = refl
odd_none at (x ∷ xs) h =
    rw (ne_eqb (x % 2) 1 (λ e. omega (arith, h 0 (omega arith))))
    (odd_none (at + 11) xs (λ j l. h (suc j) (omega arith)))

odd_first : (at : ℕ) (xs : List ℕ) (l : ℕ) → l < length xs → ((j : ℕ) → j < l → get_or xs j 0 % 2 ≡ 0)
    → get_or xs l 0 % 2 ≡ 1 → first_odd at xs ≡ Some (at + 11 * l)
unfolding first_odd
odd_first at [] l h n e = absurd (not-suc-le-zero h)
odd_first at (x ∷ xs) zero h n e = rw (eq-eqb (x % 2) 1 e) (ap Some (omega arith))
odd_first at (x ∷ xs) (suc l) h n e =
    rw (ne_eqb (x % 2) 1 (λ q. omega (arith, n 0 (omega arith))))
    (odd_first (at + 11) xs l (le_of_suc-le-suc h) (λ j k. n (suc j) (omega arith)) e ∙ ap Some (omega arith))

module _ (at : ℕ) (g : List ℕ) (m : ℕ) (h : m ≤ length g) where
  pub row_none : ((j : ℕ) → j < m → get_or g j 0 % 2 ≡ 0) → first_odd at (take m g) ≡ None
  row_none n =
      odd_none at (take m g)
      (λ j l. let k : j < m = omega (arith, length-take-le m g h) in
      ap (λ (x : ℕ). x % 2) (get_or-take m g j 0 k) ∙ n j k)

  pub row_first : (l : ℕ) → l < m → ((j : ℕ) → j < l → get_or g j 0 % 2 ≡ 0) → get_or g l 0 % 2 ≡ 1
      → first_odd at (take m g) ≡ Some (at + 11 * l)
  row_first l b n e =
      odd_first at (take m g) l (omega (arith, length-take-le m g h))
      (λ j k. ap (λ (x : ℕ). x % 2) (get_or-take m g j 0 (omega arith)) ∙ n j k)
      (ap (λ (x : ℕ). x % 2) (get_or-take m g l 0 b) ∙ e)
