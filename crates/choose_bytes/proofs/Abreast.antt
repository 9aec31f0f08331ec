-- Sixteen symbols abreast hold each symbol's bytes of one axis in every second row. Where a byte stood before it was
-- turned is computed at each place, for both lengths of a symbol; the rest is one law.
-- Assumes nothing.
use mathlib.Core.Path.{◌≡◌, ap, ◌∙◌}
use mathlib.Core.Bool.{Bool}
use mathlib.Core.List.{List}
use Prim.Native.Nat.{ℕ, ◌+◌, ◌*◌, ◌/◌, ◌%◌, ◌≤◌, ◌<◌}
use native.Mathlib.Nat.{mul-add, mul-one, mul-le-mul_left}
use native.Mathlib.Omega.{arith}
use lib.Dec.{eqb, eqb→eq}
use lib.ListN.{length, get_or}
use lib.IntN.{ℤ, pos}
use Rattle.base.proofs.Tables.{tabulate_ext}
use Rattle.base.proofs.Tests.{all_at}
use Rattle.choose_abreast.specs.Abreast.{Begins, turned_from, Turned}
use Rattle.choose_sums.specs.Sums.{every_row}
use Rattle.choose_bytes.specs.Rows.{every_second}

-- ---- of sixteen symbols of w bytes, byte p of symbol s stands at 16 p + s
abbrev stood_at : ℕ → ℕ → Bool
stood_at w j = eqb (turned_from (16 * w) j) (w * (j % 16) + j / 16)

pub stood_barker : (j : ℕ) → j < 352 → turned_from 352 j ≡ 22 * (j % 16) + j / 16
stood_barker j h = eqb→eq (turned_from 352 j) (22 * (j % 16) + j / 16) (all_at (stood_at 22) 352 tt j h)

pub stood_five : (j : ℕ) → j < 256 → turned_from 256 j ≡ 16 * (j % 16) + j / 16
stood_five j h = eqb→eq (turned_from 256 j) (16 * (j % 16) + j / 16) (all_at (stood_at 16) 256 tt j h)

-- ---- so its bytes of one axis are every second of the recording's
module _ (w n : ℕ) (bytes before after : List ℤ) (from count : ℕ) (wide : 2 * n ≤ w) (long : length before ≡ 16 * w)
    (stood : (j : ℕ) → j < 16 * w → turned_from (16 * w) j ≡ w * (j % 16) + j / 16)
    (begins : Begins bytes from (w * count) before) (turned : Turned before after)
    (s : ℕ) (few : s < 16) (there : s < count) where
  -- byte p of symbol s
  byte_at : (p : ℕ) → p < w → get_or after (16 * p + s) (pos 0) ≡ get_or bytes (from + (w * s + p)) (pos 0)
  byte_at p h =
      turned.each (16 * p + s) (omega (arith, long))
      ∙ ap (λ (k : ℕ). get_or before (turned_from k (16 * p + s)) (pos 0)) long
      ∙ ap (λ (k : ℕ). get_or before k (pos 0)) (stood (16 * p + s) (omega arith) ∙ place)
      ∙ begins.each (w * s + p) (omega (arith, mul-le-mul_left w there, mul-add w s 1, mul-one w))
    where
      place : w * ((16 * p + s) % 16) + (16 * p + s) / 16 ≡ w * s + p
      place =
          let e : (16 * p + s) % 16 ≡ s = omega arith in
          let d : (16 * p + s) / 16 ≡ p = omega arith in
          λ i. w * e i + d i

  pub first_axis : every_row after s n ≡ every_second bytes (from + w * s) n
  first_axis =
      tabulate_ext _ _ n
      (λ k h. ap (λ (j : ℕ). get_or after j (pos 0)) (omega arith) ∙ byte_at (2 * k) (omega arith)
      ∙ ap (λ (j : ℕ). get_or bytes j (pos 0)) (omega arith))

  pub second_axis : every_row after (16 + s) n ≡ every_second bytes (from + w * s + 1) n
  second_axis =
      tabulate_ext _ _ n
      (λ k h. ap (λ (j : ℕ). get_or after j (pos 0)) (omega arith) ∙ byte_at (2 * k + 1) (omega arith)
      ∙ ap (λ (j : ℕ). get_or bytes j (pos 0)) (omega arith))
