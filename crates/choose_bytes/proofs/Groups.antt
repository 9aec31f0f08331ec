-- Sixteen symbols abreast are decided as the recording's symbols there: by the law of turned rows and that of bytes as
-- they are, for both lengths of a symbol, at any rate of eight chips.
-- Assumes nothing.
use mathlib.Core.Path.{◌≡◌, ap, ◌∙◌}
use mathlib.Core.List.{List}
use Prim.Native.Nat.{ℕ, ◌+◌, ◌*◌, ◌<◌}
use native.Mathlib.Omega.{arith}
use lib.Dec.{lit≤}
use lib.ListN.{length}
use lib.IntN.{ℤ}
use Rattle.choose_sums.specs.Sums.{by_signs, as_chip, rows}
use Rattle.choose_abreast.specs.Abreast.{Begins, Turned}
use Rattle.choose_bytes.specs.Rows.{every_second, barker_at, five_at, barker_bytes, five_bytes}
use Rattle.choose_bytes.proofs.Abreast.{stood_barker, stood_five, first_axis, second_axis}

module _ (bytes before after : List ℤ) (at l count s : ℕ) (turned : Turned before after) (few : s < 16)
    (there : s < count) where
  pub barker_group : length before ≡ 352 → Begins bytes (2 * (at + 11 * l)) (22 * count) before
      → barker_at after s ≡ barker_bytes bytes (at + 11 * (l + s))
  barker_group long begins =
      let from = 2 * (at + 11 * l) in
      let i = first_axis 22 11 bytes before after from count (lit≤ tt) long stood_barker begins turned s few there in
      let q = second_axis 22 11 bytes before after from count (lit≤ tt) long stood_barker begins turned s few there in
      let e : from + 22 * s ≡ 2 * (at + 11 * (l + s)) = omega arith in
      (λ k. as_chip (by_signs (i k)) (by_signs (q k)))
      ∙ ap (λ (f : ℕ). as_chip (by_signs (every_second bytes f 11)) (by_signs (every_second bytes (f + 1) 11))) e

  pub five_group : length before ≡ 256 → Begins bytes (2 * (at + 8 * l)) (16 * count) before
      → five_at after s ≡ five_bytes bytes (at + 8 * (l + s))
  five_group long begins =
      let from = 2 * (at + 8 * l) in
      let i = first_axis 16 8 bytes before after from count (lit≤ tt) long stood_five begins turned s few there in
      let q = second_axis 16 8 bytes before after from count (lit≤ tt) long stood_five begins turned s few there in
      let e : from + 16 * s ≡ 2 * (at + 8 * (l + s)) = omega arith in
      (λ k. rows (i k) (q k)) ∙ ap (λ (f : ℕ). rows (every_second bytes f 8) (every_second bytes (f + 1) 8)) e
