-- Signed numbers of any width, as a last butterfly and a turn of a butterfly's loop have them: what is made of numbers
-- from -b to b fits, and is read back as what it is in whole numbers.
--     reads_abs, reads_const, reads_larger    a magnitude, a constant, and the larger of two
--     Flight, flight                          the eight sums of a column
-- The code's own laws are members of the trait `Lane` of choose_stages; these hold at widths that have no impl too.
-- Assumes nothing.
use mathlib.Core.Path.{◌≡◌, ap, ◌∙◌}
use mathlib.Core.List.{[], ◌∷◌}
use Prim.Native.Nat.{ℕ, ◌+◌, ◌^◌, ◌<◌}
use native.Mathlib.Omega.{arith}
use lib.IntN.{ℤ, pos, nat_abs, ◌+ℤ◌, ◌-ℤ◌}
use lib.Signed.{lt_z}
use mir.Syntax.{Width}
use mir.Val.{SFits, to_z, of_z, hbits}
use mir.Facts.{to_z_pos}
use Rattle.base.proofs.Whole.{within_more}
use Rattle.base.proofs.Adding.{Reads, made, within_pos, reads_of, reads_fits, reads_add, less_fits, reads_less}
use Rattle.rules_chips.specs.declared.Counts.{Counts}
use Rattle.rules_chips.specs.Bounds.{Bounded}
use Rattle.rules_choosing.specs.Keys.{larger}
use Rattle.rules_choosing.proofs.Wide.{abs_le}
use Rattle.choose_walsh.proofs.Machine.{within_one}
use Rattle.choose_walsh.proofs.Flights.{outs}

-- a magnitude, a constant, and one of two, as the code has them
module _ {w : Width} {c : ℕ} (few : c < 2 ^ hbits w) where
  pub reads_abs : {s : ℕ} {z r : ℤ} → Reads w c s z → r ≡ pos (nat_abs (to_z w s))
      → Reads w c (of_z w r) (pos (nat_abs z))
  reads_abs {s} {z} h e =
      made (e ∙ ap (λ (x : ℤ). pos (nat_abs x)) h.is) (within_more (within_pos (nat_abs z)) (abs_le h.within)) few

  pub reads_const : Reads w c c (pos c)
  reads_const = record { is = to_z_pos w few; within = within_pos c }

  pub reads_larger : {s t : ℕ} {y z r : ℤ} → Reads w c s y → Reads w c t z → r ≡ larger (to_z w s) (to_z w t)
      → Reads w c (of_z w r) (larger y z)
  reads_larger {y = y} {z} h g e =
      made (e ∙ (λ i. larger (h.is i) (g.is i))) (within_one (lt_z y z) g.within h.within) few

-- ---- what is made of a column
module _ (w : Width) (x y : Counts) where
  abbrev rd : ℤ → ℤ
  rd z = to_z w (of_z w z)

  -- each of its eight sums, in its order, fits; and what they are as written
  pub record Flight : Type 0 where
    pub fits0 : SFits w (rd y.i +ℤ rd x.i)
    pub fits1 : SFits w (rd y.q +ℤ rd x.q)
    pub fits2 : SFits w (rd y.i +ℤ rd x.q)
    pub fits3 : SFits w (rd y.q -ℤ rd x.i)
    pub fits4 : SFits w (rd y.i -ℤ rd x.i)
    pub fits5 : SFits w (rd y.q -ℤ rd x.q)
    pub fits6 : SFits w (rd y.i -ℤ rd x.q)
    pub fits7 : SFits w (rd y.q +ℤ rd x.i)
    pub are : rd (rd y.i +ℤ rd x.i) ∷ rd (rd y.q +ℤ rd x.q) ∷ rd (rd y.i +ℤ rd x.q)
        ∷ rd (rd y.q -ℤ rd x.i) ∷ rd (rd y.i -ℤ rd x.i) ∷ rd (rd y.q -ℤ rd x.q)
        ∷ rd (rd y.i -ℤ rd x.q) ∷ rd (rd y.q +ℤ rd x.i) ∷ [] ≡ outs x y

  pub flight : (b : ℕ) → b + b < 2 ^ hbits w → Bounded b x → Bounded b y → Flight
  flight b room hx hy = record {
    fits0 = reads_fits yi xi room;
    fits1 = reads_fits yq xq room;
    fits2 = reads_fits yi xq room;
    fits3 = less_fits yq xi room;
    fits4 = less_fits yi xi room;
    fits5 = less_fits yq xq room;
    fits6 = less_fits yi xq room;
    fits7 = reads_fits yq xi room;
    are = λ i. (reads_add yi xi room).is i ∷ (reads_add yq xq room).is i ∷ (reads_add yi xq room).is i
        ∷ (reads_less yq xi room).is i ∷ (reads_less yi xi room).is i ∷ (reads_less yq xq room).is i
        ∷ (reads_less yi xq room).is i ∷ (reads_add yq xi room).is i ∷ [];
  }
    where
      xi : Reads w b (of_z w x.i) x.i
      xi = reads_of (omega arith) hx.real

      xq : Reads w b (of_z w x.q) x.q
      xq = reads_of (omega arith) hx.imag

      yi : Reads w b (of_z w y.i) y.i
      yi = reads_of (omega arith) hy.real

      yq : Reads w b (of_z w y.q) y.q
      yq = reads_of (omega arith) hy.imag
