-- What enters the stages and what they leave, from what their calls do, and how large the numbers grow.
--     product_fits, raised_fits, raised_is      one number times a factor, and more
--     scaled_four                               a loop over the columns of four chips: one more
--     entered                                   all eight chips have entered
--     four_more_lem, four_both                  numbers that are seen to be small on the way
--     entered_rows, paired_rows                 numbers from -b to b grow to 16 b + 4, and then to 2 b
-- Assumes nothing.
use mathlib.Core.Path.{◌≡◌, refl, sym, ap, ◌∙◌, subst}
use mathlib.Core.List.{List, [], ◌∷◌}
use Prim.Native.Nat.{ℕ, zero, suc, ◌+◌, ◌-◌, ◌*◌, ◌^◌, ◌/◌, ◌%◌, ◌≤◌, ◌<◌}
use native.Mathlib.Decide.{dec_lt}
use native.Mathlib.Omega.{arith}
use lib.Dec.{lit<}
use lib.ListN.{length, get_or, set, get_or-eq_default}
use borrow.Author.Count.{below_more}
use lib.IntN.{ℤ, pos, negsuc, ◌+ℤ◌, ◌*ℤ◌}
use mir.Syntax.{Width}
use mir.Val.{SFits, to_z, of_z, hbits}
use Rattle.base.specs.Tables.{tabulate}
use Rattle.base.specs.Whole.{Within}
use Rattle.base.proofs.Tables.{length_tabulate, get_or_tabulate}
use Rattle.base.proofs.Whole.{within_zero, within_neg, within_add}
use Rattle.rules_chips.specs.declared.Counts.{Counts}
use Rattle.rules_chips.specs.Bounds.{Bounded}
use Rattle.rules_choosing.specs.Scores.{RowWithin}
use Rattle.base.proofs.Adding.{Reads, made_fits, made, reads_fits, reads_add, within_pos, within_mul}
use Rattle.rules_choosing.proofs.Clean.{phase}
use Rattle.choose_walsh.specs.Turns.{fly}
use Rattle.choose_walsh.specs.Rows.{row_at, RowBounded, RowsBounded, factors, quarters, entering, FourWithin, FourScaled, Entered, Joined, Paired}
use Rattle.base.proofs.Puts.{puts, length_puts, puts_other, puts_at}
use Rattle.choose_walsh.proofs.Turns.{turn, fly_bounded, eight_cases}

-- ---- chips that enter
-- a number of any width times a factor, and more
module _ {w : Width} {b r s t : ℕ} {v times more : ℤ} (room : 16 * b + 4 < 2 ^ hbits w) (ht : Reads w 16 r times)
    (h : Reads w b s v) (hm : Reads w 4 t more) where
  abbrev product : ℤ
  product = to_z w r *ℤ to_z w s

  multiplied : product ≡ times *ℤ v
  multiplied = λ i. ht.is i *ℤ h.is i

  pub product_fits : SFits w product
  product_fits = made_fits multiplied (within_mul ht.within h.within) (omega arith)

  number : Reads w (16 * b) (of_z w product) (times *ℤ v)
  number = made multiplied (within_mul ht.within h.within) (omega arith)

  pub raised_fits : SFits w (to_z w (of_z w product) +ℤ to_z w t)
  raised_fits = reads_fits number hm room

  pub raised_is : to_z w (of_z w (to_z w (of_z w product) +ℤ to_z w t)) ≡ (times *ℤ v) +ℤ more
  raised_is = (reads_add number hm room).is

-- ---- four chips scaled, column after column, and all eight
-- what is written of column l
abbrev four : List ℤ → ℕ → List ℤ → List ℤ → ℕ → ℕ → ℤ
four row x times more l k =
    (get_or times k (pos 0) *ℤ get_or row (x + l + 32 * k) (pos 0)) +ℤ get_or more k (pos 0)

scaled_more : (row : List ℤ) (x : ℕ) (times more z₀ : List ℤ) (l : ℕ) (z vs : List ℤ)
    → FourScaled row x times more z₀ l z → l < 32 → x + 128 ≤ length z₀ → vs ≡ tabulate (four row x times more l) 4
    → FourScaled row x times more z₀ (l + 1) (puts z (λ k. x + l + 32 * k) 0 vs)
scaled_more row x times more z₀ l z vs s few room e = record {
  long = length_puts to vs z 0 ∙ s.long;
  each = λ k j hk hj. by k j hk hj (dec_lt j l);
  kept = λ j h. puts_other to vs z 0 j (λ i hi q. omega (arith, length_four)) ∙ s.kept j h;
}
  where
    to : ℕ → ℕ
    to k = x + l + 32 * k

    one : (i k : ℕ) → x + l + 32 * i ≡ x + l + 32 * k → i ≡ k
    one i k q = omega arith

    length_four : length vs ≡ 4
    length_four = ap length e ∙ length_tabulate (four row x times more l) 4

    by : (k j : ℕ) → k < 4 → j < l + 1 → Dec (j < l)
        → get_or (puts z (λ k. x + l + 32 * k) 0 vs) (x + j + 32 * k) (pos 0) ≡ four row x times more j k
    by k j hk hj (yes p) =
        puts_other to vs z 0 (x + j + 32 * k) (λ i hi q. off i (omega (arith, length_four)) q) ∙ s.each k j hk p
      where
        off : (i : ℕ) → i < 4 → x + j + 32 * k ≡ x + l + 32 * (0 + i) → ⊥
        off i hi q = omega arith
    by k j hk hj (no p) =
        let q : l ≡ j = omega arith in
        subst (λ (j : ℕ). get_or (puts z (λ k. x + l + 32 * k) 0 vs) (x + j + 32 * k) (pos 0)
        ≡ four row x times more j k) q
        (ap (λ (n : ℕ). get_or (puts z (λ k. x + l + 32 * k) 0 vs) n (pos 0)) from_none
        ∙ puts_at to one vs z 0 k (omega (arith, length_four)) (λ i b. omega (arith, length_four, s.long))
        ∙ ap (λ (vs : List ℤ). get_or vs k (pos 0)) e ∙ get_or_tabulate (four row x times more l) 4 k (pos 0) hk)
      where
        from_none : x + l + 32 * k ≡ x + l + 32 * (0 + k)
        from_none = omega arith

-- the turn with the four as the code writes them
pub scaled_four : {row : List ℤ} {x : ℕ} {t0 t1 t2 t3 m0 m1 m2 m3 : ℤ} {z₀ : List ℤ} {l : ℕ} {z : List ℤ}
    {v0 v1 v2 v3 : ℤ}
    → FourScaled row x (t0 ∷ t1 ∷ t2 ∷ t3 ∷ []) (m0 ∷ m1 ∷ m2 ∷ m3 ∷ []) z₀ l z → l < 32 → x + 128 ≤ length z₀
    → v0 ≡ (t0 *ℤ get_or row (x + l) (pos 0)) +ℤ m0 → v1 ≡ (t1 *ℤ get_or row (x + l + 32) (pos 0)) +ℤ m1
    → v2 ≡ (t2 *ℤ get_or row (x + l + 64) (pos 0)) +ℤ m2 → v3 ≡ (t3 *ℤ get_or row (x + l + 96) (pos 0)) +ℤ m3
    → FourScaled row x (t0 ∷ t1 ∷ t2 ∷ t3 ∷ []) (m0 ∷ m1 ∷ m2 ∷ m3 ∷ []) z₀ (l + 1)
    (set (set (set (set z (x + l) v0) (x + l + 32) v1) (x + l + 64) v2) (x + l + 96) v3)
unfolding tabulate
scaled_four {row} {x} {t0} {t1} {t2} {t3} {m0} {m1} {m2} {m3} {z₀} {l} {z} {v0} {v1} {v2} {v3} s few room e0 e1 e2
    e3 =
    let q : x + l + 0 ≡ x + l = omega arith in
    let first : v0 ≡ (t0 *ℤ get_or row (x + l + 0) (pos 0)) +ℤ m0 = rw q e0 in
    subst (λ (n : ℕ). FourScaled row x (t0 ∷ t1 ∷ t2 ∷ t3 ∷ []) (m0 ∷ m1 ∷ m2 ∷ m3 ∷ []) z₀ (l + 1)
    (set (set (set (set z n v0) (x + l + 32) v1) (x + l + 64) v2) (x + l + 96) v3)) q
    (scaled_more row x (t0 ∷ t1 ∷ t2 ∷ t3 ∷ []) (m0 ∷ m1 ∷ m2 ∷ m3 ∷ []) z₀ l z (v0 ∷ v1 ∷ v2 ∷ v3 ∷ []) s few room
    (λ i. first i ∷ e1 i ∷ e2 i ∷ e3 i ∷ []))

pub entered : {row z₀ z₁ z₂ : List ℤ} → length z₀ ≡ 256
    → FourScaled row 0 (pos 16 ∷ pos 16 ∷ pos 16 ∷ negsuc 15 ∷ []) (pos 0 ∷ pos 0 ∷ pos 0 ∷ pos 0 ∷ []) z₀ 32 z₁
    → FourScaled row 128 (pos 16 ∷ pos 16 ∷ negsuc 15 ∷ pos 16 ∷ []) (pos 0 ∷ pos 0 ∷ pos 0 ∷ pos 4 ∷ []) z₁ 32 z₂
    → Entered row z₂
entered {row} {z₀} {z₁} {z₂} e s₁ s₂ = record {
  long = s₂.long ∙ s₁.long ∙ e;
  each = λ k l h g.
      eight_cases (λ k. get_or z₂ (32 * k + l) (pos 0) ≡ entering k (get_or row (32 * k + l) (pos 0)))
      (first 0 l (lit< tt) g) (first 1 l (lit< tt) g) (first 2 l (lit< tt) g) (first 3 l (lit< tt) g)
      (second 0 l (lit< tt) g) (second 1 l (lit< tt) g) (second 2 l (lit< tt) g) (second 3 l (lit< tt) g) k h;
}
  where
    first : (k l : ℕ) → k < 4 → l < 32 → get_or z₂ (32 * k + l) (pos 0)
        ≡ (get_or (pos 16 ∷ pos 16 ∷ pos 16 ∷ negsuc 15 ∷ []) k (pos 0) *ℤ get_or row (32 * k + l) (pos 0))
        +ℤ get_or (pos 0 ∷ pos 0 ∷ pos 0 ∷ pos 0 ∷ []) k (pos 0)
    first k l h g =
        let q : 0 + l + 32 * k ≡ 32 * k + l = omega arith in
        s₂.kept (32 * k + l) (omega arith) ∙ (rw q at (s₁.each k l h g))

    second : (k l : ℕ) → k < 4 → l < 32 → get_or z₂ (128 + 32 * k + l) (pos 0)
        ≡ (get_or (pos 16 ∷ pos 16 ∷ negsuc 15 ∷ pos 16 ∷ []) k (pos 0) *ℤ get_or row (128 + 32 * k + l) (pos 0))
        +ℤ get_or (pos 0 ∷ pos 0 ∷ pos 0 ∷ pos 4 ∷ []) k (pos 0)
    second k l h g =
        let q : 128 + l + 32 * k ≡ 128 + 32 * k + l = omega arith in
        rw q at (s₂.each k l h g)

-- ---- numbers that are seen to be small on the way, as bytes are
pub four_more_lem : {b : ℕ} {row : List ℤ} {x n : ℕ} → FourWithin b row x n → Within b (get_or row (x + n) (pos 0))
    → Within b (get_or row (x + n + 32) (pos 0)) → Within b (get_or row (x + n + 64) (pos 0))
    → Within b (get_or row (x + n + 96) (pos 0)) → FourWithin b row x (n + 1)
four_more_lem {b} {row} {x} {n} s h0 h1 h2 h3 = record {
  at = λ k l h. below_more (λ l. Within b (get_or row (x + l + 32 * k) (pos 0))) _ (λ j. s.at k j h)
      (phase (λ k. Within b (get_or row (x + n + 32 * k) (pos 0))) (rw none h0) h1 h2 h3 k h) l;
}
  where
    none : x + n + 32 * 0 ≡ x + n
    none = omega arith

pub four_both : {b : ℕ} {row : List ℤ} → FourWithin b row 0 32 → FourWithin b row 128 32 → length row ≡ 256
    → RowWithin b row
four_both {b} {row} s t e = record { at = λ j. by j (dec_lt j 128) (dec_lt j 256) }
  where
    by : (j : ℕ) → Dec (j < 128) → Dec (j < 256) → Within b (get_or row j (pos 0))
    by j (yes p) d =
        let q : 0 + j % 32 + 32 * (j / 32) ≡ j = omega arith in
        subst (λ (i : ℕ). Within b (get_or row i (pos 0))) q (s.at (j / 32) (j % 32) (omega arith) (omega arith))
    by j (no p) (yes d) =
        let q : 128 + j % 32 + 32 * (j / 32 - 4) ≡ j = omega arith in
        subst (λ (i : ℕ). Within b (get_or row i (pos 0))) q (t.at (j / 32 - 4) (j % 32) (omega arith) (omega arith))
    by j (no p) (no d) = rw (get_or-eq_default row (pos 0) {n = j} (omega arith)) (within_zero b)

-- ---- factors and what is added are small, so what has entered is
within_cons : {b : ℕ} {v : ℤ} {t : List ℤ} → Within b v → RowWithin b t → RowWithin b (v ∷ t)
within_cons {b} {v} {t} h r = record { at = by }
  where
    by : (k : ℕ) → Within b (get_or (v ∷ t) k (pos 0))
    by zero = h
    by (suc k) = r.at k

within_none : {b : ℕ} → RowWithin b []
within_none = record { at = λ k. within_zero _ }

factors_within : RowWithin 16 factors
factors_within =
    let plus : Within 16 (pos 16) = within_pos 16 in
    let minus : Within 16 (negsuc 15) = within_neg plus in
    within_cons plus (within_cons plus (within_cons plus (within_cons minus (within_cons plus
    (within_cons plus (within_cons minus (within_cons plus within_none)))))))

quarters_within : RowWithin 4 quarters
quarters_within =
    let none : Within 4 (pos 0) = within_zero 4 in
    within_cons none (within_cons none (within_cons none (within_cons none (within_cons none
    (within_cons none (within_cons none (within_cons (within_pos 4) within_none)))))))

pub entered_rows : {b : ℕ} {row z : List ℤ} → Entered row z → RowWithin b row → RowsBounded (16 * b + 4) 8 z
entered_rows {b} {row} {z} h r = record {
  row = λ k hk. record {
    at = λ l hl. record {
      real = one k l hk (omega arith);
      imag = subst (λ (j : ℕ). Within (16 * b + 4) (get_or z j (pos 0))) (on k l) (one k (l + 16) hk (omega arith));
    };
  };
}
  where
    on : (k l : ℕ) → 32 * k + (l + 16) ≡ 32 * k + l + 16
    on k l = omega arith

    one : (k l : ℕ) → k < 8 → l < 32 → Within (16 * b + 4) (get_or z (32 * k + l) (pos 0))
    one k l hk hl =
        subst (Within (16 * b + 4)) (sym (h.each k l hk hl))
        (within_add (within_mul (factors_within.at k) (r.at (32 * k + l))) (quarters_within.at k))

-- ---- bounds
pub row_at_lem : {b n : ℕ} {t : List ℤ} {x : ℕ} (k : ℕ) → RowsBounded b n t → k < n → 32 * k ≡ x → RowBounded b t x
row_at_lem {b} {n} {t} k h l e = subst (λ (x : ℕ). RowBounded b t x) e (h.row k l)

flies : {b : ℕ} {s t : List ℤ} {x y w : ℕ} (p : ℕ)
    → ((l : ℕ) → l < 16 → row_at t w l ≡ fly (row_at s y l) (row_at s x l) p) → RowBounded b s y → RowBounded b s x
    → RowBounded (b + b) t w
flies {b} p e hy hx = record {
  at = λ l hl.
      subst (λ (c : Counts). Bounded (b + b) c) (sym (e l hl)) (fly_bounded p (hy.at l hl) (hx.at l hl));
}

pub paired_rows : {b : ℕ} {z a : List ℤ} → Paired z a → RowsBounded b 8 z → RowsBounded (b + b) 16 a
paired_rows {b} {z} {a} h r = record {
  row = λ k hk.
      subst (λ (x : ℕ). RowBounded (b + b) a x) (four k)
      (phase (λ j. RowBounded (b + b) a (128 * j + 32 * (k % 4)))
      (one h.first 0 2 (lit< tt) (lit< tt) refl refl (k % 4) (turn k))
      (one h.second 1 3 (lit< tt) (lit< tt) refl refl (k % 4) (turn k))
      (one h.third 4 6 (lit< tt) (lit< tt) refl refl (k % 4) (turn k))
      (one h.fourth 5 7 (lit< tt) (lit< tt) refl refl (k % 4) (turn k))
      (k / 4) (omega arith));
}
  where
    four : (k : ℕ) → 128 * (k / 4) + 32 * (k % 4) ≡ 32 * k
    four k = omega arith

    one : {x w : ℕ} → Joined z a x w → (i j : ℕ) → i < 8 → j < 8 → 32 * i ≡ x → 32 * j ≡ x + 64 → (p : ℕ) → p < 4
        → RowBounded (b + b) a (w + 32 * p)
    one f i j hi hj ei ej p hp = flies p (λ l hl. f.at p l hp hl) (row_at_lem j r hj ej) (row_at_lem i r hi ei)
