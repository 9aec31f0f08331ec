-- The sums of the third stage are scores: in each column 16 times the score of a word of the symbol that stands there,
-- and 4 more, p1 being 0 or 1.
--     column_sum      term p1 of the last butterfly's output p2, for the group of p3 and p4
-- Assumes nothing.
use mathlib.Core.Path.{◌≡◌, refl, sym, ap, ◌∙◌}
use mathlib.Core.List.{List, [], ◌∷◌}
use Prim.Native.Nat.{ℕ, zero, suc, ◌+◌, ◌*◌, ◌%◌, ◌<◌}
use native.Mathlib.Omega.{arith}
use lib.Dec.{lit<}
use lib.ListN.{get_or}
use lib.IntN.{ℤ, pos, negsuc, neg_ℤ, ◌+ℤ◌, ◌*ℤ◌, +ℤ_assoc, +ℤ_idr, neg_ℤ-neg_ℤ}
use Rattle.base.specs.Tables.{tabulate}
use Rattle.rules_chips.specs.declared.Counts.{Counts}
use Rattle.rules_chips.specs.Chips.{pair}
use Rattle.rules_symbols.specs.Words.{cck_word}
use Rattle.rules_symbols.specs.Choice.{term, score}
use Rattle.rules_choosing.proofs.Scaled.{k_add, term_times}
use Rattle.choose_sums.specs.Sums.{rows, every_row}
use Rattle.choose_walsh.specs.Turns.{back, fly}
use Rattle.choose_walsh.specs.Rows.{row_at, entering, Entered, Paired, evens, odds}
use Rattle.choose_walsh.proofs.Turns.{even, odd, walsh}

abbrev times : ℤ → ℤ
times z = pos 16 *ℤ z

-- ---- sums of numbers that are 16 times others
-- a chip as its counts enter, the minus taken out; chip 7 with its quarter
abbrev large : Counts → Counts
large c = pair (times c.i) (times c.q)

abbrev largest7 : Counts → Counts
largest7 c = pair (times c.i +ℤ pos 4) (times c.q +ℤ pos 4)

-- one chip more in front
front : (p : ℕ) (c : Counts) (x y : ℤ) → x ≡ times y +ℤ pos 4 → term p (large c) +ℤ x ≡ times (term p c +ℤ y) +ℤ pos 4
front p c x y e =
    (λ i. term_times 16 (lit< tt) p {c = large c} {u = c} (record { real = refl; imag = refl }) i +ℤ e i)
    ∙ sym (+ℤ_assoc (times (term p c)) (times y) (pos 4))
    ∙ ap (λ (z : ℤ). z +ℤ pos 4) (k_add 16 (lit< tt) (term p c) y)

-- chip 7, unturned or a quarter on
end : (z : ℤ) → (times z +ℤ pos 4) +ℤ pos 0 ≡ times (z +ℤ pos 0) +ℤ pos 4
end z = +ℤ_idr (times z +ℤ pos 4) ∙ ap (λ (y : ℤ). times y +ℤ pos 4) (sym (+ℤ_idr z))

last : (p : ℕ) (c : Counts) → p < 2 → term p (largest7 c) +ℤ pos 0 ≡ times (term p c +ℤ pos 0) +ℤ pos 4
last zero c h = end c.i
last (suc zero) c h = end c.q
last (suc (suc n)) c h = absurd (omega arith)

scaled_score : (c : ℕ → Counts) (p1 p2 p3 p4 : ℕ) → p1 < 2
    → score (cck_word p1 p2 p3 p4)
    (large (c 0) ∷ large (c 1) ∷ large (c 2) ∷ large (c 3) ∷ large (c 4) ∷ large (c 5) ∷ large (c 6)
    ∷ largest7 (c 7) ∷ [])
    ≡ times (score (cck_word p1 p2 p3 p4) (c 0 ∷ c 1 ∷ c 2 ∷ c 3 ∷ c 4 ∷ c 5 ∷ c 6 ∷ c 7 ∷ [])) +ℤ pos 4
unfolding score cck_word
scaled_score c p1 p2 p3 p4 h =
    front ((p1 + p2 + p3 + p4) % 4) (c 0) _ _
    (front ((p1 + p3 + p4) % 4) (c 1) _ _
    (front ((p1 + p2 + p4) % 4) (c 2) _ _
    (front ((p1 + p4 + 2) % 4) (c 3) _ _
    (front ((p1 + p2 + p3) % 4) (c 4) _ _
    (front ((p1 + p3) % 4) (c 5) _ _
    (front ((p1 + p2 + 2) % 4) (c 6) _ _
    (last (p1 % 4) (c 7) (omega arith))))))))

-- ---- a column of what has entered
less : (z : ℤ) → (negsuc 15 *ℤ z) +ℤ pos 0 ≡ neg_ℤ (times z)
less (pos n) = +ℤ_idr (negsuc 15 *ℤ pos n)
less (negsuc n) = +ℤ_idr (negsuc 15 *ℤ negsuc n) ∙ sym (neg_ℤ-neg_ℤ (pos (16 * suc n)))

module _ (row z a : List ℤ) (l : ℕ) (few : l < 16) (h : Entered row z) (p : Paired z a) where
  -- the symbol's chips
  abbrev pub chip : ℕ → Counts
  chip k = pair (get_or row (l + 32 * k) (pos 0)) (get_or row (16 + l + 32 * k) (pos 0))

  pub chips_are : rows (every_row row l 8) (every_row row (16 + l) 8)
      ≡ chip 0 ∷ chip 1 ∷ chip 2 ∷ chip 3 ∷ chip 4 ∷ chip 5 ∷ chip 6 ∷ chip 7 ∷ []
  unfolding tabulate
  chips_are = refl

  entered : (k : ℕ) → k < 8 → row_at z (32 * k) l ≡ pair (entering k (chip k).i) (entering k (chip k).q)
  entered k b = λ i. pair (first i) (second i)
    where
      first : get_or z (32 * k + l) (pos 0) ≡ entering k (get_or row (l + 32 * k) (pos 0))
      first = h.each k l b (omega arith) ∙ ap (λ (n : ℕ). entering k (get_or row n (pos 0))) (omega arith)

      second : get_or z (32 * k + l + 16) (pos 0) ≡ entering k (get_or row (16 + l + 32 * k) (pos 0))
      second =
          ap (λ (n : ℕ). get_or z n (pos 0)) (omega arith) ∙ h.each k (l + 16) b (omega arith)
          ∙ ap (λ (n : ℕ). entering k (get_or row n (pos 0))) (omega arith)

  as_it_is : (c : Counts) → pair (times c.i +ℤ pos 0) (times c.q +ℤ pos 0) ≡ large c
  as_it_is c = λ i. pair (+ℤ_idr (times c.i) i) (+ℤ_idr (times c.q) i)

  turned_half : (c : Counts) → pair ((negsuc 15 *ℤ c.i) +ℤ pos 0) ((negsuc 15 *ℤ c.q) +ℤ pos 0) ≡ back 2 (large c)
  turned_half c = λ i. pair (less c.i i) (less c.q i)

  e0 : row_at z 0 l ≡ large (chip 0)
  e0 = entered 0 (lit< tt) ∙ as_it_is (chip 0)

  e1 : row_at z 32 l ≡ large (chip 1)
  e1 = entered 1 (lit< tt) ∙ as_it_is (chip 1)

  e2 : row_at z 64 l ≡ large (chip 2)
  e2 = entered 2 (lit< tt) ∙ as_it_is (chip 2)

  e3 : row_at z 96 l ≡ back 2 (large (chip 3))
  e3 = entered 3 (lit< tt) ∙ turned_half (chip 3)

  e4 : row_at z 128 l ≡ large (chip 4)
  e4 = entered 4 (lit< tt) ∙ as_it_is (chip 4)

  e5 : row_at z 160 l ≡ large (chip 5)
  e5 = entered 5 (lit< tt) ∙ as_it_is (chip 5)

  e6 : row_at z 192 l ≡ back 2 (large (chip 6))
  e6 = entered 6 (lit< tt) ∙ turned_half (chip 6)

  e7 : row_at z 224 l ≡ largest7 (chip 7)
  e7 = entered 7 (lit< tt)

  module _ (p3 p4 : ℕ) (h3 : p3 < 4) (h4 : p4 < 4) where
    odds_are : odds a l p3 p4
        ≡ odd (large (chip 0)) (large (chip 1)) (large (chip 2)) (large (chip 3)) (large (chip 4)) (large (chip 5))
        (large (chip 6)) (largest7 (chip 7)) p3 p4
    odds_are =
        (λ i. fly (p.fourth.at p3 l h3 few i) (p.second.at p3 l h3 few i) p4)
        ∙ (λ i. fly (fly (e7 i) (e5 i) p3) (fly (e3 i) (e1 i) p3) p4)

    evens_are : evens a l p3 p4
        ≡ even (large (chip 0)) (large (chip 1)) (large (chip 2)) (large (chip 3)) (large (chip 4)) (large (chip 5))
        (large (chip 6)) (largest7 (chip 7)) p3 p4
    evens_are =
        (λ i. fly (p.third.at p3 l h3 few i) (p.first.at p3 l h3 few i) p4)
        ∙ (λ i. fly (fly (e6 i) (e4 i) p3) (fly (e2 i) (e0 i) p3) p4)

    pub column_sum : (p1 p2 : ℕ) → p1 < 2 → p2 < 4
        → term p1 (fly (odds a l p3 p4) (evens a l p3 p4) p2)
        ≡ times (score (cck_word p1 p2 p3 p4) (rows (every_row row l 8) (every_row row (16 + l) 8))) +ℤ pos 4
    column_sum p1 p2 h1 h2 =
        (λ i. term p1 (fly (odds_are i) (evens_are i) p2))
        ∙ walsh (large (chip 0)) (large (chip 1)) (large (chip 2)) (large (chip 3)) (large (chip 4)) (large (chip 5))
        (large (chip 6)) (largest7 (chip 7)) p1 p2 p3 p4 (omega arith) h2 h3 h4
        ∙ scaled_score chip p1 p2 p3 p4 h1
        ∙ ap (λ (cs : List Counts). times (score (cck_word p1 p2 p3 p4) cs) +ℤ pos 4) (sym chips_are)
