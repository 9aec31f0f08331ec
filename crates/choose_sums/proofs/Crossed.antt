-- The sums that give the eight scores of 5.5 Mbit/s. s is the row whose chips 1, 3, 5, 7 are taken, t the one whose
-- chips 0, 2, 4, 6 are: I and Q for the first four words, Q and I for the others.
--     sums            what the code adds comes to four sums of eight chips
--     eight_scores    of I with Q and of Q with I these are the scores of the first eight allowed words
-- Assumes nothing.
use mathlib.Core.Path.{◌≡◌, refl, ap, ◌∙◌}
use mathlib.Core.List.{List, [], ◌∷◌}
use Prim.Native.Nat.{ℕ}
use native.Mathlib.Omega.{arith}
use lib.ListN.{get_or}
use lib.IntN.{ℤ, pos, neg_ℤ, ◌+ℤ◌, ◌-ℤ◌, neg_ℤ-+ℤ, neg_ℤ-neg_ℤ}
use Rattle.base.proofs.Whole.{add, same, up_pos, dn_pos}
use Rattle.base.specs.Tables.{tabulate}
use Rattle.rules_rates.specs.declared.Rate.TheVariants.{Five}
use Rattle.rules_symbols.specs.Words.{cck_word}
use Rattle.rules_symbols.specs.Choice.{score}
use Rattle.rules_choosing.specs.Scores.{score_at, number5}
use Rattle.choose_sums.specs.Sums.{rows, crossed}

-- ---- sums of two, four and eight
sum8 : (a b c d e f g h : ℤ) → ((f +ℤ h) +ℤ (e +ℤ g)) +ℤ ((b +ℤ d) +ℤ (a +ℤ c))
    ≡ a +ℤ (b +ℤ (c +ℤ (d +ℤ (e +ℤ (f +ℤ (g +ℤ (h +ℤ pos 0)))))))
sum8 a b c d e f g h = same _ _
    (omega (
      arith,
      up_pos 0,
      dn_pos 0,
      add f h,
      add e g,
      add b d,
      add a c,
      add (f +ℤ h) (e +ℤ g),
      add (b +ℤ d) (a +ℤ c),
      add ((f +ℤ h) +ℤ (e +ℤ g)) ((b +ℤ d) +ℤ (a +ℤ c)),
      add h (pos 0),
      add g (h +ℤ pos 0),
      add f (g +ℤ (h +ℤ pos 0)),
      add e (f +ℤ (g +ℤ (h +ℤ pos 0))),
      add d (e +ℤ (f +ℤ (g +ℤ (h +ℤ pos 0)))),
      add c (d +ℤ (e +ℤ (f +ℤ (g +ℤ (h +ℤ pos 0))))),
      add b (c +ℤ (d +ℤ (e +ℤ (f +ℤ (g +ℤ (h +ℤ pos 0)))))),
      add a (b +ℤ (c +ℤ (d +ℤ (e +ℤ (f +ℤ (g +ℤ (h +ℤ pos 0))))))),
    ))

neg_diff : (b d : ℤ) → neg_ℤ (b -ℤ d) ≡ neg_ℤ b +ℤ d
neg_diff b d = neg_ℤ-+ℤ b (neg_ℤ d) ∙ ap (λ (z : ℤ). neg_ℤ b +ℤ z) (neg_ℤ-neg_ℤ d)

module _ (a b c d e f g h : ℤ) where
  pub shape0 : ((f +ℤ h) +ℤ (e -ℤ g)) +ℤ ((b -ℤ d) +ℤ (a +ℤ c))
      ≡ a +ℤ (b +ℤ (c +ℤ (neg_ℤ d +ℤ (e +ℤ (f +ℤ (neg_ℤ g +ℤ (h +ℤ pos 0)))))))
  shape0 = sum8 a b c (neg_ℤ d) e f (neg_ℤ g) h

  pub shape1 : ((f +ℤ h) +ℤ (e -ℤ g)) -ℤ ((b -ℤ d) +ℤ (a +ℤ c))
      ≡ neg_ℤ a +ℤ (neg_ℤ b +ℤ (neg_ℤ c +ℤ (d +ℤ (e +ℤ (f +ℤ (neg_ℤ g +ℤ (h +ℤ pos 0)))))))
  shape1 =
      ap (λ (z : ℤ). ((f +ℤ h) +ℤ (e -ℤ g)) +ℤ z) (neg_ℤ-+ℤ (b -ℤ d) (a +ℤ c) ∙ (λ i. neg_diff b d i +ℤ neg_ℤ-+ℤ a c i))
      ∙ sum8 (neg_ℤ a) (neg_ℤ b) (neg_ℤ c) d e f (neg_ℤ g) h

  pub shape2 : ((f +ℤ h) -ℤ (e -ℤ g)) +ℤ ((b -ℤ d) -ℤ (a +ℤ c))
      ≡ neg_ℤ a +ℤ (b +ℤ (neg_ℤ c +ℤ (neg_ℤ d +ℤ (neg_ℤ e +ℤ (f +ℤ (g +ℤ (h +ℤ pos 0)))))))
  shape2 = (λ i. ((f +ℤ h) +ℤ neg_diff e g i) +ℤ ((b -ℤ d) +ℤ neg_ℤ-+ℤ a c i))
      ∙ sum8 (neg_ℤ a) b (neg_ℤ c) (neg_ℤ d) (neg_ℤ e) f g h

  pub shape3 : ((f +ℤ h) -ℤ (e -ℤ g)) -ℤ ((b -ℤ d) -ℤ (a +ℤ c))
      ≡ a +ℤ (neg_ℤ b +ℤ (c +ℤ (d +ℤ (neg_ℤ e +ℤ (f +ℤ (g +ℤ (h +ℤ pos 0)))))))
  shape3 =
      (λ i. ((f +ℤ h) +ℤ neg_diff e g i)
      +ℤ (neg_ℤ-+ℤ (b -ℤ d) (neg_ℤ (a +ℤ c)) ∙ (λ j. neg_diff b d j +ℤ neg_ℤ-neg_ℤ (a +ℤ c) j)) i)
      ∙ sum8 a (neg_ℤ b) c d (neg_ℤ e) f g h

-- ---- what the code makes of two rows: sums of two chips, of four, and of eight
module _ (s t : List ℤ) where
  abbrev S : ℕ → ℤ
  S k = get_or s k (pos 0)

  abbrev R : ℕ → ℤ
  R k = get_or t k (pos 0)

  module _ {a b c d u x v y : ℤ} (ea : a ≡ R 0 +ℤ R 2) (eb : b ≡ S 1 -ℤ S 3) (ec : c ≡ R 4 -ℤ R 6)
      (ed : d ≡ S 5 +ℤ S 7) (eu : u ≡ b +ℤ a) (ex : x ≡ b -ℤ a) (ev : v ≡ d +ℤ c) (ey : y ≡ d -ℤ c) where
    pub sums : {r0 r1 r2 r3 : ℤ} → r0 ≡ v +ℤ u → r1 ≡ v -ℤ u → r2 ≡ y +ℤ x → r3 ≡ y -ℤ x
        → r0 ∷ r1 ∷ r2 ∷ r3 ∷ [] ≡ crossed s t
    sums e0 e1 e2 e3 = λ i.
        (e0 ∙ (λ j. (ev ∙ (λ k. ed k +ℤ ec k)) j +ℤ (eu ∙ (λ k. eb k +ℤ ea k)) j)
        ∙ shape0 (R 0) (S 1) (R 2) (S 3) (R 4) (S 5) (R 6) (S 7)) i
        ∷ (e1 ∙ (λ j. (ev ∙ (λ k. ed k +ℤ ec k)) j -ℤ (eu ∙ (λ k. eb k +ℤ ea k)) j)
        ∙ shape1 (R 0) (S 1) (R 2) (S 3) (R 4) (S 5) (R 6) (S 7)) i
        ∷ (e2 ∙ (λ j. (ey ∙ (λ k. ed k -ℤ ec k)) j +ℤ (ex ∙ (λ k. eb k -ℤ ea k)) j)
        ∙ shape2 (R 0) (S 1) (R 2) (S 3) (R 4) (S 5) (R 6) (S 7)) i
        ∷ (e3 ∙ (λ j. (ey ∙ (λ k. ed k -ℤ ec k)) j -ℤ (ex ∙ (λ k. eb k -ℤ ea k)) j)
        ∙ shape3 (R 0) (S 1) (R 2) (S 3) (R 4) (S 5) (R 6) (S 7)) i
        ∷ []

-- ---- the scores
pub eight_scores : (m n i q : List ℤ) → m ≡ crossed i q → n ≡ crossed q i
    → get_or m 0 (pos 0) ∷ get_or m 1 (pos 0) ∷ get_or m 2 (pos 0) ∷ get_or m 3 (pos 0)
    ∷ get_or n 2 (pos 0) ∷ get_or n 3 (pos 0) ∷ get_or n 0 (pos 0) ∷ get_or n 1 (pos 0) ∷ []
    ≡ tabulate (λ k. score_at Five (rows i q) (number5 k)) 8
unfolding tabulate cck_word score
eight_scores m n i q e f = rw (e, f) refl
