-- What a butterfly's output adds to a word's score, and that three stages of them add up to it, for any eight chips.
--     walsh                          the sums of the third stage are scores: term p1 of the sum is the word's
--     back_bounded, fly_bounded      how large the numbers grow
-- Assumes nothing.
use mathlib.Core.Path.{◌≡◌, refl, ap, ◌∙◌}
use mathlib.Core.List.{[], ◌∷◌}
use Prim.Native.Nat.{ℕ, zero, suc, ◌+◌, ◌%◌, ◌<◌}
use native.Mathlib.Omega.{arith}
use lib.Dec.{lit<}
use lib.IntN.{ℤ, pos, ◌+ℤ◌, neg_ℤ-+ℤ, neg_ℤ-neg_ℤ}
use Rattle.base.proofs.Whole.{add, same, up_pos, dn_pos, within_zero, within_neg, within_add}
use Rattle.rules_chips.specs.declared.Counts.{Counts}
use Rattle.rules_chips.specs.Bounds.{Bounded}
use Rattle.rules_symbols.specs.Words.{cck_word}
use Rattle.rules_symbols.specs.Choice.{term, score}
use Rattle.rules_choosing.proofs.Clean.{phase}
use Rattle.choose_walsh.specs.Turns.{plus, back, fly}

-- by cases of a number below eight
pub eight_cases : (P : ℕ → Type 0) → P 0 → P 1 → P 2 → P 3 → P 4 → P 5 → P 6 → P 7 → (m : ℕ) → m < 8 → P m
eight_cases P a b c d e f g h zero l = a
eight_cases P a b c d e f g h (suc zero) l = b
eight_cases P a b c d e f g h (suc (suc zero)) l = c
eight_cases P a b c d e f g h (suc (suc (suc zero))) l = d
eight_cases P a b c d e f g h (suc (suc (suc (suc zero)))) l = e
eight_cases P a b c d e f g h (suc (suc (suc (suc (suc zero))))) l = f
eight_cases P a b c d e f g h (suc (suc (suc (suc (suc (suc zero)))))) l = g
eight_cases P a b c d e f g h (suc (suc (suc (suc (suc (suc (suc zero))))))) l = h
eight_cases P a b c d e f g h (suc (suc (suc (suc (suc (suc (suc (suc n)))))))) l = absurd (omega arith)

-- ---- one butterfly
term_plus : (p : ℕ) (a b : Counts) → term p (plus a b) ≡ term p a +ℤ term p b
term_plus zero a b = refl
term_plus (suc zero) a b = refl
term_plus (suc (suc zero)) a b = neg_ℤ-+ℤ a.i b.i
term_plus (suc (suc (suc zero))) a b = neg_ℤ-+ℤ a.q b.q
term_plus (suc (suc (suc (suc n)))) a b = refl

term_back : (x : Counts) (p r : ℕ) → p < 4 → r < 4 → term p (back r x) ≡ term ((p + r) % 4) x
term_back x p r hp hr =
    phase (λ r. term p (back r x) ≡ term ((p + r) % 4) x)
    (phase (λ p. term p (back 0 x) ≡ term ((p + 0) % 4) x) refl refl refl refl p hp)
    (phase (λ p. term p (back 1 x) ≡ term ((p + 1) % 4) x) refl refl refl (neg_ℤ-neg_ℤ x.i) p hp)
    (phase (λ p. term p (back 2 x) ≡ term ((p + 2) % 4) x) refl refl (neg_ℤ-neg_ℤ x.i) (neg_ℤ-neg_ℤ x.q) p hp)
    (phase (λ p. term p (back 3 x) ≡ term ((p + 3) % 4) x) refl refl (neg_ℤ-neg_ℤ x.q) refl p hp)
    r hr

-- at the phase p, where its second number is at q
term_fly : (p r : ℕ) (y x : Counts) (q : ℕ) → p < 4 → r < 4 → (p + r) % 4 ≡ q
    → term p (fly y x r) ≡ term p y +ℤ term q x
term_fly p r y x q hp hr e =
    term_plus p y (back r x) ∙ ap (λ (z : ℤ). term p y +ℤ z) (term_back x p r hp hr ∙ ap (λ (s : ℕ). term s x) e)

-- ---- phases
pub turn : (x : ℕ) → x % 4 < 4
turn x = omega arith

turn_more : (s t : ℕ) → (s % 4 + t) % 4 ≡ (s + t) % 4
turn_more s t = omega arith

onward : (s t u : ℕ) → s + t ≡ u → (s % 4 + t) % 4 ≡ u % 4
onward s t u e = turn_more s t ∙ ap (λ (n : ℕ). n % 4) e

-- half a turn
half : (s : ℕ) (x : Counts) → term (s % 4) (back 2 x) ≡ term ((s + 2) % 4) x
half s x = term_back x (s % 4) 2 (turn s) (lit< tt) ∙ ap (λ (p : ℕ). term p x) (turn_more s 2)

-- ---- three stages, over p3, p4 and p2
sum8 : (a b c d e f g h : ℤ) → ((h +ℤ f) +ℤ (d +ℤ b)) +ℤ ((g +ℤ e) +ℤ (c +ℤ a))
    ≡ a +ℤ (b +ℤ (c +ℤ (d +ℤ (e +ℤ (f +ℤ (g +ℤ (h +ℤ pos 0)))))))
sum8 a b c d e f g h = same _ _
    (omega (
      arith,
      up_pos 0,
      dn_pos 0,
      add h f,
      add d b,
      add (h +ℤ f) (d +ℤ b),
      add g e,
      add c a,
      add (g +ℤ e) (c +ℤ a),
      add ((h +ℤ f) +ℤ (d +ℤ b)) ((g +ℤ e) +ℤ (c +ℤ a)),
      add h (pos 0),
      add g (h +ℤ pos 0),
      add f (g +ℤ (h +ℤ pos 0)),
      add e (f +ℤ (g +ℤ (h +ℤ pos 0))),
      add d (e +ℤ (f +ℤ (g +ℤ (h +ℤ pos 0)))),
      add c (d +ℤ (e +ℤ (f +ℤ (g +ℤ (h +ℤ pos 0))))),
      add b (c +ℤ (d +ℤ (e +ℤ (f +ℤ (g +ℤ (h +ℤ pos 0)))))),
      add a (b +ℤ (c +ℤ (d +ℤ (e +ℤ (f +ℤ (g +ℤ (h +ℤ pos 0))))))),
    ))

module _ (c0 c1 c2 c3 c4 c5 c6 c7 : Counts) (p3 p4 : ℕ) where
  abbrev pub even : Counts
  even = fly (fly (back 2 c6) c4 p3) (fly c2 c0 p3) p4

  abbrev pub odd : Counts
  odd = fly (fly c7 c5 p3) (fly (back 2 c3) c1 p3) p4

module _ (c0 c1 c2 c3 c4 c5 c6 c7 : Counts) (p1 p2 p3 p4 : ℕ) (h1 : p1 < 4) (h2 : p2 < 4) (h3 : p3 < 4) (h4 : p4 < 4)
  where
    t57 : term p1 (fly c7 c5 p3) ≡ term (p1 % 4) c7 +ℤ term ((p1 + p3) % 4) c5
    t57 = term_fly p1 p3 c7 c5 ((p1 + p3) % 4) h1 h3 refl ∙ ap (λ (p : ℕ). term p c7 +ℤ term ((p1 + p3) % 4) c5) here
      where
        here : p1 ≡ p1 % 4
        here = omega arith

    t13 : term ((p1 + p4) % 4) (fly (back 2 c3) c1 p3) ≡ term ((p1 + p4 + 2) % 4) c3 +ℤ term ((p1 + p3 + p4) % 4) c1
    t13 =
        term_fly ((p1 + p4) % 4) p3 (back 2 c3) c1 ((p1 + p3 + p4) % 4) (turn _) h3
        (onward (p1 + p4) p3 (p1 + p3 + p4) (omega arith))
        ∙ ap (λ (z : ℤ). z +ℤ term ((p1 + p3 + p4) % 4) c1) (half (p1 + p4) c3)

    t46 : term ((p1 + p2) % 4) (fly (back 2 c6) c4 p3) ≡ term ((p1 + p2 + 2) % 4) c6 +ℤ term ((p1 + p2 + p3) % 4) c4
    t46 =
        term_fly ((p1 + p2) % 4) p3 (back 2 c6) c4 ((p1 + p2 + p3) % 4) (turn _) h3 (turn_more (p1 + p2) p3)
        ∙ ap (λ (z : ℤ). z +ℤ term ((p1 + p2 + p3) % 4) c4) (half (p1 + p2) c6)

    t02 : term ((p1 + p2 + p4) % 4) (fly c2 c0 p3)
        ≡ term ((p1 + p2 + p4) % 4) c2 +ℤ term ((p1 + p2 + p3 + p4) % 4) c0
    t02 =
        term_fly ((p1 + p2 + p4) % 4) p3 c2 c0 ((p1 + p2 + p3 + p4) % 4) (turn _) h3
        (onward (p1 + p2 + p4) p3 (p1 + p2 + p3 + p4) (omega arith))

    -- promise: Three stages of butterflies give every score at 11 Mbit/s, and the search over them ends with the word
    -- decided and its lead
    -- rule: 3.5, 3.6, 3.9
    -- code: choose_stages::pairs, choose_search::column, choose_search::search, choose_search::lead_of
    -- with: column_sum, two_keys, chosen, led
    pub walsh : term p1 (fly (odd c0 c1 c2 c3 c4 c5 c6 c7 p3 p4) (even c0 c1 c2 c3 c4 c5 c6 c7 p3 p4) p2)
        ≡ score (cck_word p1 p2 p3 p4) (c0 ∷ c1 ∷ c2 ∷ c3 ∷ c4 ∷ c5 ∷ c6 ∷ c7 ∷ [])
    unfolding score cck_word
    walsh =
        let a : Counts = fly c7 c5 p3 in
        let b : Counts = fly (back 2 c3) c1 p3 in
        let c : Counts = fly (back 2 c6) c4 p3 in
        let d : Counts = fly c2 c0 p3 in
        term_fly p1 p2 (fly a b p4) (fly c d p4) ((p1 + p2) % 4) h1 h2 refl
        ∙ (λ i. term_fly p1 p4 a b ((p1 + p4) % 4) h1 h4 refl i
        +ℤ term_fly ((p1 + p2) % 4) p4 c d ((p1 + p2 + p4) % 4) (turn _) h4 (turn_more (p1 + p2) p4) i)
        ∙ (λ i. (t57 i +ℤ t13 i) +ℤ (t46 i +ℤ t02 i))
        ∙ sum8 (term ((p1 + p2 + p3 + p4) % 4) c0) (term ((p1 + p3 + p4) % 4) c1) (term ((p1 + p2 + p4) % 4) c2)
        (term ((p1 + p4 + 2) % 4) c3) (term ((p1 + p2 + p3) % 4) c4) (term ((p1 + p3) % 4) c5)
        (term ((p1 + p2 + 2) % 4) c6) (term (p1 % 4) c7)

-- ---- how large the numbers grow
back_bounded : {b : ℕ} {x : Counts} (r : ℕ) → Bounded b x → Bounded b (back r x)
back_bounded zero h = h
back_bounded (suc zero) h = record { real = h.imag; imag = within_neg h.real }
back_bounded (suc (suc zero)) h = record { real = within_neg h.real; imag = within_neg h.imag }
back_bounded (suc (suc (suc zero))) h = record { real = within_neg h.imag; imag = h.real }
back_bounded (suc (suc (suc (suc n)))) h = record { real = within_zero _; imag = within_zero _ }

pub fly_bounded : {b : ℕ} {y x : Counts} (r : ℕ) → Bounded b y → Bounded b x → Bounded (b + b) (fly y x r)
fly_bounded {b} {y} {x} r h k =
    let t = back_bounded r k in
    record { real = within_add h.real t.real; imag = within_add h.imag t.imag }
