-- Numbers and words go together one to one: a number's phases make it, phases are those of their number, and two
-- numbers with one word are one, since a word's phases are read off its chips 7, 6, 5 and 3.
-- Assumes nothing.
use mathlib.Core.Path.{◌≡◌, sym, ap, ◌∙◌}
use mathlib.Core.List.{List}
use Prim.Native.Nat.{ℕ, ◌+◌, ◌*◌, ◌/◌, ◌%◌, ◌<◌}
use native.Mathlib.Omega.{arith}
use lib.ListN.{get_or}
use lib.Dec.{eqb, eqb→eq}
use Rattle.base.proofs.Tests.{all_at}
use Rattle.rules_rates.specs.declared.Rate.{Rate}
use Rattle.rules_rates.specs.declared.Rate.TheVariants.{One, Two, Five, Eleven}
use Rattle.rules_symbols.specs.Words.{barker_word, cck_word, cck_number, cck_of, p1_of, p2_of, p3_of, p4_of, word_of}
use Rattle.rules_symbols.specs.Choice.{numbers}
use Rattle.rules_symbols.proofs.Words.{turn}

-- ---- phases of a number, and the number of phases
abbrev of_phases : ℕ → ℕ
of_phases n = cck_number (p1_of n) (p2_of n) (p3_of n) (p4_of n)

pub number_back : (n : ℕ) → n < 256 → cck_number (p1_of n) (p2_of n) (p3_of n) (p4_of n) ≡ n
number_back n h = eqb→eq (of_phases n) n (all_at (λ k. eqb (of_phases k) k) 256 tt n h)

module _ (p1 p2 p3 p4 : ℕ) (h1 : p1 < 4) (h2 : p2 < 4) (h3 : p3 < 4) (h4 : p4 < 4) where
  pub number_below : cck_number p1 p2 p3 p4 < 256
  number_below = omega arith

  pub p1_back : p1_of (cck_number p1 p2 p3 p4) ≡ p1
  p1_back = let e : cck_number p1 p2 p3 p4 / 64 ≡ p1 = omega arith in rw e (omega arith)

  pub p2_back : p2_of (cck_number p1 p2 p3 p4) ≡ p2
  p2_back = let e : cck_number p1 p2 p3 p4 / 16 ≡ 4 * p1 + p2 = omega arith in rw e (omega arith)

  pub p3_back : p3_of (cck_number p1 p2 p3 p4) ≡ p3
  p3_back = let e : cck_number p1 p2 p3 p4 / 4 ≡ 16 * p1 + 4 * p2 + p3 = omega arith in rw e (omega arith)

  pub p4_back : p4_of (cck_number p1 p2 p3 p4) ≡ p4
  p4_back = omega arith

  -- the word of phases is that of their number
  pub cck_of_number : cck_of (cck_number p1 p2 p3 p4) ≡ cck_word p1 p2 p3 p4
  cck_of_number = λ i. cck_word (p1_back i) (p2_back i) (p3_back i) (p4_back i)

-- ---- words of different numbers differ
chip_of : (k : ℕ) {v w : List ℕ} → v ≡ w → get_or v k 0 ≡ get_or w k 0
chip_of k e = ap (λ (l : List ℕ). get_or l k 0) e

-- two phases that make the same turn from one phase are the same
unturned : (t p q : ℕ) → p < 4 → q < 4 → (t + p) % 4 ≡ (t + q) % 4 → p ≡ q
unturned t p q hp hq e = omega arith

unmoved : (p q : ℕ) → p < 4 → q < 4 → p % 4 ≡ q % 4 → p ≡ q
unmoved p q hp hq e = omega arith

unturned_half : (t p q : ℕ) → p < 4 → q < 4 → (t + p + 2) % 4 ≡ (t + q + 2) % 4 → p ≡ q
unturned_half t p q hp hq e = omega arith

module _ (p1 p2 p3 p4 q1 q2 q3 q4 : ℕ) (h1 : p1 < 4) (h2 : p2 < 4) (h3 : p3 < 4) (h4 : p4 < 4)
    (k1 : q1 < 4) (k2 : q2 < 4) (k3 : q3 < 4) (k4 : q4 < 4) (e : cck_word p1 p2 p3 p4 ≡ cck_word q1 q2 q3 q4) where
  first_phase_lem : p1 ≡ q1
  unfolding cck_word
  first_phase_lem = let c : p1 % 4 ≡ q1 % 4 = chip_of 7 e in unmoved p1 q1 h1 k1 c

  second_phase : p2 ≡ q2
  unfolding cck_word
  second_phase = unturned_half q1 p2 q2 h2 k2 (ap (λ (t : ℕ). (t + p2 + 2) % 4) (sym first_phase_lem) ∙ chip_of 6 e)

  third_phase : p3 ≡ q3
  unfolding cck_word
  third_phase = unturned q1 p3 q3 h3 k3 (ap (λ (t : ℕ). (t + p3) % 4) (sym first_phase_lem) ∙ chip_of 5 e)

  fourth_phase : p4 ≡ q4
  unfolding cck_word
  fourth_phase = unturned_half q1 p4 q4 h4 k4 (ap (λ (t : ℕ). (t + p4 + 2) % 4) (sym first_phase_lem) ∙ chip_of 3 e)

  pub cck_one : cck_number p1 p2 p3 p4 ≡ cck_number q1 q2 q3 q4
  cck_one = λ i. cck_number (first_phase_lem i) (second_phase i) (third_phase i) (fourth_phase i)

cck_number_one : (m n : ℕ) → m < 256 → n < 256 → cck_of m ≡ cck_of n → m ≡ n
cck_number_one m n hm hn e =
    sym (number_back m hm)
    ∙ cck_one (p1_of m) (p2_of m) (p3_of m) (p4_of m) (p1_of n) (p2_of n) (p3_of n) (p4_of n)
    (turn _) (turn _) (turn _) (turn _) (turn _) (turn _) (turn _) (turn _) e
    ∙ number_back n hn

barker_one : (m n : ℕ) → m < 4 → n < 4 → barker_word m ≡ barker_word n → m ≡ n
unfolding barker_word
barker_one m n hm hn e = let c : (m + 0) % 4 ≡ (n + 0) % 4 = chip_of 0 e in omega arith

pub word_one : (r : Rate) (m n : ℕ) → m < numbers r → n < numbers r → word_of r m ≡ word_of r n → m ≡ n
word_one One m n hm hn e = barker_one m n hm hn e
word_one Two m n hm hn e = barker_one m n hm hn e
word_one Five m n hm hn e = cck_number_one m n hm hn e
word_one Eleven m n hm hn e = cck_number_one m n hm hn e
