-- A clean recording of three parts of bits, read part by part: the words are those sent, the phases run on, no 1 Mbit/s
-- symbol has grown by 1 or 3, and the bits heard are the bits sent but for the first, whose symbol serves only as
-- reference. Assumes nothing.
use mathlib.Core.Path.{◌≡◌, refl, sym, ap, ap₂, ◌∙◌}
use mathlib.Core.Bool.{Bool, cond}
use mathlib.Core.List.{List, [], ◌∷◌}
use Rattle.std.specs.Prelude.{None, Some}
use Prim.Native.Nat.{ℕ, zero, suc, ◌+◌, ◌*◌, ◌/◌, ◌%◌, ◌<◌}
use native.Mathlib.Nat.{suc-mul, zero-mul}
use native.Mathlib.Omega.{arith}
use borrow.Author.Tests.{ne_eqb}
use lib.ListN.{length, get_or, take, drop, length-append}
use Rattle.rules_rates.specs.declared.Rate.{Rate}
use Rattle.rules_rates.specs.declared.Rate.TheVariants.{One, Two, Five, Eleven}
use Rattle.rules_rates.specs.Rates.{symbol_chips, symbol_bits}
use Rattle.rules_chips.specs.Chips.{turned}
use Rattle.rules_symbols.specs.Words.{word_of}
use Rattle.rules_symbols.proofs.Words.{word_length}
use Rattle.rules_bits.specs.Growths.{
  symbol_of,
  symbols_from,
  symbols_of,
  chips_from,
  last_phase,
  grown_by,
  heard_bits,
  heard,
  growths_of,
  last_heard,
}
use Rattle.base.specs.Below.{Below}
use Rattle.base.proofs.Below.{below_drop}
use Rattle.rules_reading.specs.Reading.{first_odd}
use Rattle.rules_bits.specs.Code.{numbers_from, words_chips}
use Rattle.rules_bits.proofs.Growths.{symbols_from_length}
use Rattle.rules_bits.proofs.Heard.{heard_back, chips_words, last_number, numbers_from_length}
use Rattle.rules_bits.proofs.Sent.{Allowed, numbers_allowed}

-- ---- lengths
pub chips_length : (r : Rate) (ns : List ℕ) → length (words_chips r ns) ≡ length ns * symbol_chips r
unfolding words_chips
chips_length r [] = sym (zero-mul (symbol_chips r))
chips_length r (n ∷ ns) =
    length-append (word_of r n) (words_chips r ns)
    ∙ omega (arith, word_length r n, chips_length r ns, suc-mul (length ns) (symbol_chips r))

-- the words of bits, from phase p; how many
abbrev pub words_of : Rate → ℕ → List ℕ → List ℕ
words_of r p bs = numbers_from r p (symbols_of r bs)

pub count_words : (r : Rate) (p : ℕ) (bs : List ℕ) → length (words_of r p bs) ≡ length bs / symbol_bits r
unfolding symbols_of
count_words r p bs =
    numbers_from_length r p (symbols_from r 0 (length bs / symbol_bits r) bs)
    ∙ symbols_from_length r 0 (length bs / symbol_bits r) bs

pub allowed_of : (r : Rate) (p : ℕ) (bs : List ℕ) → Below 2 bs → Allowed r (words_of r p bs)
unfolding symbols_of
allowed_of r p bs h = numbers_allowed r 0 p (length bs / symbol_bits r) bs h

pub chips_of : (r : Rate) (p : ℕ) (bs : List ℕ) → Below 2 bs
    → chips_from r p (symbols_of r bs) ≡ words_chips r (words_of r p bs)
unfolding symbols_of
chips_of r p bs h = chips_words r 0 p (length bs / symbol_bits r) bs h

pub last_of : (r : Rate) (p : ℕ) (bs : List ℕ) → Below 2 bs
    → last_heard r p (words_of r p bs) ≡ last_phase p (symbols_of r bs)
unfolding symbols_of
last_of r p bs h = last_number r 0 p (length bs / symbol_bits r) bs h

-- bits of whole octets are heard
whole : (r : Rate) (n : ℕ) → 8 * n ≡ 8 * n / symbol_bits r * symbol_bits r
whole One n = omega arith
whole Two n = omega arith
whole Five n = omega arith
whole Eleven n = omega arith

pub heard_of_lem : (r : Rate) (p n : ℕ) (bs : List ℕ) → p < 4 → Below 2 bs → length bs ≡ 8 * n
    → heard r 0 p (words_of r p bs) ≡ bs
unfolding symbols_of
heard_of_lem r p n bs l h e = heard_back r 0 p (length bs / symbol_bits r) bs l h (rw e (whole r n))

-- ---- growths at 1 Mbit/s are even
even : (p b : ℕ) → p < 4 → (grown_by p (turned p (2 * b)) % 2 ≡ 1 → ⊥)
even p b l e = absurd (omega arith)

quarter : (p g : ℕ) → turned p g < 4
quarter p g = omega arith

pub none_odd : (at k p m : ℕ) (bs : List ℕ) → p < 4
    → first_odd at (growths_of One p (numbers_from One p (symbols_from One k m bs))) ≡ None
unfolding symbols_from numbers_from growths_of first_odd symbol_of
none_odd at k p zero bs l = refl
none_odd at k p (suc m) bs l =
    let b = get_or (take 1 bs) 0 0 in
    let q = turned p (2 * b) in
    ap (λ (t : Bool). cond t (Some at) (first_odd (at + 11)
    (growths_of One q (numbers_from One q (symbols_from One (suc k) m (drop 1 bs))))))
    (ne_eqb (grown_by p q % 2) 1 (even p b l))
    ∙ none_odd (at + 11) (suc k) q m (drop 1 bs) (quarter p (2 * b))

-- the first symbol counts as grown by 0 from itself
still : (q : ℕ) → (grown_by q q % 2 ≡ 1 → ⊥)
still q e = absurd (omega arith)

zero_bit : (q : ℕ) → grown_by q q / 2 ≡ 0
zero_bit q = omega arith

abbrev pub first_phase : ℕ → ℕ → ℕ
first_phase p b = turned p (2 * b)

-- a preamble is not empty: its first word, and what is heard from the first symbol's own phase in place of p
module _ (p : ℕ) (b : ℕ) (bs : List ℕ) (l : p < 4) where
  abbrev first : ℕ
  first = first_phase p b

  abbrev words : List ℕ
  words = words_of One p (b ∷ bs)

  cons_words : words ≡ first ∷ numbers_from One first (symbols_from One 1 (length bs) bs)
  unfolding symbols_of symbols_from numbers_from symbol_of
  cons_words = go (length (b ∷ bs) / 1) (omega arith)
    where
      go : (n : ℕ) → n ≡ suc (length bs)
          → numbers_from One p (symbols_from One 0 n (b ∷ bs))
          ≡ turned p (2 * b) ∷ numbers_from One (turned p (2 * b)) (symbols_from One 1 (length bs) bs)
      go zero e = absurd (omega arith)
      go (suc n) e =
          let f : n ≡ length bs = omega arith in
          ap (λ (j : ℕ). turned p (2 * b) ∷ numbers_from One (turned p (2 * b)) (symbols_from One 1 j bs)) f

  pub first_is : get_or words 0 0 ≡ first
  first_is = ap (λ (w : List ℕ). get_or w 0 0) cons_words

  -- from its own phase
  pub last_own : last_heard One first words ≡ last_heard One p words
  unfolding last_heard
  last_own = rw cons_words

  later : List ℕ
  later = numbers_from One first (symbols_from One 1 (length bs) bs)

  skip : (at : ℕ) → first_odd at (growths_of One first (first ∷ later)) ≡ first_odd (at + 11) (growths_of One first later)
  unfolding growths_of first_odd
  skip at =
      ap (λ (t : Bool). cond t (Some at) (first_odd (at + 11) (growths_of One first later)))
      (ne_eqb (grown_by first first % 2) 1 (still first))

  pub none_own : (at : ℕ) → first_odd at (growths_of One first words) ≡ None
  unfolding later
  none_own at =
      ap (λ (w : List ℕ). first_odd at (growths_of One first w)) cons_words
      ∙ skip at
      ∙ none_odd (at + 11) 1 first (length bs) bs (quarter p (2 * b))

  pub heard_own : (n : ℕ) → Below 2 (b ∷ bs) → length (b ∷ bs) ≡ 8 * n → heard One 0 first words ≡ 0 ∷ bs
  heard_own n h e =
      ap (heard One 0 first) cons_words
      ∙ (unfold heard heard_bits in
      ap₂ {C = List ℕ} (λ x y. x ∷ y) (zero_bit first)
      (heard_back One 1 first (length bs) bs (quarter p (2 * b)) (below_drop 1 h) (omega arith)))
