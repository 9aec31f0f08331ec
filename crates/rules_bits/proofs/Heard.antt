-- What is sent is heard: symbols are words by their numbers, and from the numbers the bits come back.
--     number_lt, number_allowed, number_word, number_phase     a symbol's word by its number, at its rate
--     chips_words, last_number                                 chips and last phase of symbols, by numbers
--     heard_symbol, heard_back                                 a symbol's bits from its word, all bits from all words
--     heard_append, growths_of_append, last_heard_append         words after words
--     heard_row, heard_length, heard_below, heard_parity       as many, and bits; a word's number counts modulo 2
--     heard_at, growth_at_lem                                      one bit of 1 Mbit/s, one growth, by two words
-- A growth is taken off modulo 4, and a number's phases are its digits. Assumes nothing.
use mathlib.Core.Path.{◌≡◌, refl, sym, ap, ap₂, ◌∙◌}
use mathlib.Core.Bool.{true}
use mathlib.Core.List.{List, [], ◌∷◌, ◌++◌, append_assoc}
use Prim.Native.Nat.{ℕ, zero, suc, ◌+◌, ◌*◌, ◌/◌, ◌%◌, ◌<◌}
use native.Mathlib.Nat.{add-zero, suc-add, add-suc, suc-mul, zero-mul, mul-zero, mul-suc}
use native.Mathlib.Omega.{arith}
use borrow.Author.Tests.{eq-eqb}
use lib.ListN.{length, get_or, take, drop, take-append-drop, length-append, length-drop}
use lib.Seq.{length-take-le}
use Rattle.base.specs.Tables.{tabulate}
use Rattle.base.proofs.Tables.{as_table}
use Rattle.rules_rates.specs.declared.Rate.{Rate}
use Rattle.rules_rates.specs.declared.Rate.TheVariants.{One, Two, Five, Eleven}
use Rattle.rules_rates.specs.Rates.{symbol_bits}
use Rattle.rules_chips.specs.Chips.{turned}
use Rattle.rules_symbols.specs.Words.{cck_number, p1_of, p2_of, p3_of, p4_of, word_of, phase_of}
use Rattle.rules_symbols.specs.Choice.{numbers, is_allowed}
use Rattle.rules_bits.specs.Growths.{
  growth,
  growth_bits,
  direct_bits,
  direct,
  half_turn,
  grown_by,
  Symbol,
  symbol_of,
  symbols_from,
  symbol_word,
  chips_from,
  last_phase,
  heard_bits,
  heard,
  growths_of,
  last_heard,
}
use Rattle.rules_symbols.proofs.Numbers.{number_below, p1_back, p2_back, p3_back, p4_back, cck_of_number}
use Rattle.base.specs.Below.{Below}
use Rattle.rules_bits.specs.Code.{Proper, symbol_number, numbers_from, words_chips}
use Rattle.base.proofs.Below.{below_nil, below_cons, below_append, below_take, below_drop}
use Rattle.rules_bits.proofs.Growths.{growth_lt, growth_bits_lem}

module _ (q : ℕ) (s : Symbol) (l : q < 4) (h : Proper s) where
  pub number_phase : (r : Rate) → phase_of r (symbol_number r q s) ≡ q
  number_phase One = refl
  number_phase Two = refl
  number_phase Five = p1_back q s.p2 s.p3 s.p4 l h.second h.third h.fourth
  number_phase Eleven = p1_back q s.p2 s.p3 s.p4 l h.second h.third h.fourth

  pub number_word : (r : Rate) → word_of r (symbol_number r q s) ≡ symbol_word r q s
  number_word One = refl
  number_word Two = refl
  number_word Five = cck_of_number q s.p2 s.p3 s.p4 l h.second h.third h.fourth
  number_word Eleven = cck_of_number q s.p2 s.p3 s.p4 l h.second h.third h.fourth

  pub number_lt : (r : Rate) → symbol_number r q s < numbers r
  number_lt One = l
  number_lt Two = l
  number_lt Five = number_below q s.p2 s.p3 s.p4 l h.second h.third h.fourth
  number_lt Eleven = number_below q s.p2 s.p3 s.p4 l h.second h.third h.fourth

-- ---- a symbol of bits

pub symbol_proper : (r : Rate) (k : ℕ) (d : List ℕ) → Below 2 d → Proper (symbol_of r k d)
unfolding symbol_of
symbol_proper One k d h = record { second = omega arith; third = omega arith; fourth = omega arith }
symbol_proper Two k d h = record { second = omega arith; third = omega arith; fourth = omega arith }
symbol_proper Five k d h =
    record { second = omega (arith, h.at 2); third = omega arith; fourth = omega (arith, h.at 3) }
symbol_proper Eleven k d h =
    record {
      second = omega (arith, h.at 2, h.at 3);
      third = omega (arith, h.at 4, h.at 5);
      fourth = omega (arith, h.at 6, h.at 7);
    }

-- the words of symbols of bits are allowed
pub number_allowed : (r : Rate) (k q : ℕ) (d : List ℕ) → q < 4 → Below 2 d
    → is_allowed r (symbol_number r q (symbol_of r k d)) ≡ true
unfolding symbol_of
number_allowed One k q d l h = refl
number_allowed Two k q d l h = refl
number_allowed Five k q d l h =
    let a = h.at 2 in
    let b = h.at 3 in
    rw (
      eq-eqb _ 0 (p3_back q (2 * get_or d 2 0 + 1) 0 (2 * get_or d 3 0) l (omega arith) (omega arith) (omega arith)),
      p2_back q (2 * get_or d 2 0 + 1) 0 (2 * get_or d 3 0) l (omega arith) (omega arith) (omega arith),
      p4_back q (2 * get_or d 2 0 + 1) 0 (2 * get_or d 3 0) l (omega arith) (omega arith) (omega arith),
      eq-eqb _ 1 (odd (get_or d 2 0)),
      eq-eqb _ 0 (even (get_or d 3 0)),
    )
  where
    odd : (a : ℕ) → (2 * a + 1) % 2 ≡ 1
    odd a = omega arith

    even : (a : ℕ) → 2 * a % 2 ≡ 0
    even a = omega arith
number_allowed Eleven k q d l h = refl

-- a growth is heard, and the half turn of odd symbols is taken off
grew : (p g : ℕ) → p < 4 → g < 4 → grown_by p (turned p g) ≡ g
grew p g h k = omega arith

grew_odd : (p g k : ℕ) → p < 4 → g < 4 → grown_by (turned p (half_turn k)) (turned p (g + half_turn k)) ≡ g
grew_odd p g k h l = omega arith

one_bit : (p a : ℕ) → p < 4 → a < 2 → grown_by p (turned p (2 * a)) / 2 ≡ a
one_bit p a l h = ap (λ (g : ℕ). g / 2) (grew p (2 * a) l (omega arith)) ∙ half a
  where
    half : (a : ℕ) → 2 * a / 2 ≡ a
    half a = omega arith

two_bits_lem : (p a b : ℕ) → p < 4 → a < 2 → b < 2 → growth_bits (grown_by p (turned p (growth a b))) ≡ a ∷ b ∷ []
two_bits_lem p a b l h k = ap growth_bits (grew p (growth a b) l (growth_lt a b h k)) ∙ growth_bits_lem a b h k

two_odd : (p a b e : ℕ) → p < 4 → a < 2 → b < 2
    → growth_bits (grown_by (turned p (half_turn e)) (turned p (growth a b + half_turn e))) ≡ a ∷ b ∷ []
two_odd p a b e l h k = ap growth_bits (grew_odd p (growth a b) e l (growth_lt a b h k)) ∙ growth_bits_lem a b h k

direct_bits_lem : (a b : ℕ) → b < 2 → direct_bits (direct a b) ≡ a ∷ b ∷ []
direct_bits_lem a b h = ap₂ {C = List ℕ} (λ x y. x ∷ y ∷ []) (high a b h) (low a b h)
  where
    high : (a b : ℕ) → b < 2 → (2 * a + b) / 2 ≡ a
    high a b h = omega arith

    low : (a b : ℕ) → b < 2 → (2 * a + b) % 2 ≡ b
    low a b h = omega arith

-- the four bits of a 5.5 symbol and the eight of an 11 symbol, from the digits of its word's number
heard_five : (k p a b c d : ℕ) → p < 4 → a < 2 → b < 2 → c < 2 → d < 2
    → heard_bits Five k p (cck_number (turned p (growth a b + half_turn k)) (2 * c + 1) 0 (2 * d)) ≡ a ∷ b ∷ c ∷ d ∷ []
unfolding heard_bits
heard_five k p a b c d l ha hb hc hd =
    let q = turned p (growth a b + half_turn k) in
    rw (
      p1_back q (2 * c + 1) 0 (2 * d) (omega arith) (omega arith) (omega arith) (omega arith),
      p2_back q (2 * c + 1) 0 (2 * d) (omega arith) (omega arith) (omega arith) (omega arith),
      p4_back q (2 * c + 1) 0 (2 * d) (omega arith) (omega arith) (omega arith) (omega arith),
    )
    (ap₂ {C = List ℕ} (λ y z. y ++ z) (two_odd p a b k l ha hb)
    (ap₂ {C = List ℕ} (λ y z. y ∷ z ∷ []) (odd_half c) (half d)))
  where
    odd_half : (a : ℕ) → (2 * a + 1) / 2 ≡ a
    odd_half a = omega arith

    half : (a : ℕ) → 2 * a / 2 ≡ a
    half a = omega arith

heard_eleven : (k p a b c d e f g h : ℕ) → p < 4 → a < 2 → b < 2 → c < 2 → d < 2 → e < 2 → f < 2 → g < 2 → h < 2
    → heard_bits Eleven k p (cck_number (turned p (growth a b + half_turn k)) (direct c d) (direct e f) (direct g h))
    ≡ a ∷ b ∷ c ∷ d ∷ e ∷ f ∷ g ∷ h ∷ []
unfolding heard_bits
heard_eleven k p a b c d e f g h l ha hb hc hd he hf hg hh =
    let q = turned p (growth a b + half_turn k) in
    rw (
      p1_back q (direct c d) (direct e f) (direct g h) (omega arith) (omega arith) (omega arith) (omega arith),
      p2_back q (direct c d) (direct e f) (direct g h) (omega arith) (omega arith) (omega arith) (omega arith),
      p3_back q (direct c d) (direct e f) (direct g h) (omega arith) (omega arith) (omega arith) (omega arith),
      p4_back q (direct c d) (direct e f) (direct g h) (omega arith) (omega arith) (omega arith) (omega arith),
    )
    (ap₂ {C = List ℕ} (λ y z. y ++ z) (two_odd p a b k l ha hb)
    (ap₂ {C = List ℕ} (λ y z. y ++ z) (direct_bits_lem c d hd)
    (ap₂ {C = List ℕ} (λ y z. y ++ z) (direct_bits_lem e f hf) (direct_bits_lem g h hh))))

-- a symbol's bits are heard from its word
pub heard_symbol : (r : Rate) (k p : ℕ) (d : List ℕ) → p < 4 → Below 2 d → length d ≡ symbol_bits r
    → heard_bits r k p (symbol_number r (turned p (symbol_of r k d).grows) (symbol_of r k d)) ≡ d
unfolding symbol_of tabulate
heard_symbol One k p d l h e =
    unfold heard_bits in (ap {B = List ℕ} (λ y. y ∷ []) (one_bit p (get_or d 0 0) l (h.at 0)) ∙ sym (as_table d 1 0 e))
heard_symbol Two k p d l h e =
    unfold heard_bits in (two_bits_lem p (get_or d 0 0) (get_or d 1 0) l (h.at 0) (h.at 1) ∙ sym (as_table d 2 0 e))
heard_symbol Five k p d l h e =
    heard_five k p (get_or d 0 0) (get_or d 1 0) (get_or d 2 0) (get_or d 3 0) l (h.at 0) (h.at 1) (h.at 2) (h.at 3)
    ∙ sym (as_table d 4 0 e)
heard_symbol Eleven k p d l h e =
    heard_eleven k p (get_or d 0 0) (get_or d 1 0) (get_or d 2 0) (get_or d 3 0) (get_or d 4 0) (get_or d 5 0) (get_or d 6 0)
    (get_or d 7 0) l (h.at 0) (h.at 1) (h.at 2) (h.at 3) (h.at 4) (h.at 5) (h.at 6) (h.at 7)
    ∙ sym (as_table d 8 0 e)

-- ---- all the symbols of bits

step_cons : (r : Rate) (k p m : ℕ) (bs : List ℕ)
    → (let s = symbol_of r k (take (symbol_bits r) bs) in
    let q = turned p s.grows in
    numbers_from r p (symbols_from r k (suc m) bs)
    ≡ symbol_number r q s ∷ numbers_from r q (symbols_from r (suc k) m (drop (symbol_bits r) bs)))
unfolding numbers_from symbols_from
step_cons r k p m bs = refl

pub heard_back : (r : Rate) (k p m : ℕ) (bs : List ℕ) → p < 4 → Below 2 bs → length bs ≡ m * symbol_bits r
    → heard r k p (numbers_from r p (symbols_from r k m bs)) ≡ bs
heard_back r k p zero [] l h e = unfold symbols_from numbers_from heard in refl
heard_back r k p zero (b ∷ bs) l h e = absurd (omega (arith, zero-mul (symbol_bits r)))
heard_back r k p (suc m) bs l h e =
    let n = symbol_bits r in
    let many : length bs ≡ m * n + n = e ∙ suc-mul m n in
    let d = take n bs in
    let s = symbol_of r k d in
    let q = turned p s.grows in
    let long : length d ≡ n = length-take-le n bs (omega arith) in
    let rest : heard r (suc k) q (numbers_from r q (symbols_from r (suc k) m (drop n bs))) ≡ drop n bs =
    heard_back r (suc k) q m (drop n bs) (omega arith) (below_drop n h) (length-drop n bs ∙ omega arith) in
    rw (step_cons r k p m bs, heard_cons, number_phase q s (omega arith) (symbol_proper r k d (below_take n h)) r)
    (ap₂ {C = List ℕ} (λ y z. y ++ z) (heard_symbol r k p d l (below_take n h) long) rest ∙ take-append-drop n bs)
  where
    heard_cons : (r : Rate) (k p n : ℕ) (ns : List ℕ)
        → heard r k p (n ∷ ns) ≡ heard_bits r k p n ++ heard r (suc k) (phase_of r n) ns
    heard_cons r k p n ns = unfold heard in refl

pub chips_words : (r : Rate) (k p m : ℕ) (bs : List ℕ) → Below 2 bs
    → chips_from r p (symbols_from r k m bs) ≡ words_chips r (numbers_from r p (symbols_from r k m bs))
unfolding chips_from numbers_from words_chips symbols_from
chips_words r k p zero bs h = refl
chips_words r k p (suc m) bs h =
    let d = take (symbol_bits r) bs in
    let s = symbol_of r k d in
    let q = turned p s.grows in
    ap₂ {C = List ℕ} (λ y z. y ++ z)
    (sym (number_word q s (omega arith) (symbol_proper r k d (below_take (symbol_bits r) h)) r))
    (chips_words r (suc k) q m (drop (symbol_bits r) bs) (below_drop (symbol_bits r) h))

pub last_number : (r : Rate) (k p m : ℕ) (bs : List ℕ) → Below 2 bs
    → last_heard r p (numbers_from r p (symbols_from r k m bs)) ≡ last_phase p (symbols_from r k m bs)
unfolding last_heard last_phase numbers_from symbols_from
last_number r k p zero bs h = refl
last_number r k p (suc m) bs h =
    let d = take (symbol_bits r) bs in
    let s = symbol_of r k d in
    let q = turned p s.grows in
    let rest = symbols_from r (suc k) m (drop (symbol_bits r) bs) in
    ap (λ (x : ℕ). last_heard r x (numbers_from r q rest))
    (number_phase q s (omega arith) (symbol_proper r k d (below_take (symbol_bits r) h)) r)
    ∙ last_number r (suc k) q m (drop (symbol_bits r) bs) (below_drop (symbol_bits r) h)

-- ---- words after words

pub heard_append : (r : Rate) (k p : ℕ) (a b : List ℕ)
    → heard r k p (a ++ b) ≡ heard r k p a ++ heard r (k + length a) (last_heard r p a) b
unfolding heard last_heard
heard_append r k p [] b = rw add-zero
heard_append r k p (n ∷ a) b =
    rw (heard_append r (suc k) (phase_of r n) a b, append_assoc, suc-add k (length a), add-suc k (length a))

pub growths_of_append : (r : Rate) (p : ℕ) (a b : List ℕ)
    → growths_of r p (a ++ b) ≡ growths_of r p a ++ growths_of r (last_heard r p a) b
unfolding growths_of last_heard
growths_of_append r p [] b = refl
growths_of_append r p (n ∷ a) b =
    ap {B = List ℕ} (λ l. grown_by p (phase_of r n) ∷ l) (growths_of_append r (phase_of r n) a b)

pub last_heard_append : (r : Rate) (p : ℕ) (a b : List ℕ) → last_heard r p (a ++ b) ≡ last_heard r (last_heard r p a) b
unfolding last_heard
last_heard_append r p [] b = refl
last_heard_append r p (n ∷ a) b = last_heard_append r (phase_of r n) a b

pub growths_of_length : (r : Rate) (p : ℕ) (ns : List ℕ) → length (growths_of r p ns) ≡ length ns
unfolding growths_of
growths_of_length r p [] = refl
growths_of_length r p (n ∷ ns) = ap suc (growths_of_length r (phase_of r n) ns)

-- ---- as many bits as the rate carries; a word's number counts modulo 2

growth_row : (g : ℕ) → g < 4 → (length (growth_bits g) ≡ 2) × Below 2 (growth_bits g)
growth_row zero h = (refl, below_cons (omega arith) (below_cons (omega arith) (below_nil 2 (omega arith))))
growth_row (suc zero) h = (refl, below_cons (omega arith) (below_cons (omega arith) (below_nil 2 (omega arith))))
growth_row (suc (suc zero)) h = (refl, below_cons (omega arith) (below_cons (omega arith) (below_nil 2 (omega arith))))
growth_row (suc (suc (suc zero))) h =
    (refl, below_cons (omega arith) (below_cons (omega arith) (below_nil 2 (omega arith))))
growth_row (suc (suc (suc (suc g)))) h = absurd (omega arith)

direct_row : (p : ℕ) → p < 4 → Below 2 (direct_bits p)
direct_row p h = below_cons (omega arith) (below_cons (omega arith) (below_nil 2 (omega arith)))

-- the bits of one word: as many as the rate carries, each below 2
pub heard_row : (r : Rate) (k p n : ℕ) → (length (heard_bits r k p n) ≡ symbol_bits r) × Below 2 (heard_bits r k p n)
unfolding heard_bits
heard_row One k p n = (refl, below_cons (omega arith) (below_nil 2 (omega arith)))
heard_row Two k p n = growth_row (grown_by p n) (omega arith)
heard_row Five k p n =
    let g = growth_row (grown_by (turned p (half_turn k)) (p1_of n)) (omega arith) in (
      length-append (growth_bits (grown_by (turned p (half_turn k)) (p1_of n))) _ ∙ ap (λ (x : ℕ). x + 2) g.0,
      below_append g.1 (below_cons (omega arith) (below_cons (omega arith) (below_nil 2 (omega arith)))),
    )
heard_row Eleven k p n =
    let g = growth_row (grown_by (turned p (half_turn k)) (p1_of n)) (omega arith) in (
      length-append (growth_bits (grown_by (turned p (half_turn k)) (p1_of n))) _ ∙ ap (λ (x : ℕ). x + 6) g.0,
      below_append g.1
          (below_append (direct_row (p2_of n) (omega arith))
          (below_append (direct_row (p3_of n) (omega arith)) (direct_row (p4_of n) (omega arith)))),
    )

pub heard_length : (r : Rate) (k p : ℕ) (ns : List ℕ) → length (heard r k p ns) ≡ symbol_bits r * length ns
unfolding heard
heard_length r k p [] = sym (mul-zero (symbol_bits r))
heard_length r k p (n ∷ ns) =
    length-append (heard_bits r k p n) (heard r (suc k) (phase_of r n) ns)
    ∙ omega (arith, (heard_row r k p n).0, heard_length r (suc k) (phase_of r n) ns, mul-suc (symbol_bits r) (length ns))

pub heard_below : (r : Rate) (k p : ℕ) (ns : List ℕ) → Below 2 (heard r k p ns)
unfolding heard
heard_below r k p [] = below_nil 2 (omega arith)
heard_below r k p (n ∷ ns) = below_append (heard_row r k p n).1 (heard_below r (suc k) (phase_of r n) ns)

bits_parity : (r : Rate) (j k p n : ℕ) → j % 2 ≡ k % 2 → heard_bits r j p n ≡ heard_bits r k p n
unfolding heard_bits
bits_parity One j k p n e = refl
bits_parity Two j k p n e = refl
bits_parity Five j k p n e = rw e
bits_parity Eleven j k p n e = rw e

pub heard_parity : (r : Rate) (j k p : ℕ) (ns : List ℕ) → j % 2 ≡ k % 2 → heard r j p ns ≡ heard r k p ns
unfolding heard
heard_parity r j k p [] e = refl
heard_parity r j k p (n ∷ ns) e =
    ap₂ {C = List ℕ} (λ y z. y ++ z) (bits_parity r j k p n e)
    (heard_parity r (suc j) (suc k) (phase_of r n) ns (omega arith))

pub numbers_from_length : (r : Rate) (p : ℕ) (ss : List Symbol) → length (numbers_from r p ss) ≡ length ss
unfolding numbers_from
numbers_from_length r p [] = refl
numbers_from_length r p (s ∷ ss) = ap suc (numbers_from_length r (turned p s.grows) ss)

-- the bit of a word of 1 Mbit/s behind the first, by how far it grew from the word before it
pub heard_at : (k p : ℕ) (ns : List ℕ) (n : ℕ) → n + 1 < length ns
    → get_or (heard One k p ns) (n + 1) 0 ≡ grown_by (get_or ns n 0) (get_or ns (n + 1) 0) / 2
unfolding heard heard_bits
heard_at k p [] n h = absurd (omega arith)
heard_at k p (a ∷ []) n h = absurd (omega arith)
heard_at k p (a ∷ b ∷ ns) zero h = refl
heard_at k p (a ∷ b ∷ ns) (suc n) h =
    let e : suc n + 1 ≡ suc (n + 1) = omega arith in
    rw e (heard_at (suc k) a (b ∷ ns) n (omega arith))

-- and how far it grew
pub growth_at_lem : (p : ℕ) (ns : List ℕ) (n : ℕ) → n + 1 < length ns
    → get_or (growths_of One p ns) (n + 1) 0 ≡ grown_by (get_or ns n 0) (get_or ns (n + 1) 0)
unfolding growths_of
growth_at_lem p [] n h = absurd (omega arith)
growth_at_lem p (a ∷ []) n h = absurd (omega arith)
growth_at_lem p (a ∷ b ∷ ns) zero h = refl
growth_at_lem p (a ∷ b ∷ ns) (suc n) h =
    let e : suc n + 1 ≡ suc (n + 1) = omega arith in
    rw e (growth_at_lem a (b ∷ ns) n (omega arith))
