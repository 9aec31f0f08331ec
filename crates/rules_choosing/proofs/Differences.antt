-- How two CCK words stand to each other hangs on their phases' differences alone: the chips at which they agree and
-- those at which they are opposed are counted by the turns from one to the other.
--     difference, difference_below, difference_none    the difference of two numbers, and that of one number
--     cck_agreeing, cck_opposed                        the chips of two words, by their difference
-- Assumes nothing.
use mathlib.Core.Path.{◌≡◌, refl, sym, ap, ◌∙◌, subst}
use mathlib.Core.Bool.{Bool, true, false}
use mathlib.Core.List.{List, [], ◌∷◌, map}
use Prim.Native.Nat.{ℕ, ◌+◌, ◌*◌, ◌%◌, ◌<◌}
use native.Mathlib.Omega.{arith}
use lib.Dec.{T, eqb, eqb→eq}
use borrow.Author.Tests.{eq-eqb}
use Rattle.rules_chips.specs.Chips.{turned}
use Rattle.rules_symbols.specs.Words.{cck_word, cck_number, cck_of, p1_of, p2_of, p3_of, p4_of}
use Rattle.rules_symbols.proofs.Words.{turn}
use Rattle.rules_symbols.proofs.Numbers.{number_back, p1_back, p2_back, p3_back, p4_back, number_below}
use Rattle.rules_symbols.proofs.Agreement.{one, agreeing, opposed}

iff : (a b : Bool) → (T a → T b) → (T b → T a) → a ≡ b
iff true true f g = refl
iff true false f g = absurd (f tt)
iff false true f g = absurd (g tt)
iff false false f g = refl

pub is : (x y : ℕ) → x ≡ y → T (eqb x y)
is x y e = subst T (sym (eq-eqb x y e)) tt

-- ---- two words by the turns from one to the other
-- how far b is from a, in quarter turns
abbrev pub between : ℕ → ℕ → ℕ
between a b = (b + 3 * a) % 4

same_chip : (a b : ℕ) → eqb (a % 4) (b % 4) ≡ eqb (between a b) 0
same_chip a b =
    iff (eqb (a % 4) (b % 4)) (eqb (between a b) 0)
    (λ t. is (between a b) 0 (there (eqb→eq (a % 4) (b % 4) t)))
    (λ t. is (a % 4) (b % 4) (back (eqb→eq (between a b) 0 t)))
  where
    there : a % 4 ≡ b % 4 → between a b ≡ 0
    there e = omega arith

    back : between a b ≡ 0 → a % 4 ≡ b % 4
    back e = omega arith

half_chip : (a b : ℕ) → eqb (turned (a % 4) 2) (b % 4) ≡ eqb (between a b) 2
half_chip a b =
    iff (eqb (turned (a % 4) 2) (b % 4)) (eqb (between a b) 2)
    (λ t. is (between a b) 2 (there (eqb→eq (turned (a % 4) 2) (b % 4) t)))
    (λ t. is (turned (a % 4) 2) (b % 4) (back (eqb→eq (between a b) 2 t)))
  where
    there : turned (a % 4) 2 ≡ b % 4 → between a b ≡ 2
    there e = omega arith

    back : between a b ≡ 2 → turned (a % 4) 2 ≡ b % 4
    back e = omega arith

unfoldable turns : List ℕ → List ℕ → List ℕ
turns [] bs = []
turns (a ∷ xs) [] = []
turns (a ∷ xs) (b ∷ bs) = between a b ∷ turns xs bs

unfoldable pub how_many : ℕ → List ℕ → ℕ
how_many j [] = 0
how_many j (x ∷ xs) = one (eqb x j) + how_many j xs

abbrev phases : List ℕ → List ℕ
phases xs = map (λ a. a % 4) xs

agreeing_turns : (xs bs : List ℕ) → agreeing (phases xs) (phases bs) ≡ how_many 0 (turns xs bs)
unfolding agreeing turns how_many
agreeing_turns [] bs = refl
agreeing_turns (a ∷ xs) [] = refl
agreeing_turns (a ∷ xs) (b ∷ bs) = λ i. one (same_chip a b i) + agreeing_turns xs bs i

opposed_turns : (xs bs : List ℕ) → opposed (phases xs) (phases bs) ≡ how_many 2 (turns xs bs)
unfolding opposed turns how_many
opposed_turns [] bs = refl
opposed_turns (a ∷ xs) [] = refl
opposed_turns (a ∷ xs) (b ∷ bs) = λ i. one (half_chip a b i) + opposed_turns xs bs i

-- ---- the turns between two CCK words
-- a word's chips before they are taken modulo 4
abbrev sums : ℕ → ℕ → ℕ → ℕ → List ℕ
sums p1 p2 p3 p4 =
    (p1 + p2 + p3 + p4)
    ∷ (p1 + p3 + p4)
    ∷ (p1 + p2 + p4)
    ∷ (p1 + p4 + 2)
    ∷ (p1 + p2 + p3)
    ∷ (p1 + p3)
    ∷ (p1 + p2 + 2)
    ∷ p1
    ∷ []

cck_sums : (p1 p2 p3 p4 : ℕ) → cck_word p1 p2 p3 p4 ≡ phases (sums p1 p2 p3 p4)
unfolding cck_word
cck_sums p1 p2 p3 p4 = refl

-- those between words whose phases differ by so much: the two minus signs are gone
abbrev pub apart : ℕ → ℕ → ℕ → ℕ → List ℕ
apart d1 d2 d3 d4 =
    (d1 + d2 + d3 + d4) % 4
    ∷ (d1 + d3 + d4) % 4
    ∷ (d1 + d2 + d4) % 4
    ∷ (d1 + d4) % 4
    ∷ (d1 + d2 + d3) % 4
    ∷ (d1 + d3) % 4
    ∷ (d1 + d2) % 4
    ∷ d1 % 4
    ∷ []

two : (u v : ℕ) → (u + v) % 4 ≡ (u % 4 + v % 4) % 4
two u v = omega arith

more : (s t v : ℕ) → s % 4 ≡ t % 4 → (s + v) % 4 ≡ (t + v % 4) % 4
more s t v e = omega arith

three : (u v w : ℕ) → (u + v + w) % 4 ≡ (u % 4 + v % 4 + w % 4) % 4
three u v w = more (u + v) (u % 4 + v % 4) w (two u v)

four : (u v w x : ℕ) → (u + v + w + x) % 4 ≡ (u % 4 + v % 4 + w % 4 + x % 4) % 4
four u v w x = more (u + v + w) (u % 4 + v % 4 + w % 4) x (three u v w)

eight : (u v : ℕ) → (u + v + 8) % 4 ≡ (u % 4 + v % 4) % 4
eight u v = omega arith

once : (u : ℕ) → u % 4 ≡ u % 4 % 4
once u = omega arith

mod4 : {a b c : ℕ} → a ≡ b → b % 4 ≡ c → a % 4 ≡ c
mod4 {a} {b} {c} e f = ap (λ (x : ℕ). x % 4) e ∙ f

module _ (p1 p2 p3 p4 q1 q2 q3 q4 : ℕ) where
  abbrev u1 : ℕ
  u1 = q1 + 3 * p1

  abbrev u2 : ℕ
  u2 = q2 + 3 * p2

  abbrev u3 : ℕ
  u3 = q3 + 3 * p3

  abbrev u4 : ℕ
  u4 = q4 + 3 * p4

  c0 : between (p1 + p2 + p3 + p4) (q1 + q2 + q3 + q4) ≡ (u1 % 4 + u2 % 4 + u3 % 4 + u4 % 4) % 4
  c0 = mod4 {b = u1 + u2 + u3 + u4} (omega arith) (four u1 u2 u3 u4)

  c1 : between (p1 + p3 + p4) (q1 + q3 + q4) ≡ (u1 % 4 + u3 % 4 + u4 % 4) % 4
  c1 = mod4 {b = u1 + u3 + u4} (omega arith) (three u1 u3 u4)

  c2 : between (p1 + p2 + p4) (q1 + q2 + q4) ≡ (u1 % 4 + u2 % 4 + u4 % 4) % 4
  c2 = mod4 {b = u1 + u2 + u4} (omega arith) (three u1 u2 u4)

  c3 : between (p1 + p4 + 2) (q1 + q4 + 2) ≡ (u1 % 4 + u4 % 4) % 4
  c3 = mod4 {b = u1 + u4 + 8} (omega arith) (eight u1 u4)

  c4 : between (p1 + p2 + p3) (q1 + q2 + q3) ≡ (u1 % 4 + u2 % 4 + u3 % 4) % 4
  c4 = mod4 {b = u1 + u2 + u3} (omega arith) (three u1 u2 u3)

  c5 : between (p1 + p3) (q1 + q3) ≡ (u1 % 4 + u3 % 4) % 4
  c5 = mod4 {b = u1 + u3} (omega arith) (two u1 u3)

  c6 : between (p1 + p2 + 2) (q1 + q2 + 2) ≡ (u1 % 4 + u2 % 4) % 4
  c6 = mod4 {b = u1 + u2 + 8} (omega arith) (eight u1 u2)

  turns_apart : turns (sums p1 p2 p3 p4) (sums q1 q2 q3 q4) ≡ apart (u1 % 4) (u2 % 4) (u3 % 4) (u4 % 4)
  unfolding turns
  turns_apart = λ i. c0 i ∷ c1 i ∷ c2 i ∷ c3 i ∷ c4 i ∷ c5 i ∷ c6 i ∷ once u1 i ∷ []

-- the number of a difference, and the turns of a number
abbrev pub apart_of : ℕ → List ℕ
apart_of d = apart (p1_of d) (p2_of d) (p3_of d) (p4_of d)

module _ (n w : ℕ) where
  abbrev pub d1 : ℕ
  d1 = between (p1_of n) (p1_of w)

  abbrev pub d2 : ℕ
  d2 = between (p2_of n) (p2_of w)

  abbrev pub d3 : ℕ
  d3 = between (p3_of n) (p3_of w)

  abbrev pub d4 : ℕ
  d4 = between (p4_of n) (p4_of w)

  abbrev pub difference : ℕ
  difference = cck_number d1 d2 d3 d4

  pub difference_below : difference < 256
  difference_below = number_below d1 d2 d3 d4 (turn _) (turn _) (turn _) (turn _)

  cck_turns : turns (sums (p1_of n) (p2_of n) (p3_of n) (p4_of n)) (sums (p1_of w) (p2_of w) (p3_of w) (p4_of w))
      ≡ apart_of difference
  cck_turns =
      turns_apart (p1_of n) (p2_of n) (p3_of n) (p4_of n) (p1_of w) (p2_of w) (p3_of w) (p4_of w)
      ∙ (λ i. apart
      (sym (p1_back d1 d2 d3 d4 (turn _) (turn _) (turn _) (turn _)) i)
      (sym (p2_back d1 d2 d3 d4 (turn _) (turn _) (turn _) (turn _)) i)
      (sym (p3_back d1 d2 d3 d4 (turn _) (turn _) (turn _) (turn _)) i)
      (sym (p4_back d1 d2 d3 d4 (turn _) (turn _) (turn _) (turn _)) i))

  pub cck_agreeing : agreeing (cck_of n) (cck_of w) ≡ how_many 0 (apart_of difference)
  cck_agreeing =
      (λ i. agreeing (cck_sums (p1_of n) (p2_of n) (p3_of n) (p4_of n) i) (cck_sums (p1_of w) (p2_of w) (p3_of w) (p4_of w) i))
      ∙ agreeing_turns (sums (p1_of n) (p2_of n) (p3_of n) (p4_of n)) (sums (p1_of w) (p2_of w) (p3_of w) (p4_of w))
      ∙ ap (how_many 0) cck_turns

  pub cck_opposed : opposed (cck_of n) (cck_of w) ≡ how_many 2 (apart_of difference)
  cck_opposed =
      (λ i. opposed (cck_sums (p1_of n) (p2_of n) (p3_of n) (p4_of n) i) (cck_sums (p1_of w) (p2_of w) (p3_of w) (p4_of w) i))
      ∙ opposed_turns (sums (p1_of n) (p2_of n) (p3_of n) (p4_of n)) (sums (p1_of w) (p2_of w) (p3_of w) (p4_of w))
      ∙ ap (how_many 2) cck_turns

  -- words that do not differ are one
  pub difference_none : n < 256 → w < 256 → difference ≡ 0 → n ≡ w
  difference_none hn hw e =
      sym (number_back n hn)
      ∙ (λ i. cck_number
      (alike (p1_of n) (p1_of w) (turn _) (turn _) none.0 i)
      (alike (p2_of n) (p2_of w) (turn _) (turn _) none.1 i)
      (alike (p3_of n) (p3_of w) (turn _) (turn _) none.2 i)
      (alike (p4_of n) (p4_of w) (turn _) (turn _) none.3 i))
      ∙ number_back w hw
    where
      zeros : (a b c d : ℕ) → cck_number a b c d ≡ 0 → (a ≡ 0) × (b ≡ 0) × (c ≡ 0) × (d ≡ 0)
      zeros a b c d z = (omega arith, omega arith, omega arith, omega arith)

      none : (d1 ≡ 0) × (d2 ≡ 0) × (d3 ≡ 0) × (d4 ≡ 0)
      none = zeros d1 d2 d3 d4 e

      alike : (p q : ℕ) → p < 4 → q < 4 → between p q ≡ 0 → p ≡ q
      alike p q hp hq z = omega arith
