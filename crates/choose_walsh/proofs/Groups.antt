-- The two keys that a last butterfly comes to: of word m, p1 being m / 4 and p2 m % 4, the key is the magnitude of its
-- sum and 11 - m. `top_of` and 11 more is the largest of the eight. `next_of` and 11 more is the key of another one, and
-- by scores, which are sixteenths of keys, no other one is above it: the word that loses to the winner by the sign of
-- what is added to y is behind another one, as the smaller of |y + x| and |y - x| is not above |y| or not above |x|.
--     Raised       the sums are 16 times scores, and 4 more
--     two_keys     the two keys, lifted by 11
--     top_above    top_of is not below 0
-- Assumes nothing.
use mathlib.Core.Path.{◌≡◌, refl, sym, ap, ◌∙◌}
use mathlib.Core.Bool.{◌&&◌, not}
use mathlib.Core.Logic.{◌⊎◌, inl, inr, ⊎_elim}
use Prim.Native.Nat.{ℕ, ◌+◌, ◌*◌, ◌-◌, ◌/◌, ◌%◌, ◌≤◌, ◌<◌}
use native.Mathlib.Decide.{dec_lt}
use native.Mathlib.Omega.{arith}
use borrow.Author.Tests.{eq-eqb}
use lib.Dec.{T, lit<, ltb, eqb, ltb→lt, eqb→eq}
use lib.IntN.{ℤ, pos, neg_ℤ, nat_abs, ◌+ℤ◌, ◌-ℤ◌, ◌*ℤ◌, neg_ℤ-neg_ℤ}
use lib.Signed.{◌≤ℤ◌}
use Rattle.base.specs.Whole.{up, dn}
use Rattle.base.proofs.Whole.{add, neg_up, neg_dn, up_pos, dn_pos, le_of}
use Rattle.base.proofs.Tests.{both_left, both_right}
use Rattle.rules_chips.specs.declared.Counts.{Counts}
use Rattle.rules_symbols.specs.Choice.{term}
use Rattle.rules_choosing.specs.Keys.{bigger, lesser, Largest}
use Rattle.base.proofs.Adding.{times_up, times_dn}
use Rattle.rules_choosing.proofs.Clean.{phase}
use Rattle.choose_walsh.specs.Turns.{fly, four_top, four_next, top_of, next_of}
use Rattle.choose_walsh.proofs.Tops.{
  Lifted,
  lifted_move,
  lifted_add,
  lifted_larger,
  lifted_smaller,
  low,
  high,
  eight_largest,
  duel,
  next_key,
  in_duel,
  duel_top,
  over_next,
  under_next,
  bigger_least,
  sides,
  two_lifted,
}

-- ---- four words: y + a and y - a, y + b and y - b
module _ (c : ℕ) (y a b : ℤ) (ne : y ≡ pos 0 → ⊥) where
  abbrev with_a : ℕ
  with_a = bigger (nat_abs (y +ℤ a) + (c + 1 + 2)) (nat_abs (y -ℤ a) + (c + 1))

  abbrev with_b : ℕ
  with_b = bigger (nat_abs (y +ℤ b) + (c + 2)) (nat_abs (y -ℤ b) + c)

  four_lifted : Lifted (c + 1 + 2) (bigger with_a with_b) (four_top y a b)
  unfolding four_top
  four_lifted =
      lifted_add (nat_abs y)
      (lifted_larger (two_lifted (c + 1) y a ne) (lifted_move 1 _ (omega arith) (two_lifted c y b ne)))

  four_lifted_next : Lifted (c + 1 + 2) (lesser with_a with_b) (four_next y a b)
  unfolding four_next
  four_lifted_next =
      lifted_add (nat_abs y)
      (lifted_smaller (two_lifted (c + 1) y a ne) (lifted_move 1 _ (omega arith) (two_lifted c y b ne)))

-- ---- magnitudes of sums and differences
module _ (y x : ℤ) where
  plus : up (y +ℤ x) + (dn y + dn x) ≡ dn (y +ℤ x) + (up y + up x)
  plus = add y x

  minus : up (y -ℤ x) + (dn y + up x) ≡ dn (y -ℤ x) + (up y + dn x)
  minus = omega (arith, add y (neg_ℤ x), neg_up x, neg_dn x)

  -- the smaller is not above one of the two
  low_of : (P : Type 0) → (nat_abs (y +ℤ x) ≤ nat_abs y → P) → (nat_abs (y -ℤ x) ≤ nat_abs y → P)
      → (nat_abs (y +ℤ x) ≤ nat_abs x → P) → (nat_abs (y -ℤ x) ≤ nat_abs x → P) → P
  low_of P f g h k =
      ⊎_elim
      (λ a. ⊎_elim
      (λ b. ⊎_elim (λ c. g (omega (arith, minus))) (λ c. k (omega (arith, minus))) (sides (y -ℤ x)))
      (λ b. ⊎_elim (λ c. f (omega (arith, plus))) (λ c. h (omega (arith, plus))) (sides (y +ℤ x))) (sides x))
      (λ a. ⊎_elim
      (λ b. ⊎_elim (λ c. h (omega (arith, plus))) (λ c. f (omega (arith, plus))) (sides (y +ℤ x)))
      (λ b. ⊎_elim (λ c. k (omega (arith, minus))) (λ c. g (omega (arith, minus))) (sides (y -ℤ x))) (sides x))
      (sides y)

  parts : (z : ℤ) → (up z ≤ nat_abs z) × (dn z ≤ nat_abs z)
  parts z = ⊎_elim (λ a. (omega arith, omega arith)) (λ a. (omega arith, omega arith)) (sides z)

  -- and the larger not below either
  high_of : (P : Type 0) → (nat_abs y ≤ nat_abs (y +ℤ x) → P) → (nat_abs y ≤ nat_abs (y -ℤ x) → P) → P
  high_of P f g = by (dec_lt (nat_abs (y +ℤ x)) (nat_abs y))
    where
      by : Dec (nat_abs (y +ℤ x) < nat_abs y) → P
      by (yes q) = g (⊎_elim (λ a. omega (arith, plus, minus, parts (y +ℤ x), parts (y -ℤ x)))
          (λ a. omega (arith, plus, minus, parts (y +ℤ x), parts (y -ℤ x))) (sides y))
      by (no q) = f (omega arith)

  high_of_x : (P : Type 0) → (nat_abs x ≤ nat_abs (y +ℤ x) → P) → (nat_abs x ≤ nat_abs (y -ℤ x) → P) → P
  high_of_x P f g = by (dec_lt (nat_abs (y +ℤ x)) (nat_abs x))
    where
      by : Dec (nat_abs (y +ℤ x) < nat_abs x) → P
      by (yes q) = g (⊎_elim (λ a. omega (arith, plus, minus, parts (y +ℤ x), parts (y -ℤ x)))
          (λ a. omega (arith, plus, minus, parts (y +ℤ x), parts (y -ℤ x))) (sides x))
      by (no q) = f (omega arith)

-- so with another x, or another y
little_by : (P : Type 0) (y x z w : ℤ) → (nat_abs (y +ℤ x) ≤ nat_abs (y +ℤ z) → P)
    → (nat_abs (y +ℤ x) ≤ nat_abs (y -ℤ z) → P) → (nat_abs (y -ℤ x) ≤ nat_abs (y +ℤ z) → P)
    → (nat_abs (y -ℤ x) ≤ nat_abs (y -ℤ z) → P) → (nat_abs (y +ℤ x) ≤ nat_abs (w +ℤ x) → P)
    → (nat_abs (y +ℤ x) ≤ nat_abs (w -ℤ x) → P) → (nat_abs (y -ℤ x) ≤ nat_abs (w +ℤ x) → P)
    → (nat_abs (y -ℤ x) ≤ nat_abs (w -ℤ x) → P) → P
little_by P y x z w f0 f1 f2 f3 f4 f5 f6 f7 =
    low_of y x P (λ h. high_of y z P (λ g. f0 (omega arith)) (λ g. f1 (omega arith)))
    (λ h. high_of y z P (λ g. f2 (omega arith)) (λ g. f3 (omega arith)))
    (λ h. high_of_x w x P (λ g. f4 (omega arith)) (λ g. f5 (omega arith)))
    (λ h. high_of_x w x P (λ g. f6 (omega arith)) (λ g. f7 (omega arith)))

-- of three words of the same two, two are the same
fours : (a c : ℕ) → 2 * (a / 4) + a % 2 ≡ 2 * (c / 4) + c % 2 → a / 4 ≡ c / 4
fours a c e = omega arith

ones : (a c : ℕ) → 2 * (a / 4) + a % 2 ≡ 2 * (c / 4) + c % 2 → a % 2 ≡ c % 2
ones a c e = omega arith

two_more : (a c : ℕ) → a / 4 ≡ c / 4 → a % 2 ≡ c % 2 → c < a → a ≡ c + 2
two_more a c q r l = omega arith

two_apart : (a c : ℕ) → 2 * (a / 4) + a % 2 ≡ 2 * (c / 4) + c % 2 → (a ≡ c → ⊥) → (a ≡ c + 2) ⊎ (c ≡ a + 2)
two_apart a c e d = by (dec_lt c a) (dec_lt a c)
  where
    by : Dec (c < a) → Dec (a < c) → (a ≡ c + 2) ⊎ (c ≡ a + 2)
    by (yes l) o = inl (two_more a c (fours a c e) (ones a c e) l)
    by (no l) (yes o) = inr (two_more c a (sym (fours a c e)) (sym (ones a c e)) o)
    by (no l) (no o) = absurd (d (omega (arith, l, o)))

four_apart : (m n c : ℕ) → m / 4 ≡ c / 4 → n / 4 ≡ c / 4 → m ≡ c + 2 → c ≡ n + 2 → ⊥
four_apart m n c q r x y = omega arith

one_of_two : (a b c : ℕ) → a < 8 → b < 8 → c < 8 → 2 * (a / 4) + a % 2 ≡ 2 * (c / 4) + c % 2
    → 2 * (b / 4) + b % 2 ≡ 2 * (c / 4) + c % 2 → (a ≡ b → ⊥) → (b ≡ c → ⊥) → a ≡ c
one_of_two a b c ha hb hc e f g k = by (dec_lt a c) (dec_lt c a)
  where
    absurdly : (a ≡ c → ⊥) → a ≡ c
    absurdly d =
        ⊎_elim
        (λ x. ⊎_elim (λ y. absurd (g (x ∙ sym y)))
        (λ y. absurd (four_apart a b c (fours a c e) (fours b c f) x y)) (two_apart b c f k))
        (λ x. ⊎_elim (λ y. absurd (four_apart b a c (fours b c f) (fours a c e) y x))
        (λ y. absurd (g (next a b x y))) (two_apart b c f k))
        (two_apart a c e d)
      where
        next : (m n : ℕ) → c ≡ m + 2 → c ≡ n + 2 → m ≡ n
        next m n x y = omega (arith, x, y)

    by : Dec (a < c) → Dec (c < a) → a ≡ c
    by (yes l) o = absurdly (λ q. omega arith)
    by (no l) (yes o) = absurdly (λ q. omega arith)
    by (no l) (no o) = omega arith

-- ---- a last butterfly
module _ (y x : Counts) where
  -- the sum of word m with p1 = 0 or 1, and its key
  abbrev pub sum_of : ℕ → ℤ
  sum_of m = term (m / 4) (fly y x (m % 4))

  abbrev pub key_in : ℕ → ℕ
  key_in m = nat_abs (sum_of m) + (11 - m)

  -- the two that a word is of
  abbrev two_of : ℕ → ℕ
  two_of m = 2 * (m / 4) + m % 2

  -- c is one of two, e is none, and the sum of c is not the larger
  record Little (i : ℕ) : Type 0 where
    c : ℕ
    e : ℕ
    to_c : c < 8
    to_e : e < 8
    here : two_of c ≡ i
    there : two_of e ≡ i → ⊥
    le : nat_abs (sum_of c) ≤ nat_abs (sum_of e)

  mk : (i c e : ℕ) → T ((ltb c 8 && ltb e 8) && (eqb (two_of c) i && not (eqb (two_of e) i)))
      → nat_abs (sum_of c) ≤ nat_abs (sum_of e) → Little i
  mk i c e t l = record {
    c = c;
    e = e;
    to_c = ltb→lt c 8 (both_left (ltb c 8) (ltb e 8) one);
    to_e = ltb→lt e 8 (both_right (ltb c 8) (ltb e 8) one);
    here = eqb→eq (two_of c) i (both_left (eqb (two_of c) i) (not (eqb (two_of e) i)) other);
    there = λ q. rw (eq-eqb (two_of e) i q) at (both_right (eqb (two_of c) i) (not (eqb (two_of e) i)) other);
    le = l;
  }
    where
      one : T (ltb c 8 && ltb e 8)
      one = both_left (ltb c 8 && ltb e 8) (eqb (two_of c) i && not (eqb (two_of e) i)) t

      other : T (eqb (two_of c) i && not (eqb (two_of e) i))
      other = both_right (ltb c 8 && ltb e 8) (eqb (two_of c) i && not (eqb (two_of e) i)) t

  little : (i : ℕ) → i < 4 → Little i
  little =
      phase (λ i. Little i)
      (little_by (Little 0) y.i x.i x.q y.q (mk 0 0 1 tt) (mk 0 0 3 tt) (mk 0 2 1 tt) (mk 0 2 3 tt)
      (mk 0 0 7 tt) (mk 0 0 5 tt) (mk 0 2 7 tt) (mk 0 2 5 tt))
      (little_by (Little 1) y.i x.q x.i y.q (mk 1 1 0 tt) (mk 1 1 2 tt) (mk 1 3 0 tt) (mk 1 3 2 tt)
      (mk 1 1 4 tt) (mk 1 1 6 tt) (mk 1 3 4 tt) (mk 1 3 6 tt))
      (little_by (Little 2) y.q x.q x.i y.i (mk 2 4 7 tt) (mk 2 4 5 tt) (mk 2 6 7 tt) (mk 2 6 5 tt)
      (mk 2 4 1 tt) (mk 2 4 3 tt) (mk 2 6 1 tt) (mk 2 6 3 tt))
      (little_by (Little 3) y.q x.i x.q y.i (mk 3 7 4 tt) (mk 3 7 6 tt) (mk 3 5 4 tt) (mk 3 5 6 tt)
      (mk 3 7 0 tt) (mk 3 7 2 tt) (mk 3 5 0 tt) (mk 3 5 2 tt))

  -- the sums are 16 times numbers, and 4 more
  pub record Raised : Type 0 where
    pub of : ℕ → ℤ
    pub is : (m : ℕ) → m < 8 → sum_of m ≡ (pos 16 *ℤ of m) +ℤ pos 4

  -- the largest of the eight keys, which is what the butterfly comes to; and the next: by scores none of the others is
  -- above it, and it is not above what they all are not above
  pub record TwoKeys : Type 0 where
    pub top : ℕ
    pub top_lifted : Lifted 11 top (top_of y x)
    pub largest : Largest key_in 0 8 top
    pub next : ℕ
    pub next_lifted : Lifted 11 next (next_of y x)
    pub over : (j : ℕ) → j < 8 → (j ≡ largest.p → ⊥) → key_in j / 16 ≤ next / 16
    pub least : (b : ℕ) → ((j : ℕ) → j < 8 → (j ≡ largest.p → ⊥) → key_in j / 16 ≤ b) → next / 16 ≤ b
    pub below : next ≤ top

  module _ (r : Raised) where
    raised : (m : ℕ) → m < 8 → up (sum_of m) + 16 * dn (r.of m) ≡ dn (sum_of m) + (16 * up (r.of m) + 4)
    raised m h =
        omega (
          arith,
          ap up (r.is m h),
          ap dn (r.is m h),
          add (pos 16 *ℤ r.of m) (pos 4),
          times_up 16 (r.of m),
          times_dn 16 (r.of m),
          up_pos 4,
          dn_pos 4,
        )

    nonzero : (v w : ℤ) (a b : ℕ) (ha : a < 8) (hb : b < 8) → sum_of a ≡ v +ℤ w → sum_of b ≡ v -ℤ w → v ≡ pos 0 → ⊥
    nonzero v w a b ha hb ea eb e =
        eight_of (dn (r.of a) + dn (r.of b)) (up (r.of a) + up (r.of b)) (omega (
          arith,
          raised a ha,
          raised b hb,
          ap up ea,
          ap dn ea,
          ap up eb,
          ap dn eb,
          plus v w,
          minus v w,
          ap up e,
          ap dn e,
          up_pos 0,
          dn_pos 0,
        ))
      where
        eight_of : (n m : ℕ) → 16 * n ≡ 16 * m + 8 → ⊥
        eight_of n m h = omega arith

    real : y.i ≡ pos 0 → ⊥
    real = nonzero y.i x.i 0 2 (lit< tt) (lit< tt) refl refl

    imag : y.q ≡ pos 0 → ⊥
    imag = nonzero y.q x.q 4 6 (lit< tt) (lit< tt) refl refl

    -- a score goes by the magnitude alone
    rank : (m : ℕ) → m < 8 → key_in m / 16 ≡ (nat_abs (sum_of m) + 4) / 16
    rank m h = ⊎_elim (λ a. omega (arith, raised m h)) (λ a. omega (arith, raised m h)) (sides (sum_of m))

    last : key_in 7 ≡ nat_abs (y.q -ℤ neg_ℤ x.i) + 4
    last = ap (λ (z : ℤ). nat_abs (y.q +ℤ z) + 4) (sym (neg_ℤ-neg_ℤ x.i))

    abbrev top_key : ℕ
    top_key = bigger (low key_in) (high key_in)

    abbrev won : Largest key_in 0 8 top_key
    won = eight_largest key_in

    abbrev p : ℕ
    p = won.p

    top_lifted : Lifted 11 top_key (top_of y x)
    unfolding top_of
    top_lifted = rw last (lifted_larger (four_lifted 8 y.i x.i x.q real)
        (lifted_move 4 11 refl (four_lifted 4 y.q x.q (neg_ℤ x.i) imag)))

    next_lifted : Lifted 11 (next_key key_in) (next_of y x)
    unfolding next_of
    next_lifted = rw last (lifted_larger
        (lifted_smaller (four_lifted 8 y.i x.i x.q real)
        (lifted_move 4 11 refl (four_lifted 4 y.q x.q (neg_ℤ x.i) imag)))
        (lifted_larger (four_lifted_next 8 y.i x.i x.q real)
        (lifted_move 4 11 refl (four_lifted_next 4 y.q x.q (neg_ℤ x.i) imag))))

    to_p : p < 8
    to_p = won.to

    abbrev two_p : ℕ
    two_p = 2 * (p / 4) + p % 2

    -- all twos are below that of the winner
    of_winner : (i : ℕ) → i < 4 → duel key_in i ≤ duel key_in two_p
    of_winner i h = omega (arith, duel_top key_in i h, in_duel key_in p to_p, won.is)

    -- a word of another two
    over_far : (j : ℕ) → j < 8 → (two_of j ≡ two_p → ⊥) → key_in j / 16 ≤ next_key key_in / 16
    over_far j h d =
        let l = over_next key_in two_p (two_of j) (omega (arith, to_p)) (omega arith) d of_winner in
        omega (arith, in_duel key_in j h)

    -- the other word of the winner's two
    over_near : (j : ℕ) → j < 8 → (j ≡ p → ⊥) → two_of j ≡ two_p → key_in j / 16 ≤ next_key key_in / 16
    over_near j h d same =
        let l = little two_p (omega (arith, to_p)) in
        let far = over_far l.e l.to_e l.there in
        let up_to : key_in j / 16 ≤ key_in l.c / 16 = by l (dec_lt l.c j) (dec_lt j l.c) in
        omega (arith, rank l.c l.to_c, rank l.e l.to_e, l.le)
      where
        under : key_in j ≤ key_in p
        under = omega (arith, won.is, won.top j (omega arith) h)

        winner : (l : Little two_p) → (l.c ≡ j → ⊥) → l.c ≡ p
        winner l ne = one_of_two l.c j p l.to_c h to_p l.here same ne d

        other : (l : Little two_p) → (l.c ≡ j → ⊥) → key_in j / 16 ≤ key_in l.c / 16
        other l ne = rw (winner l ne) (omega (arith, under))

        by : (l : Little two_p) → Dec (l.c < j) → Dec (j < l.c) → key_in j / 16 ≤ key_in l.c / 16
        by l (yes q) o = other l (λ e. omega arith)
        by l (no q) (yes o) = other l (λ e. omega arith)
        by l (no q) (no o) = let e : l.c ≡ j = omega arith in rw e (omega arith)

    next_over : (j : ℕ) → j < 8 → (j ≡ p → ⊥) → key_in j / 16 ≤ next_key key_in / 16
    next_over j h d = by (dec_lt (two_of j) two_p) (dec_lt two_p (two_of j))
      where
        by : Dec (two_of j < two_p) → Dec (two_p < two_of j) → key_in j / 16 ≤ next_key key_in / 16
        by (yes q) o = over_far j h (λ e. omega arith)
        by (no q) (yes o) = over_far j h (λ e. omega arith)
        by (no q) (no o) = over_near j h d (omega arith)

    next_least : (b : ℕ) → ((j : ℕ) → j < 8 → (j ≡ p → ⊥) → key_in j / 16 ≤ b) → next_key key_in / 16 ≤ b
    next_least b h = let l = under_next key_in two_p (16 * b + 15) (omega (arith, to_p)) each in omega arith
      where
        one : (o j : ℕ) → j < 8 → two_of j ≡ o → (o ≡ two_p → ⊥) → key_in j ≤ 16 * b + 15
        one o j l e d = omega (arith, h j l (λ q. d (sym e ∙ ap two_of q)))

        both : (o i j : ℕ) → i < 8 → j < 8 → two_of i ≡ o → two_of j ≡ o → (o ≡ two_p → ⊥)
            → bigger (key_in i) (key_in j) ≤ 16 * b + 15
        both o i j hi hj ei ej d =
            bigger_least (key_in i) (key_in j) (16 * b + 15) (one o i hi ei d) (one o j hj ej d)

        each : (o : ℕ) → o < 4 → (o ≡ two_p → ⊥) → duel key_in o ≤ 16 * b + 15
        each =
            phase (λ o. (o ≡ two_p → ⊥) → duel key_in o ≤ 16 * b + 15)
            (both 0 0 2 (lit< tt) (lit< tt) refl refl) (both 1 1 3 (lit< tt) (lit< tt) refl refl)
            (both 2 4 6 (lit< tt) (lit< tt) refl refl) (both 3 5 7 (lit< tt) (lit< tt) refl refl)

    pub two_keys : TwoKeys
    two_keys = record {
      top = top_key;
      top_lifted = top_lifted;
      largest = won;
      next = next_key key_in;
      next_lifted = next_lifted;
      over = next_over;
      least = next_least;
      below = under_next key_in two_p top_key (omega (arith, to_p)) (λ o h d. duel_top key_in o h);
    }

    -- the key of word 0 is at least 11
    pub top_above : pos 0 ≤ℤ top_of y x
    top_above =
        le_of (pos 0) (top_of y x)
        (omega (arith, up_pos 0, dn_pos 0, top_lifted.is, won.top 0 (omega arith) (lit< tt)))
