-- Keys, once for every number of words. Of h + h words, n and n + h opposite, the better of each two has a key, and
-- the largest key is that of the best word, the second largest that of the word next to it: both give the lead.
-- Assumes nothing.
use mathlib.Core.Path.{◌≡◌, refl, sym, ap, ◌∙◌, subst}
use mathlib.Core.Bool.{true}
use mathlib.Core.Logic.{◌⊎◌, inl, inr, ⊎_elim}
use Prim.Native.Nat.{ℕ, zero, suc, ◌+◌, ◌*◌, ◌-◌, ◌/◌, ◌%◌, ◌≤◌, ◌<◌}
use native.Mathlib.Nat.{mul-le-mul_left, mul-suc, mul-add-mod_self_left, mod-eq_of_lt, mul-add-div, div-eq_of_lt}
use native.Mathlib.Decide.{dec_lt}
use native.Mathlib.Omega.{arith}
use lib.IntN.{ℤ, pos, negsuc, neg_ℤ}
use lib.Signed.{◌≤ℤ◌, ◌<ℤ◌, ≤ℤ_refl}
use Rattle.base.proofs.Whole.{le_of, lt_of, of_le, of_lt, up_pos, dn_pos}
use Rattle.rules_symbols.specs.Choice.{first_largest}
use Rattle.rules_choosing.specs.Scores.{up_to, BestOf, NextTo}
use Rattle.rules_choosing.specs.Keys.{key_of, Largest, TwoLargest}
use Rattle.rules_choosing.proofs.Best.{best_unique, up_best}

module _ (h : ℕ) (f : ℕ → ℤ) where
  -- the better word of n and n + h, and its key
  pub record Better (n k : ℕ) : Type 0 where
    pub number : ℕ
    pub size : ℕ
    pub is : k ≡ (h + h) * size + (h + h - 1 - number)
    pub one_of : (number ≡ n) ⊎ (number ≡ n + h)
    pub score : f number ≡ pos size
    -- the other one is not above 0, and if it is the one with the smaller number it is below
    pub worse : (m : ℕ) → (m ≡ n) ⊎ (m ≡ n + h) → (m ≡ number → ⊥) → f m ≤ℤ pos 0
    pub less : (m : ℕ) → (m ≡ n) ⊎ (m ≡ n + h) → m < number → f m <ℤ pos 0

  at : (P : ℤ → Type 0) (m j : ℕ) (z : ℤ) → m ≡ j → f j ≡ z → P z → P (f m)
  at P m j z e d t = subst P (sym (ap f e ∙ d)) t

  -- the key made of the score
  pub better : (n : ℕ) (z : ℤ) → n < h → f n ≡ z → f (n + h) ≡ neg_ℤ z → Better n (key_of h n z)
  unfolding key_of
  better n (pos s) l a b = record {
    number = n;
    size = s;
    is = refl;
    one_of = inl refl;
    score = a;
    worse = λ m w d. ⊎_elim (λ e. absurd (d e)) (λ e. at (λ y. y ≤ℤ pos 0) m (n + h) _ e b (low s)) w;
    less = λ m w d. absurd (⊎_elim (λ e. omega arith) (λ e. omega arith) w);
  }
    where
      low : (s : ℕ) → neg_ℤ (pos s) ≤ℤ pos 0
      low zero = record { le = tt }
      low (suc s) = record { le = tt }
  better n (negsuc s) l a b = record {
    number = n + h;
    size = suc s;
    is = refl;
    one_of = inr refl;
    score = b;
    worse = λ m w d. ⊎_elim (λ e. at (λ y. y ≤ℤ pos 0) m n _ e a (record { le = tt })) (λ e. absurd (d e)) w;
    less = λ m w d. ⊎_elim (λ e. at (λ y. y <ℤ pos 0) m n _ e a (record { lt = tt })) (λ e. absurd (omega arith)) w;
  }

  module _ {n k : ℕ} (l : n < h) (b : Better n k) where
    pub number_below : b.number < h + h
    number_below = ⊎_elim (λ e. omega arith) (λ e. omega arith) b.one_of

    -- neither is above the size
    at_most_lem : (m : ℕ) → (m ≡ n) ⊎ (m ≡ n + h) → f m ≤ℤ pos b.size
    at_most_lem m w = by (dec_lt m b.number) (dec_lt b.number m)
      where
        low : f m ≤ℤ pos 0 → f m ≤ℤ pos b.size
        low c = le_of (f m) (pos b.size)
            (omega (arith, of_le (f m) (pos 0) c, up_pos 0, dn_pos 0, up_pos b.size, dn_pos b.size))

        by : Dec (m < b.number) → Dec (b.number < m) → f m ≤ℤ pos b.size
        by (yes x) y = low (b.worse m w (λ e. omega arith))
        by (no x) (yes y) = low (b.worse m w (λ e. omega arith))
        by (no x) (no y) = let e : m ≡ b.number = omega arith in rw (e, b.score) (≤ℤ_refl _)

  -- the pair that a word is of
  pub record PairOf (m : ℕ) : Type 0 where
    pub n : ℕ
    pub low : n < h
    pub side : (m ≡ n) ⊎ (m ≡ n + h)

  pair_of : (m : ℕ) → m < h + h → PairOf m
  pair_of m l = by (dec_lt m h)
    where
      by : Dec (m < h) → PairOf m
      by (yes x) = record { n = m; low = x; side = inl refl }
      by (no x) = record { n = m - h; low = omega arith; side = inr (omega arith) }

-- keys go by sizes first
pub sizes : (w s t c d : ℕ) → c < w → d < w → w * s + c ≤ w * t + d → s ≤ t
sizes w s t c d hc hd le = by (dec_lt t s)
  where
    by : Dec (t < s) → s ≤ t
    by (yes x) = absurd (omega (arith, mul-le-mul_left w x, mul-suc w t))
    by (no x) = omega arith

-- the keys of h pairs, the largest that of pair p
module _ (h : ℕ) (f : ℕ → ℤ) (k : ℕ → ℕ) (b : (j : ℕ) → j < h → Better h f j (k j)) {x : ℕ} (t : Largest k 0 h x) where
  abbrev bp : Better h f t.p (k t.p)
  bp = b t.p t.to

  top : (j : ℕ) → j < h → k j ≤ k t.p
  top j l = omega (arith, t.top j (omega arith) l, t.is)

  -- of two keys, one not above the other
  size_le : (i j : ℕ) (li : i < h) (lj : j < h) → k i ≤ k j → (b i li).size ≤ (b j lj).size
  size_le i j li lj le =
      sizes (h + h) (b i li).size (b j lj).size (h + h - 1 - (b i li).number) (h + h - 1 - (b j lj).number)
      (omega arith) (omega arith) (omega (arith, (b i li).is, (b j lj).is))

  size_top : (j : ℕ) (l : j < h) → (b j l).size ≤ bp.size
  size_top j l = size_le j t.p l t.to (top j l)

  ties : (j : ℕ) (l : j < h) → (b j l).size ≡ bp.size → bp.number ≤ (b j l).number
  ties j l e =
      omega (
        arith,
        top j l,
        (b j l).is,
        bp.is,
        ap (λ (s : ℕ). (h + h) * s) e,
        number_below h f l (b j l),
        number_below h f t.to bp,
      )

  below : (m s r : ℕ) → f m ≤ℤ pos s → s < r → f m <ℤ pos r
  below m s r c l = lt_of (f m) (pos r) (omega (arith, of_le (f m) (pos s) c, up_pos s, dn_pos s, up_pos r, dn_pos r))

  upto : (m s r : ℕ) → f m ≤ℤ pos s → s ≤ r → f m ≤ℤ pos r
  upto m s r c l = le_of (f m) (pos r) (omega (arith, of_le (f m) (pos s) c, up_pos s, dn_pos s, up_pos r, dn_pos r))

  under : (m r : ℕ) → f m <ℤ pos 0 → f m <ℤ pos r
  under m r c = lt_of (f m) (pos r) (omega (arith, of_lt (f m) (pos 0) c, up_pos 0, dn_pos 0, up_pos r, dn_pos r))

  keys_best : BestOf (λ j. true) (h + h) f bp.number
  keys_best = record {
    among = number_below h f t.to bp;
    allowed = tt;
    top = λ m l a. rw bp.score (high m (pair_of h f m l));
    first = λ m l a. rw bp.score (strict m l (pair_of h f m (omega (arith, number_below h f t.to bp))));
  }
    where
      high : (m : ℕ) → PairOf h f m → f m ≤ℤ pos bp.size
      high m o = upto m (b o.n o.low).size bp.size (at_most_lem h f o.low (b o.n o.low) m o.side)
          (size_top o.n o.low)

      strict : (m : ℕ) → m < bp.number → PairOf h f m → f m <ℤ pos bp.size
      strict m l o = by (dec_lt bj.size bp.size)
        where
          bj : Better h f o.n (k o.n)
          bj = b o.n o.low

          by : Dec (bj.size < bp.size) → f m <ℤ pos bp.size
          by (yes y) = below m bj.size bp.size (at_most_lem h f o.low bj m o.side) y
          by (no y) =
              let e : bj.size ≡ bp.size = omega (arith, size_top o.n o.low) in
              under m bp.size (bj.less m o.side (omega (arith, ties o.n o.low e)))

  -- the number of the word and its score are read off a key
  module _ {n y : ℕ} (l : n < h) (e : y ≡ k n) where
    few : h + h - 1 - (b n l).number < h + h
    few = let m = number_below h f l (b n l) in omega arith

    number_is : (b n l).number ≡ h + h - 1 - y % (h + h)
    number_is =
        let m = number_below h f l (b n l) in
        let rest : y % (h + h) ≡ h + h - 1 - (b n l).number =
        ap (λ (z : ℕ). z % (h + h)) (e ∙ (b n l).is)
        ∙ mul-add-mod_self_left (h + h) (b n l).size (h + h - 1 - (b n l).number)
        ∙ mod-eq_of_lt few in
        omega arith

    size_is : (b n l).size ≡ y / (h + h)
    size_is =
        sym (ap (λ (z : ℕ). z / (h + h)) (e ∙ (b n l).is)
        ∙ mul-add-div (omega arith) (b n l).size (h + h - 1 - (b n l).number)
        ∙ ap (λ (z : ℕ). (b n l).size + z) (div-eq_of_lt few) ∙ omega arith)

  pub number_by : first_largest f (up_to (h + h)) ≡ h + h - 1 - x % (h + h)
  number_by =
      best_unique (up_best f (h + h) (omega (arith, t.to))) keys_best ∙ number_is t.to t.is

-- the words of the two largest keys: the best, the one next to it, and their scores
pub record Ranked (h : ℕ) (f : ℕ → ℤ) (x y : ℕ) : Type 0 where
  pub second : ℕ
  pub best : BestOf (λ j. true) (h + h) f (h + h - 1 - x % (h + h))
  pub next : NextTo (λ j. true) (h + h) f (h + h - 1 - x % (h + h)) second
  pub score : f (h + h - 1 - x % (h + h)) ≡ pos (x / (h + h))
  pub score_next : f second ≡ pos (y / (h + h))

module _ (h : ℕ) (f : ℕ → ℤ) (k : ℕ → ℕ) (b : (j : ℕ) → j < h → Better h f j (k j)) {x y : ℕ}
    (t : TwoLargest k 0 h x y) where
  abbrev p : ℕ
  p = t.largest.p

  abbrev first : Better h f p (k p)
  first = b p t.largest.to

  abbrev second : Better h f t.q (k t.q)
  second = b t.q t.to

  keys_next : NextTo (λ j. true) (h + h) f first.number second.number
  keys_next = record {
    among = number_below h f t.to second;
    allowed = tt;
    other = λ e. apart e first.one_of second.one_of;
    top = λ m l a d. rw second.score (rest m d (pair_of h f m l));
  }
    where
      apart : second.number ≡ first.number → (first.number ≡ p) ⊎ (first.number ≡ p + h)
          → (second.number ≡ t.q) ⊎ (second.number ≡ t.q + h) → ⊥
      apart e (inl u) (inl v) = t.other (omega arith)
      apart e (inl u) (inr v) = omega (arith, t.largest.to)
      apart e (inr u) (inl v) = omega (arith, t.to)
      apart e (inr u) (inr v) = t.other (omega arith)

      rest : (m : ℕ) → (m ≡ first.number → ⊥) → PairOf h f m → f m ≤ℤ pos second.size
      rest m d o = by (dec_lt o.n p) (dec_lt p o.n)
        where
          others : (o.n ≡ p → ⊥) → f m ≤ℤ pos second.size
          others ne = upto h f k b t.largest m (b o.n o.low).size second.size
              (at_most_lem h f o.low (b o.n o.low) m o.side)
              (size_le h f k b t.largest o.n t.q o.low t.to
              (omega (arith, t.next o.n (omega arith) o.low ne, t.is)))

          by : Dec (o.n < p) → Dec (p < o.n) → f m ≤ℤ pos second.size
          by (yes u) v = others (λ e. omega arith)
          by (no u) (yes v) = others (λ e. omega arith)
          by (no u) (no v) =
              let e : o.n ≡ p = omega arith in
              upto h f k b t.largest m 0 second.size
              (first.worse m (subst (λ (n : ℕ). (m ≡ n) ⊎ (m ≡ n + h)) e o.side) d) (omega arith)

  pub ranked : Ranked h f x y
  ranked =
      let e = number_is h f k b t.largest t.largest.to t.largest.is in
      record {
        second = second.number;
        best = subst (BestOf (λ j. true) (h + h) f) e (keys_best h f k b t.largest);
        next = subst (λ (n : ℕ). NextTo (λ j. true) (h + h) f n second.number) e keys_next;
        score = ap f (sym e) ∙ first.score
            ∙ ap pos (size_is h f k b t.largest t.largest.to t.largest.is);
        score_next = second.score ∙ ap pos (size_is h f k b t.largest t.to t.is);
      }
