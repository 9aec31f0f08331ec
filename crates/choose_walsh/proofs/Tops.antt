-- Keys of a last butterfly: eight of them in four twos, those of a sum and of a difference, and the two that win.
--     Lifted                  a whole number and c more is a natural one
--     eight_largest           the largest of eight keys
--     over_next, under_next   the next: the largest of the four twos but that of the winner
--     sides                   a magnitude is one part of a whole number, and the other is 0
--     two_lifted              the larger key of a two is the magnitude of y, if that is not 0, and a credit
-- Assumes nothing.
use mathlib.Core.Path.{◌≡◌, refl}
use mathlib.Core.Bool.{Bool, true, false, cond, not}
use mathlib.Core.List.{[], ◌∷◌}
use mathlib.Core.Logic.{◌⊎◌, inl, inr, ⊎_elim}
use Prim.Native.Nat.{ℕ, zero, suc, ◌+◌, ◌*◌, ◌/◌, ◌%◌, ◌≤◌, ◌<◌}
use native.Mathlib.Omega.{arith}
use borrow.Author.Tests.{lt-ltb, le-ltb}
use lib.Dec.{T, lit<, ltb, ltb→lt, nltb→le}
use lib.ListN.{get_or}
use lib.IntN.{ℤ, pos, negsuc, neg_ℤ, nat_abs, ◌+ℤ◌, ◌-ℤ◌}
use lib.Signed.{lt_z, ◌≤ℤ◌, ◌<ℤ◌, lt_z_yes, lt_z_no}
use Rattle.base.specs.Whole.{up, dn}
use Rattle.base.proofs.Whole.{add, neg_up, neg_dn, up_pos, dn_pos, of_lt, of_le}
use Rattle.rules_choosing.specs.Keys.{larger, smaller, bigger, lesser, Largest}
use Rattle.rules_choosing.proofs.Clean.{phase}
use Rattle.choose_walsh.specs.Turns.{sided, credit}
use Rattle.choose_walsh.proofs.Turns.{eight_cases}

-- z and c more is n
pub record Lifted (c n : ℕ) (z : ℤ) : Type 0 where
  pub is : up z + c ≡ n + dn z

pub lifted_move : {c n : ℕ} (d e : ℕ) {z : ℤ} → e ≡ c + d → Lifted c n z → Lifted e n (z -ℤ pos d)
lifted_move d e {z} l h =
    record {
      is = omega (
        arith,
        h.is,
        add z (neg_ℤ (pos d)),
        neg_up (pos d),
        neg_dn (pos d),
        up_pos d,
        dn_pos d,
      );
    }

pub lifted_add : {c n : ℕ} (k : ℕ) {z : ℤ} → Lifted (c + k) n z → Lifted c n (pos k +ℤ z)
lifted_add k {z} h = record { is = omega (arith, h.is, add (pos k) z, up_pos k, dn_pos k) }

pub lifted_larger : {c n m : ℕ} {u v : ℤ} → Lifted c n u → Lifted c m v → Lifted c (bigger n m) (larger u v)
lifted_larger {c} {n} {m} {u} {v} h k = by (lt_z u v) (lt_z_yes {a = u} {b = v}) (lt_z_no {a = u} {b = v})
  where
    by : (b : Bool) → (T b → u <ℤ v) → (T (not b) → v ≤ℤ u) → Lifted c (bigger n m) (cond b v u)
    by true f g = rw (lt-ltb n m (omega (arith, h.is, k.is, of_lt u v (f tt)))) k
    by false f g = rw (le-ltb n m (omega (arith, h.is, k.is, of_le v u (g tt)))) h

pub lifted_smaller : {c n m : ℕ} {u v : ℤ} → Lifted c n u → Lifted c m v → Lifted c (lesser n m) (smaller u v)
lifted_smaller {c} {n} {m} {u} {v} h k = by (lt_z u v) (lt_z_yes {a = u} {b = v}) (lt_z_no {a = u} {b = v})
  where
    by : (b : Bool) → (T b → u <ℤ v) → (T (not b) → v ≤ℤ u) → Lifted c (lesser n m) (cond b u v)
    by true f g = rw (lt-ltb n m (omega (arith, h.is, k.is, of_lt u v (f tt)))) h
    by false f g = rw (le-ltb n m (omega (arith, h.is, k.is, of_le v u (g tt)))) k

-- ---- the bigger of two
bigger_left : (n m : ℕ) → n ≤ bigger n m
bigger_left n m = by (ltb n m) (ltb→lt n m)
  where
    by : (b : Bool) → (T b → n < m) → n ≤ cond b m n
    by true f = omega (arith, f tt)
    by false f = omega arith

bigger_right : (n m : ℕ) → m ≤ bigger n m
bigger_right n m = by (ltb n m) (nltb→le n m)
  where
    by : (b : Bool) → (T (not b) → m ≤ n) → m ≤ cond b m n
    by true f = omega arith
    by false f = f tt

-- what holds of both holds of it
bigger_one : (P : ℕ → Type 0) (n m : ℕ) → P n → P m → P (bigger n m)
bigger_one P n m x y = by (ltb n m)
  where
    by : (b : Bool) → P (cond b m n)
    by true = y
    by false = x

pub bigger_least : (n m b : ℕ) → n ≤ b → m ≤ b → bigger n m ≤ b
bigger_least n m b h k = bigger_one (λ x. x ≤ b) n m h k

bigger_is_right : (n m : ℕ) → n ≤ m → bigger n m ≡ m
bigger_is_right n m h = by (ltb n m) (nltb→le n m)
  where
    by : (b : Bool) → (T (not b) → m ≤ n) → cond b m n ≡ m
    by true f = refl
    by false f = omega (arith, f tt)

bigger_is_left : (n m : ℕ) → m ≤ n → bigger n m ≡ n
bigger_is_left n m h = rw (le-ltb n m h)

-- and the lesser
lesser_over : (n m c : ℕ) → c ≤ n → c ≤ m → c ≤ lesser n m
lesser_over n m c h k = by (ltb n m)
  where
    by : (b : Bool) → c ≤ cond b n m
    by true = h
    by false = k

lesser_left : (n m : ℕ) → lesser n m ≤ n
lesser_left n m = by (ltb n m) (nltb→le n m)
  where
    by : (b : Bool) → (T (not b) → m ≤ n) → cond b n m ≤ n
    by true f = omega arith
    by false f = f tt

lesser_right : (n m : ℕ) → lesser n m ≤ m
lesser_right n m = by (ltb n m) (ltb→lt n m)
  where
    by : (b : Bool) → (T b → n < m) → cond b n m ≤ m
    by true f = omega (arith, f tt)
    by false f = omega arith

-- ---- eight of them, as they are compared
module _ (k : ℕ → ℕ) where
  abbrev pub low : ℕ
  low = bigger (bigger (k 0) (k 2)) (bigger (k 1) (k 3))

  abbrev pub high : ℕ
  high = bigger (bigger (k 4) (k 6)) (bigger (k 5) (k 7))

  record One (x : ℕ) : Type 0 where
    p : ℕ
    to : p < 8
    is : x ≡ k p

  one : (m : ℕ) → m < 8 → One (k m)
  one m l = record { p = m; to = l; is = refl }

  some : One (bigger low high)
  some =
      bigger_one One low high
      (bigger_one One (bigger (k 0) (k 2)) (bigger (k 1) (k 3))
      (bigger_one One (k 0) (k 2) (one 0 (lit< tt)) (one 2 (lit< tt)))
      (bigger_one One (k 1) (k 3) (one 1 (lit< tt)) (one 3 (lit< tt))))
      (bigger_one One (bigger (k 4) (k 6)) (bigger (k 5) (k 7))
      (bigger_one One (k 4) (k 6) (one 4 (lit< tt)) (one 6 (lit< tt)))
      (bigger_one One (k 5) (k 7) (one 5 (lit< tt)) (one 7 (lit< tt))))

  top : (m : ℕ) → m < 8 → k m ≤ bigger low high
  top =
      let l = bigger_left low high in
      let r = bigger_right low high in
      let ll = bigger_left (bigger (k 0) (k 2)) (bigger (k 1) (k 3)) in
      let lr = bigger_right (bigger (k 0) (k 2)) (bigger (k 1) (k 3)) in
      let rl = bigger_left (bigger (k 4) (k 6)) (bigger (k 5) (k 7)) in
      let rr = bigger_right (bigger (k 4) (k 6)) (bigger (k 5) (k 7)) in
      eight_cases (λ m. k m ≤ bigger low high) (omega (arith, bigger_left (k 0) (k 2)))
      (omega (arith, bigger_left (k 1) (k 3))) (omega (arith, bigger_right (k 0) (k 2)))
      (omega (arith, bigger_right (k 1) (k 3))) (omega (arith, bigger_left (k 4) (k 6)))
      (omega (arith, bigger_left (k 5) (k 7))) (omega (arith, bigger_right (k 4) (k 6)))
      (omega (arith, bigger_right (k 5) (k 7)))

  pub eight_largest : Largest k 0 8 (bigger low high)
  eight_largest = record {
    p = some.p;
    from = omega arith;
    to = some.to;
    is = some.is;
    top = λ j h l. top j l;
  }

  -- ---- the next: the eight stand in four twos, those of a sum and of a difference
  abbrev pub duel : ℕ → ℕ
  duel i =
      get_or (bigger (k 0) (k 2) ∷ bigger (k 1) (k 3) ∷ bigger (k 4) (k 6) ∷ bigger (k 5) (k 7) ∷ []) i 0

  abbrev pub next_key : ℕ
  next_key = bigger (lesser low high) (bigger (lesser (duel 0) (duel 1)) (lesser (duel 2) (duel 3)))

  pub in_duel : (j : ℕ) → j < 8 → k j ≤ duel (2 * (j / 4) + j % 2)
  in_duel =
      eight_cases (λ j. k j ≤ duel (2 * (j / 4) + j % 2)) (bigger_left (k 0) (k 2)) (bigger_left (k 1) (k 3))
      (bigger_right (k 0) (k 2)) (bigger_right (k 1) (k 3)) (bigger_left (k 4) (k 6)) (bigger_left (k 5) (k 7))
      (bigger_right (k 4) (k 6)) (bigger_right (k 5) (k 7))

  pub duel_top : (i : ℕ) → i < 4 → duel i ≤ bigger low high
  duel_top =
      let l = bigger_left low high in
      let r = bigger_right low high in
      phase (λ i. duel i ≤ bigger low high) (omega (arith, bigger_left (duel 0) (duel 1)))
      (omega (arith, bigger_right (duel 0) (duel 1))) (omega (arith, bigger_left (duel 2) (duel 3)))
      (omega (arith, bigger_right (duel 2) (duel 3)))

  -- it is not below the others of the largest two
  pub over_next : (i o : ℕ) → i < 4 → o < 4 → (o ≡ i → ⊥) → ((j : ℕ) → j < 4 → duel j ≤ duel i) → duel o ≤ next_key
  over_next i o hi ho = phase (λ i. (o ≡ i → ⊥) → ((j : ℕ) → j < 4 → duel j ≤ duel i) → duel o ≤ next_key)
      (phase (λ o. (o ≡ 0 → ⊥) → ((j : ℕ) → j < 4 → duel j ≤ duel 0) → duel o ≤ next_key)
      (λ d h. absurd (d refl)) (λ d h. inner_low 1 (h 1 (lit< tt)) (omega arith))
      (λ d h. outer 2 (by_low 0 (h 2 (lit< tt)) ll) rl) (λ d h. outer 3 (by_low 0 (h 3 (lit< tt)) ll) rr) o ho)
      (phase (λ o. (o ≡ 1 → ⊥) → ((j : ℕ) → j < 4 → duel j ≤ duel 1) → duel o ≤ next_key)
      (λ d h. inner_low 0 (omega arith) (h 0 (lit< tt))) (λ d h. absurd (d refl))
      (λ d h. outer 2 (by_low 1 (h 2 (lit< tt)) lr) rl) (λ d h. outer 3 (by_low 1 (h 3 (lit< tt)) lr) rr) o ho)
      (phase (λ o. (o ≡ 2 → ⊥) → ((j : ℕ) → j < 4 → duel j ≤ duel 2) → duel o ≤ next_key)
      (λ d h. outer 0 ll (by_high 2 (h 0 (lit< tt)) rl)) (λ d h. outer 1 lr (by_high 2 (h 1 (lit< tt)) rl))
      (λ d h. absurd (d refl)) (λ d h. inner_high 3 (h 3 (lit< tt)) (omega arith)) o ho)
      (phase (λ o. (o ≡ 3 → ⊥) → ((j : ℕ) → j < 4 → duel j ≤ duel 3) → duel o ≤ next_key)
      (λ d h. outer 0 ll (by_high 3 (h 0 (lit< tt)) rr)) (λ d h. outer 1 lr (by_high 3 (h 1 (lit< tt)) rr))
      (λ d h. inner_high 2 (omega arith) (h 2 (lit< tt))) (λ d h. absurd (d refl)) o ho)
      i hi
    where
      ll : duel 0 ≤ low
      ll = bigger_left (duel 0) (duel 1)

      lr : duel 1 ≤ low
      lr = bigger_right (duel 0) (duel 1)

      rl : duel 2 ≤ high
      rl = bigger_left (duel 2) (duel 3)

      rr : duel 3 ≤ high
      rr = bigger_right (duel 2) (duel 3)

      by_low : (i : ℕ) {n : ℕ} → n ≤ duel i → duel i ≤ low → n ≤ low
      by_low i h g = omega arith

      by_high : (i : ℕ) {n : ℕ} → n ≤ duel i → duel i ≤ high → n ≤ high
      by_high i h g = omega arith

      outer : (j : ℕ) → duel j ≤ low → duel j ≤ high → duel j ≤ next_key
      outer j h g =
          omega (
            arith,
            lesser_over low high (duel j) h g,
            bigger_left (lesser low high) (bigger (lesser (duel 0) (duel 1)) (lesser (duel 2) (duel 3))),
          )

      inner_low : (j : ℕ) → duel j ≤ duel 0 → duel j ≤ duel 1 → duel j ≤ next_key
      inner_low j h g =
          omega (
            arith,
            lesser_over (duel 0) (duel 1) (duel j) h g,
            bigger_left (lesser (duel 0) (duel 1)) (lesser (duel 2) (duel 3)),
            bigger_right (lesser low high) (bigger (lesser (duel 0) (duel 1)) (lesser (duel 2) (duel 3))),
          )

      inner_high : (j : ℕ) → duel j ≤ duel 2 → duel j ≤ duel 3 → duel j ≤ next_key
      inner_high j h g =
          omega (
            arith,
            lesser_over (duel 2) (duel 3) (duel j) h g,
            bigger_right (lesser (duel 0) (duel 1)) (lesser (duel 2) (duel 3)),
            bigger_right (lesser low high) (bigger (lesser (duel 0) (duel 1)) (lesser (duel 2) (duel 3))),
          )

  -- nor above what they all are not above
  pub under_next : (i b : ℕ) → i < 4 → ((o : ℕ) → o < 4 → (o ≡ i → ⊥) → duel o ≤ b) → next_key ≤ b
  under_next i b hi = phase (λ i. ((o : ℕ) → o < 4 → (o ≡ i → ⊥) → duel o ≤ b) → next_key ≤ b)
      (λ h. three (right (two_high (h 2 (lit< tt) (λ e. omega arith)) (h 3 (lit< tt) (λ e. omega arith))))
      (second_of 0 1 (h 1 (lit< tt) (λ e. omega arith))) (first_of 2 3 (h 2 (lit< tt) (λ e. omega arith))))
      (λ h. three (right (two_high (h 2 (lit< tt) (λ e. omega arith)) (h 3 (lit< tt) (λ e. omega arith))))
      (first_of 0 1 (h 0 (lit< tt) (λ e. omega arith))) (first_of 2 3 (h 2 (lit< tt) (λ e. omega arith))))
      (λ h. three (left (two_low (h 0 (lit< tt) (λ e. omega arith)) (h 1 (lit< tt) (λ e. omega arith))))
      (first_of 0 1 (h 0 (lit< tt) (λ e. omega arith))) (second_of 2 3 (h 3 (lit< tt) (λ e. omega arith))))
      (λ h. three (left (two_low (h 0 (lit< tt) (λ e. omega arith)) (h 1 (lit< tt) (λ e. omega arith))))
      (first_of 0 1 (h 0 (lit< tt) (λ e. omega arith))) (first_of 2 3 (h 2 (lit< tt) (λ e. omega arith))))
      i hi
    where
      two_low : duel 0 ≤ b → duel 1 ≤ b → low ≤ b
      two_low h g = bigger_least (duel 0) (duel 1) b h g

      two_high : duel 2 ≤ b → duel 3 ≤ b → high ≤ b
      two_high h g = bigger_least (duel 2) (duel 3) b h g

      left : low ≤ b → lesser low high ≤ b
      left h = omega (arith, lesser_left low high)

      right : high ≤ b → lesser low high ≤ b
      right h = omega (arith, lesser_right low high)

      first_of : (i j : ℕ) → duel i ≤ b → lesser (duel i) (duel j) ≤ b
      first_of i j h = omega (arith, lesser_left (duel i) (duel j))

      second_of : (i j : ℕ) → duel j ≤ b → lesser (duel i) (duel j) ≤ b
      second_of i j h = omega (arith, lesser_right (duel i) (duel j))

      three : lesser low high ≤ b → lesser (duel 0) (duel 1) ≤ b → lesser (duel 2) (duel 3) ≤ b → next_key ≤ b
      three h g f =
          bigger_least (lesser low high) (bigger (lesser (duel 0) (duel 1)) (lesser (duel 2) (duel 3))) b h
          (bigger_least (lesser (duel 0) (duel 1)) (lesser (duel 2) (duel 3)) b g f)

-- ---- magnitudes
pub sides : (z : ℤ) → ((up z ≡ nat_abs z) × (dn z ≡ 0)) ⊎ ((up z ≡ 0) × (dn z ≡ nat_abs z))
unfolding up dn
sides (pos n) = inl (refl, refl)
sides (negsuc n) = inr (refl, refl)

some_size : (y : ℤ) → (y ≡ pos 0 → ⊥) → 0 < nat_abs y
some_size (pos zero) ne = absurd (ne refl)
some_size (pos (suc n)) ne = omega arith
some_size (negsuc n) ne = omega arith

up_two : up (negsuc 1) ≡ 0
unfolding up
up_two = refl

dn_two : dn (negsuc 1) ≡ 2
unfolding dn
dn_two = refl

-- n is above 0, s the magnitude of n + u and d that of n - u
credit_lifted : (c n : ℕ) (u : ℤ) (s d : ℕ) → 0 < n → (s + dn u ≡ n + up u) ⊎ (s + n + up u ≡ dn u)
    → (d + up u ≡ n + dn u) ⊎ (d + n + dn u ≡ up u) → Lifted (c + 2 + n) (bigger (s + (c + 2)) (d + c)) (credit u)
unfolding credit
credit_lifted c n u s d some hs hd =
    by (lt_z u (negsuc 1 -ℤ u)) (lt_z_yes {a = u} {b = negsuc 1 -ℤ u}) (lt_z_no {a = u} {b = negsuc 1 -ℤ u})
  where
    two : up (negsuc 1 -ℤ u) + (2 + up u) ≡ dn (negsuc 1 -ℤ u) + dn u
    two = omega (arith, add (negsuc 1) (neg_ℤ u), neg_up u, neg_dn u, up_two, dn_two)

    by : (b : Bool) → (T b → u <ℤ (negsuc 1 -ℤ u)) → (T (not b) → (negsuc 1 -ℤ u) ≤ℤ u)
        → Lifted (c + 2 + n) (bigger (s + (c + 2)) (d + c)) (cond b (negsuc 1 -ℤ u) u)
    by true f g =
        let l = of_lt u (negsuc 1 -ℤ u) (f tt) in
        let h : s + (c + 2) ≤ d + c =
        ⊎_elim (λ x. ⊎_elim (λ y. omega (arith, two)) (λ y. omega (arith, two)) hd)
        (λ x. ⊎_elim (λ y. omega (arith, two)) (λ y. omega (arith, two)) hd) hs in
        let e : d + up u ≡ n + dn u = ⊎_elim (λ y. y) (λ y. absurd (omega (arith, two))) hd in
        rw (bigger_is_right (s + (c + 2)) (d + c) h) (record { is = omega (arith, two) })
    by false f g =
        let l = of_le (negsuc 1 -ℤ u) u (g tt) in
        let h : d + c ≤ s + (c + 2) =
        ⊎_elim (λ x. ⊎_elim (λ y. omega (arith, two)) (λ y. omega (arith, two)) hd)
        (λ x. ⊎_elim (λ y. omega (arith, two)) (λ y. omega (arith, two)) hd) hs in
        let e : s + dn u ≡ n + up u = ⊎_elim (λ y. y) (λ y. omega (arith, two)) hs in
        rw (bigger_is_left (s + (c + 2)) (d + c) h) (record { is = omega arith })

-- the larger key of y + a and y - a is the magnitude of y and a credit, if y is not 0
pub two_lifted : (c : ℕ) (y a : ℤ) → (y ≡ pos 0 → ⊥)
    → Lifted (c + 2 + nat_abs y) (bigger (nat_abs (y +ℤ a) + (c + 2)) (nat_abs (y -ℤ a) + c)) (credit (sided y a))
unfolding sided
two_lifted c y a ne = by (lt_z y (pos 0)) (lt_z_yes {a = y} {b = pos 0}) (lt_z_no {a = y} {b = pos 0})
  where
    plus : up (y +ℤ a) + (dn y + dn a) ≡ dn (y +ℤ a) + (up y + up a)
    plus = add y a

    minus : up (y -ℤ a) + (dn y + up a) ≡ dn (y -ℤ a) + (up y + dn a)
    minus = omega (arith, add y (neg_ℤ a), neg_up a, neg_dn a)

    below : y <ℤ pos 0 → (up y ≡ 0) × (dn y ≡ nat_abs y)
    below l = ⊎_elim (λ x. absurd (omega (arith, of_lt y (pos 0) l, up_pos 0, dn_pos 0))) (λ x. x) (sides y)

    above : pos 0 ≤ℤ y → (up y ≡ nat_abs y) × (dn y ≡ 0)
    above l =
        ⊎_elim (λ x. x)
        (λ x. absurd (omega (arith, of_le (pos 0) y l, up_pos 0, dn_pos 0, some_size y ne))) (sides y)

    by : (b : Bool) → (T b → y <ℤ pos 0) → (T (not b) → pos 0 ≤ℤ y)
        → Lifted (c + 2 + nat_abs y) (bigger (nat_abs (y +ℤ a) + (c + 2)) (nat_abs (y -ℤ a) + c))
        (credit (cond b (neg_ℤ a) a))
    by true f g =
        let h = below (f tt) in
        let u = neg_up a in
        let d = neg_dn a in
        credit_lifted c (nat_abs y) (neg_ℤ a) (nat_abs (y +ℤ a)) (nat_abs (y -ℤ a)) (some_size y ne)
        (⊎_elim (λ x. inr (omega (arith, plus))) (λ x. inl (omega (arith, plus))) (sides (y +ℤ a)))
        (⊎_elim (λ x. inr (omega (arith, minus))) (λ x. inl (omega (arith, minus))) (sides (y -ℤ a)))
    by false f g =
        let h = above (g tt) in
        credit_lifted c (nat_abs y) a (nat_abs (y +ℤ a)) (nat_abs (y -ℤ a)) (some_size y ne)
        (⊎_elim (λ x. inl (omega (arith, plus))) (λ x. inr (omega (arith, plus))) (sides (y +ℤ a)))
        (⊎_elim (λ x. inl (omega (arith, minus))) (λ x. inr (omega (arith, minus))) (sides (y -ℤ a)))
