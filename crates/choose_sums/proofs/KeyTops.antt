-- The two largest of some keys: of two keys, and of two stretches that meet, for any number of keys.
-- Assumes nothing.
use mathlib.Core.Path.{◌≡◌, refl, sym, subst}
use mathlib.Core.Bool.{Bool, true, false, not, cond}
use mathlib.Core.Logic.{◌⊎◌, inl, inr}
use Prim.Native.Nat.{ℕ, suc, ◌≤◌, ◌<◌}
use native.Mathlib.Decide.{dec_lt}
use native.Mathlib.Omega.{arith}
use lib.Dec.{T, ltb, ltb→lt, nltb→le}
use Rattle.rules_choosing.specs.Keys.{bigger, lesser, Largest, TwoLargest}

pub second_le : {k : ℕ → ℕ} {a b x y : ℕ} → TwoLargest k a b x y → y ≤ x
second_le t = omega (arith, t.is, t.largest.top t.q t.from t.to)

-- ---- two keys
module _ (k : ℕ → ℕ) (a : ℕ) where
  abbrev b : ℕ
  b = suc a

  either : (P : ℕ → Type 0) → P a → P b → (j : ℕ) → a ≤ j → j < suc b → P j
  either P u v j l m = by (dec_lt j b)
    where
      by : Dec (j < b) → P j
      by (yes x) = let e : a ≡ j = omega arith in subst P e u
      by (no x) = let e : b ≡ j = omega arith in subst P e v

  pub two_of_lem : TwoLargest k a (suc b) (bigger (k a) (k b)) (lesser (k a) (k b))
  two_of_lem = by (ltb (k a) (k b)) (ltb→lt (k a) (k b)) (nltb→le (k a) (k b))
    where
      by : (t : Bool) → (T t → k a < k b) → (T (not t) → k b ≤ k a)
          → TwoLargest k a (suc b) (cond t (k b) (k a)) (cond t (k a) (k b))
      by true f g = record {
        largest = record {
          p = b;
          from = omega arith;
          to = omega arith;
          is = refl;
          top = either (λ j. k j ≤ k b) (omega (arith, f tt)) (omega arith);
        };
        q = a;
        from = omega arith;
        to = omega arith;
        other = λ e. omega arith;
        is = refl;
        next = either (λ j. (j ≡ b → ⊥) → k j ≤ k a) (λ d. omega arith) (λ d. absurd (d refl));
      }
      by false f g = record {
        largest = record {
          p = a;
          from = omega arith;
          to = omega arith;
          is = refl;
          top = either (λ j. k j ≤ k a) (omega arith) (g tt);
        };
        q = b;
        from = omega arith;
        to = omega arith;
        other = λ e. omega arith;
        is = refl;
        next = either (λ j. (j ≡ a → ⊥) → k j ≤ k b) (λ d. absurd (d refl)) (λ d. omega arith);
      }

-- ---- two stretches that meet at b
module _ {k : ℕ → ℕ} {a b c x y z w : ℕ} (t : TwoLargest k a b x y) (s : TwoLargest k b c z w) where
  abbrev left : Largest k a b x
  left = t.largest

  abbrev right : Largest k b c z
  right = s.largest

  meet : (P : ℕ → Type 0) → ((j : ℕ) → a ≤ j → j < b → P j) → ((j : ℕ) → b ≤ j → j < c → P j) → (j : ℕ) → a ≤ j
      → j < c → P j
  meet P u v j l m = by (dec_lt j b)
    where
      by : Dec (j < b) → P j
      by (yes h) = u j l h
      by (no h) = v j (omega arith) m

  -- the largest is of the right one, or of the left one; v is the next
  of_right : x ≤ z → (v q : ℕ) → a ≤ q → q < c → (q ≡ right.p → ⊥) → v ≡ k q → x ≤ v → w ≤ v → TwoLargest k a c z v
  of_right le v q fq tq d e lx lw = record {
    largest = record {
      p = right.p;
      from = omega (arith, right.from, left.from, left.to);
      to = right.to;
      is = right.is;
      top = meet (λ j. k j ≤ z) (λ j l m. omega (arith, left.top j l m)) right.top;
    };
    q = q;
    from = fq;
    to = tq;
    other = d;
    is = e;
    next = meet (λ j. (j ≡ right.p → ⊥) → k j ≤ v) (λ j l m n. omega (arith, left.top j l m))
        (λ j l m n. omega (arith, s.next j l m n));
  }

  of_left : z ≤ x → (v q : ℕ) → a ≤ q → q < c → (q ≡ left.p → ⊥) → v ≡ k q → z ≤ v → y ≤ v → TwoLargest k a c x v
  of_left le v q fq tq d e lz ly = record {
    largest = record {
      p = left.p;
      from = left.from;
      to = omega (arith, left.to, right.from, right.to);
      is = left.is;
      top = meet (λ j. k j ≤ x) left.top (λ j l m. omega (arith, right.top j l m));
    };
    q = q;
    from = fq;
    to = tq;
    other = d;
    is = e;
    next = meet (λ j. (j ≡ left.p → ⊥) → k j ≤ v) (λ j l m n. omega (arith, t.next j l m n))
        (λ j l m n. omega (arith, right.top j l m));
  }

  -- where the next comes from
  right_left : x ≤ z → w ≤ x → TwoLargest k a c z x
  right_left le h = of_right le x left.p left.from (omega (arith, left.to, right.from, right.to))
      (λ e. omega (arith, left.to, right.from)) left.is (omega arith) h

  right_right : x ≤ z → x ≤ w → TwoLargest k a c z w
  right_right le h = of_right le w s.q (omega (arith, left.from, left.to, s.from)) s.to s.other s.is h
      (omega arith)

  left_right : z ≤ x → y ≤ z → TwoLargest k a c x z
  left_right le h = of_left le z right.p (omega (arith, left.from, left.to, right.from)) right.to
      (λ e. omega (arith, left.to, right.from)) right.is (omega arith) h

  left_left : z ≤ x → z ≤ y → TwoLargest k a c x y
  left_left le h = of_left le y t.q t.from (omega (arith, t.to, right.from, right.to)) t.other t.is h
      (omega arith)

  pub two_merge : TwoLargest k a c (bigger x z) (bigger (lesser x z) (bigger y w))
  two_merge = by (ltb x z) (ltb→lt x z) (nltb→le x z)
    where
      from_right : x < z → (m : ℕ) (u : Bool) → (m ≡ y) ⊎ (m ≡ w) → y ≤ m → w ≤ m → (T u → x < m) → (T (not u) → m ≤ x)
          → TwoLargest k a c z (cond u m x)
      from_right l m true (inl e) hy hw f g = absurd (omega (arith, f tt, second_le t))
      from_right l m true (inr e) hy hw f g =
          subst (TwoLargest k a c z) (sym e) (right_right (omega arith) (omega (arith, f tt)))
      from_right l m false e hy hw f g = right_left (omega arith) (omega (arith, g tt))

      from_left : z ≤ x → (m : ℕ) (u : Bool) → (m ≡ y) ⊎ (m ≡ w) → y ≤ m → w ≤ m → (T u → z < m) → (T (not u) → m ≤ z)
          → TwoLargest k a c x (cond u m z)
      from_left l m true (inl e) hy hw f g = subst (TwoLargest k a c x) (sym e) (left_left l (omega (arith, f tt)))
      from_left l m true (inr e) hy hw f g = absurd (omega (arith, f tt, second_le s))
      from_left l m false e hy hw f g = left_right l (omega (arith, g tt))

      one : (u : Bool) → (cond u w y ≡ y) ⊎ (cond u w y ≡ w)
      one true = inr refl
      one false = inl refl

      least : (u : Bool) → (T u → y < w) → (T (not u) → w ≤ y) → (y ≤ cond u w y) × (w ≤ cond u w y)
      least true f g = (omega (arith, f tt), omega arith)
      least false f g = (omega arith, g tt)

      by : (u : Bool) → (T u → x < z) → (T (not u) → z ≤ x)
          → TwoLargest k a c (cond u z x) (bigger (cond u x z) (bigger y w))
      by true f g = from_right (f tt) (bigger y w) (ltb x (bigger y w)) (one (ltb y w))
          (least (ltb y w) (ltb→lt y w) (nltb→le y w)).0 (least (ltb y w) (ltb→lt y w) (nltb→le y w)).1
          (ltb→lt x (bigger y w)) (nltb→le x (bigger y w))
      by false f g = from_left (g tt) (bigger y w) (ltb z (bigger y w)) (one (ltb y w))
          (least (ltb y w) (ltb→lt y w) (nltb→le y w)).0 (least (ltb y w) (ltb→lt y w) (nltb→le y w)).1
          (ltb→lt z (bigger y w)) (nltb→le z (bigger y w))
