-- Laws of keys as f32: their order is that of the keys, and the key comes back.
-- Assumes nothing.
use mathlib.Core.Path.{◌≡◌, refl, sym, ap, ◌∙◌, subst}
use mathlib.Core.Bool.{Bool, true, false, cond}
use Prim.Native.Nat.{ℕ, ◌*◌, ◌≤◌, ◌<◌}
use native.Mathlib.Decide.{dec_lt}
use native.Mathlib.Omega.{arith}
use borrow.Author.Tests.{lt-ltb, le-ltb}
use lib.Dec.{T, ltb, lit<, le→leb}
use lib.IntN.{pos, nat_abs}
use lib.Signed.{non_neg}
use lib.Ieee.{Float, nan, inf, fin, binary32, up, down, lt, of_int, in_float, in_signed, to_signed}
use lib.Ieee.Fits.{down_pos}
use lib.Ieee.Exact.{HasValue}
use lib.Ieee.Order.{transfer}
use lib.Ieee.Back.{round_whole, positive_back}
use Rattle.rules_choosing.specs.Keys.{bigger, lesser}
use Rattle.choose_words.specs.Floats.{key_float, larger_float, smaller_float, holds_float}

-- ---- the order of numbers is that of their values
ltb_same : (p q a b : ℕ) → (a < b → p < q) → (b ≤ a → q ≤ p) → ltb p q ≡ ltb a b
ltb_same p q a b f g = by (dec_lt a b)
  where
    by : Dec (a < b) → ltb p q ≡ ltb a b
    by (yes h) = lt-ltb p q (f h) ∙ sym (lt-ltb a b h)
    by (no h) = let k : b ≤ a = omega arith in le-ltb p q (g k) ∙ sym (le-ltb a b k)

lt_of_values : (x y : Float) (a b : ℕ) → HasValue x false a 1 → HasValue y false b 1 → lt x y ≡ ltb a b
unfolding lt
lt_of_values nan y a b p q = absurd p
lt_of_values (inf s) y a b p q = absurd p
lt_of_values (fin s m e) nan a b p q = absurd q
lt_of_values (fin s m e) (inf t) a b p q = absurd q
lt_of_values (fin true m e) (fin t n d) a b p q = absurd (subst T p.0 tt)
lt_of_values (fin false m e) (fin true n d) a b p q = absurd (subst T q.0 tt)
lt_of_values (fin false m e) (fin false n d) a b p q =
    ltb_same (m * up e * down d) (n * up d * down e) a b strict
    (λ h. transfer (n * up d) (m * up e) (down d) (down e) b a 1 1 (lit< tt) (lit< tt) q.1 p.1 (omega arith))
  where
    strict : a < b → m * up e * down d < n * up d * down e
    strict h = by (dec_lt (m * up e * down d) (n * up d * down e))
      where
        by : Dec (m * up e * down d < n * up d * down e) → m * up e * down d < n * up d * down e
        by (yes g) = g
        by (no g) =
            let le : n * up d * down e ≤ m * up e * down d = omega arith in
            let back = transfer b a 1 1 (n * up d) (m * up e) (down d) (down e) (down_pos d) (down_pos e)
            (sym q.1) (sym p.1) le in
            absurd (omega (arith, back))

-- ---- a key's number
value : (n : ℕ) → n < 8388608 → HasValue (key_float n) false n 1
unfolding of_int
value n h = round_whole binary32 false n (omega arith)

order : (x y : ℕ) → x < 8388608 → y < 8388608 → lt (key_float x) (key_float y) ≡ ltb x y
order x y h g = lt_of_values (key_float x) (key_float y) x y (value x h) (value y g)

-- it may be made of the key, and gives it back
pub may_float : (x : ℕ) → x < 8388608 → T (in_float binary32 (pos x))
unfolding in_float
may_float x h = le→leb x 16777216 (omega arith)

back : (x : ℕ) → x < 8388608 → T (in_signed binary32 31 (key_float x)) × (to_signed 31 (key_float x) ≡ pos x)
back x h = positive_back binary32 31 x (may_float x h) (omega arith)

-- ---- the larger and the smaller of two
pub larger_is : (x y : ℕ) → x < 8388608 → y < 8388608 → larger_float (key_float x) (key_float y) ≡ key_float (bigger x y)
larger_is x y h g = (λ i. cond (order x y h g i) (key_float y) (key_float x)) ∙ by (ltb x y)
  where
    by : (t : Bool) → cond t (key_float y) (key_float x) ≡ key_float (cond t y x)
    by true = refl
    by false = refl

pub smaller_is : (x y : ℕ) → x < 8388608 → y < 8388608 → smaller_float (key_float x) (key_float y) ≡ key_float (lesser x y)
smaller_is x y h g = (λ i. cond (order x y h g i) (key_float x) (key_float y)) ∙ by (ltb x y)
  where
    by : (t : Bool) → cond t (key_float x) (key_float y) ≡ key_float (cond t x y)
    by true = refl
    by false = refl

pub either : (n x y : ℕ) → x < n → y < n → (bigger x y < n) × (lesser x y < n)
either n x y h g = by (ltb x y)
  where
    by : (t : Bool) → (cond t y x < n) × (cond t x y < n)
    by true = (g, h)
    by false = (h, g)

-- ---- the keys back
module _ {v : Float} {x : ℕ} (h : holds_float v x) where
  -- what is asked of a number, and what comes of it
  pub asked : T (in_signed binary32 31 v) × T (non_neg (to_signed 31 v)) × (nat_abs (to_signed 31 v) < 8388608)
  asked = let b = back x h.1 in rw h.0 (b.0, rw b.1 tt, rw b.1 h.1)

  pub key_back : nat_abs (to_signed 31 v) ≡ x
  key_back = ap (λ (u : Float). nat_abs (to_signed 31 u)) h.0 ∙ ap nat_abs (back x h.1).1
