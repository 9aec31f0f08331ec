-- Tests: a rule of all numbers below n, proved by one test that antt computes at each of them; what a test that a
-- function made tells of the definition that its contract cites; and what is known on either side of a test.
-- Assumes nothing.
use mathlib.Core.Path.{◌≡◌, refl, sym, subst, ◌∙◌}
use mathlib.Core.Bool.{Bool, true, false, cond, not, ◌&&◌}
use Prim.Native.Nat.{ℕ, zero, suc, ◌<◌}
use native.Mathlib.Nat.{not-suc-le-zero}
use native.Mathlib.Decide.{dec_lt}
use native.Mathlib.Omega.{arith}
use lib.Dec.{T}

abbrev pub implies : Bool → Bool → Bool
implies true b = b
implies false b = true

pub both_left : (a b : Bool) → T (a && b) → T a
both_left true b t = tt
both_left false b t = t

pub both_right : (a b : Bool) → T (a && b) → T b
both_right true b t = t
both_right false b t = absurd t

pub implied : (a b : Bool) → T (implies a b) → T a → T b
implied true b t u = t
implied false b t u = absurd u

abbrev pub all : (ℕ → Bool) → ℕ → Bool
all f zero = true
all f (suc n) = all f n && f n

pub all_at : (f : ℕ → Bool) (n : ℕ) → T (all f n) → (k : ℕ) → k < n → T (f k)
all_at f zero t k h = absurd (not-suc-le-zero h)
all_at f (suc n) t k h = by (dec_lt k n) (all_at f n (both_left (all f n) (f n) t) k)
  where
    by : Dec (k < n) → (k < n → T (f k)) → T (f k)
    by (yes p) rest = rest p
    by (no q) rest = let e : n ≡ k = omega arith in subst (λ (m : ℕ). T (f m)) e (both_right (all f n) (f n) t)

pub failed : {a b : Bool} → a ≡ b → a ≡ false → b ≡ false
failed e t = sym e ∙ t

pub passed : {a b : Bool} → a ≡ b → a ≡ true → b ≡ true
passed e t = sym e ∙ t

pub held : (b : Bool) → T (not (not b)) → b ≡ true
held true t = refl
held false t = absurd t

pub left_is : (a b : Bool) → (a && b) ≡ true → a ≡ true
left_is true b h = refl
left_is false b h = h

pub right_is : (a b : Bool) → (a && b) ≡ true → b ≡ true
right_is true b h = h
right_is false b h = absurd (subst T (sym h) tt)

-- a test, and what holds where it fails
pub branch : {A : Type 0} (P : A → Type 0) (t : Bool) (x y : A) → P x → (T (not t) → P y) → P (cond t x y)
branch P true x y h k = h
branch P false x y h k = k tt
