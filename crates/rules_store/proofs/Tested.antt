-- A walk over the numbers below n that goes on where Q holds; T is what it comes to from each of them.
--     walked                              it comes to the end, or to the first number at which Q does not hold
--     passed, failed, passes, fails       a test, which fails where Q does not hold: both ways
-- Assumes nothing.
use mathlib.Core.Path.{◌≡◌, refl, sym, ◌∙◌, subst}
use mathlib.Core.Bool.{Bool, true, false}
use mathlib.Core.Logic.{◌⊎◌, inl, inr}
use Prim.Native.Nat.{ℕ, zero, suc, ◌≤◌, ◌<◌}
use native.Mathlib.Decide.{dec_lt}
use native.Mathlib.Omega.{arith}
use Rattle.rules_store.proofs.Places.{never}

-- one of them at which Q does not hold
pub record Some (n : ℕ) (Q : ℕ → Type 0) : Type 0 where
  pub i : ℕ
  pub listed : i < n
  pub not_so : Q i → ⊥

module _ {A : Type 0} (n : ℕ) (Q : ℕ → Type 0) (T : ℕ → A) where
  data Upto (k : ℕ) : Type 0 where
    all_good : ((j : ℕ) → j < k → Q j) → Upto k
    stopped : (i : ℕ) → i < k → ((j : ℕ) → j < i → Q j) → (Q i → ⊥) → Upto k

  upto : ((i : ℕ) → Dec (Q i)) → (k : ℕ) → Upto k
  upto decided zero = all_good (λ j h. absurd (omega arith))
  upto decided (suc k) = by (upto decided k) (decided k)
    where
      by : Upto k → Dec (Q k) → Upto (suc k)
      by (all_good a) (yes q) = all_good (λ j h. last j h (dec_lt j k))
        where
          last : (j : ℕ) → j < suc k → Dec (j < k) → Q j
          last j h (yes l) = a j l
          last j h (no m) = let e : k ≡ j = omega arith in subst Q e q
      by (all_good a) (no q) = stopped k (omega arith) a q
      by (stopped i h a q) d = stopped i (omega arith) a q

  -- it comes to the end, or to the first at which Q does not hold
  pub data Walked : Type 0 where
    to_end : ((j : ℕ) → j < n → Q j) → T 0 ≡ T n → Walked
    to_first : (i : ℕ) → i < n → (Q i → ⊥) → T 0 ≡ T i → Walked

  module _ (decided : (i : ℕ) → Dec (Q i)) (more : (i : ℕ) → i < n → Q i → T (suc i) ≡ T i) where
    reached : (i : ℕ) → i ≤ n → ((j : ℕ) → j < i → Q j) → T 0 ≡ T i
    reached zero h a = refl
    reached (suc i) h a =
        reached i (omega arith) (λ j k. a j (omega arith)) ∙ sym (more i (omega arith) (a i (omega arith)))

    pub walked : Walked
    walked = by (upto decided n)
      where
        by : Upto n → Walked
        by (all_good a) = to_end a (reached n (omega arith) a)
        by (stopped i h a q) = to_first i h q (reached i (omega arith) a)

-- a test: it fails where Q does not hold
pub record Test (n : ℕ) (Q : ℕ → Type 0) (T : ℕ → Bool) : Type 0 where
  pub decided : (i : ℕ) → Dec (Q i)
  pub more : (i : ℕ) → i < n → Q i → T (suc i) ≡ T i
  pub past : (i : ℕ) → i < n → (Q i → ⊥) → T i ≡ false

module _ {n : ℕ} {Q : ℕ → Type 0} {T : ℕ → Bool} (t : Test n Q T) where
  pub passed : T 0 ≡ true → ((j : ℕ) → j < n → Q j) × (T n ≡ true)
  passed e = by (walked n Q T t.decided t.more)
    where
      by : Walked n Q T → ((j : ℕ) → j < n → Q j) × (T n ≡ true)
      by (to_end a s) = (a, sym s ∙ e)
      by (to_first i h q s) = absurd (never (sym (s ∙ t.past i h q) ∙ e))

  pub failed : T 0 ≡ false → Some n Q ⊎ (T n ≡ false)
  failed e = by (walked n Q T t.decided t.more)
    where
      by : Walked n Q T → Some n Q ⊎ (T n ≡ false)
      by (to_end a s) = inr (sym s ∙ e)
      by (to_first i h q s) = inl (record { i = i; listed = h; not_so = q })

  pub passes : ((j : ℕ) → j < n → Q j) → T 0 ≡ T n
  passes = reached n Q T t.decided t.more n (omega arith)

  pub fails : Some n Q → T 0 ≡ false
  fails x = by (walked n Q T t.decided t.more)
    where
      by : Walked n Q T → T 0 ≡ false
      by (to_end a s) = absurd (x.not_so (a x.i x.listed))
      by (to_first i h q s) = s ∙ t.past i h q
