-- Laws of the first largest. It is found by going on from what was best so far, and it is the one allowed number that
-- has no less than every allowed one and more than every smaller one: any two such are equal, so whatever has that is
-- it.
-- Assumes nothing.
use mathlib.Core.Path.{◌≡◌, refl, sym, ap, ◌∙◌, subst}
use mathlib.Core.Bool.{Bool, true, false, not, cond}
use mathlib.Core.List.{List, [], ◌∷◌, ◌++◌, map, append-nil}
use Prim.Native.Nat.{ℕ, zero, suc, ◌+◌, ◌<◌}
use native.Mathlib.Nat.{not-suc-le-zero}
use native.Mathlib.Decide.{dec_lt}
use native.Mathlib.Numerals.{add-one}
use native.Mathlib.Omega.{arith}
use lib.Dec.{T}
use lib.ListN.{length, length-append}
use lib.IntN.{ℤ}
use lib.Signed.{lt_z, ◌≤ℤ◌, ◌<ℤ◌, lt_z_yes, lt_z_no, clash_ℤ, ≤ℤ_refl}
use Rattle.base.proofs.Whole.{le_of, lt_of, of_le, of_lt}
use Rattle.rules_symbols.specs.Choice.{those, going, first_largest}
use Rattle.rules_choosing.specs.Scores.{up_to, BestOf}

pub best_unique : {ok : ℕ → Bool} {n : ℕ} {f : ℕ → ℤ} {r s : ℕ} → BestOf ok n f r → BestOf ok n f s → r ≡ s
best_unique {ok} {n} {f} {r} {s} p q = by (dec_lt r s) (dec_lt s r)
  where
    by : Dec (r < s) → Dec (s < r) → r ≡ s
    by (yes h) k = clash_ℤ (q.first r h p.allowed) (p.top s q.among q.allowed)
    by (no h) (yes k) = clash_ℤ (p.first s k q.allowed) (q.top r p.among p.allowed)
    by (no h) (no k) = omega arith

-- ---- one number more at the end of a list
going_snoc : (f : ℕ → ℤ) (best : ℕ) (ns : List ℕ) (n : ℕ)
    → going f best (ns ++ (n ∷ [])) ≡ cond (lt_z (f (going f best ns)) (f n)) n (going f best ns)
unfolding going
going_snoc f best [] n = refl
going_snoc f best (m ∷ ns) n = going_snoc f (cond (lt_z (f best) (f m)) m best) ns n

pub first_snoc : (f : ℕ → ℤ) (ns : List ℕ) (n : ℕ) → 0 < length ns
    → first_largest f (ns ++ (n ∷ [])) ≡ cond (lt_z (f (first_largest f ns)) (f n)) n (first_largest f ns)
unfolding first_largest
first_snoc f [] n h = absurd (not-suc-le-zero h)
first_snoc f (m ∷ ns) n h = going_snoc f m ns n

-- ---- the first largest of those that a test allows is the best
<-≤ : {a b : ℤ} → a <ℤ b → a ≤ℤ b
<-≤ {a} {b} h = le_of a b (omega (arith, of_lt a b h))

≤-<-trans : {a b c : ℤ} → a ≤ℤ b → b <ℤ c → a <ℤ c
≤-<-trans {a} {b} {c} h k = lt_of a c (omega (arith, of_le a b h, of_lt b c k))

module _ (ok : ℕ → Bool) where
  -- where one is allowed there are some
  pub some_of : (n m : ℕ) → m < n → T (ok m) → 0 < length (those ok n)
  unfolding those
  some_of zero m h a = absurd (not-suc-le-zero h)
  some_of (suc n) m h a = by (dec_lt m n) (λ p. some_of n m p a)
    where
      by : Dec (m < n) → (m < n → 0 < length (those ok n)) → 0 < length (those ok n ++ cond (ok n) (n ∷ []) [])
      by (yes p) before = rw (length-append (those ok n) (cond (ok n) (n ∷ []) [])) (omega (arith, before p))
      by (no q) before =
          let e : m ≡ n = omega arith in
          rw (length-append (those ok n) (cond (ok n) (n ∷ []) [])) (end (ok n) (subst (λ (k : ℕ). T (ok k)) e a))
        where
          end : (t : Bool) → T t → 0 < length (those ok n) + length (cond t (n ∷ []) [])
          end true u = omega arith
          end false u = absurd u

  module _ (f : ℕ → ℤ) (n : ℕ) where
    -- the last number below suc n, or one of those below n
    last : (P : ℕ → Type 0) → ((m : ℕ) → m < n → T (ok m) → P m) → (T (ok n) → P n) → (m : ℕ) → m < suc n → T (ok m)
        → P m
    last P below at m h a = by (dec_lt m n)
      where
        by : Dec (m < n) → P m
        by (yes p) = below m p a
        by (no q) = let e : n ≡ m = omega arith in subst P e (at (subst (λ (k : ℕ). T (ok k)) (sym e) a))

    not_allowed : {r : ℕ} → ok n ≡ false → BestOf ok n f r → BestOf ok (suc n) f r
    not_allowed {r} e b = record {
      among = omega (arith, b.among);
      allowed = b.allowed;
      top = last (λ m. f m ≤ℤ f r) b.top (λ a. absurd (subst T e a));
      first = b.first;
    }

    alone : ok n ≡ true → length (those ok n) ≡ 0 → BestOf ok (suc n) f n
    alone e none = record {
      among = omega arith;
      allowed = subst T (sym e) tt;
      top = last (λ m. f m ≤ℤ f n) (λ m h a. absurd (omega (arith, some_of n m h a))) (λ a. ≤ℤ_refl (f n));
      first = λ m h a. absurd (omega (arith, some_of n m h a));
    }

    one_more : {r : ℕ} → ok n ≡ true → BestOf ok n f r → (t : Bool) → lt_z (f r) (f n) ≡ t
        → BestOf ok (suc n) f (cond t n r)
    one_more {r} e b true lt =
        let less : f r <ℤ f n = lt_z_yes (subst T (sym lt) tt) in
        let below : (m : ℕ) → m < n → T (ok m) → f m <ℤ f n = λ m h a. ≤-<-trans (b.top m h a) less in
        record {
          among = omega arith;
          allowed = subst T (sym e) tt;
          top = last (λ m. f m ≤ℤ f n) (λ m h a. <-≤ (below m h a)) (λ a. ≤ℤ_refl (f n));
          first = below;
        }
    one_more {r} e b false lt = record {
      among = omega (arith, b.among);
      allowed = b.allowed;
      top = last (λ m. f m ≤ℤ f r) b.top (λ a. lt_z_no (subst (λ (t : Bool). T (not t)) (sym lt) tt));
      first = b.first;
    }

  -- a number that is allowed, after those before it
  then_best : (f : ℕ → ℤ) (n : ℕ) (ns : List ℕ) → ns ≡ those ok n → ok n ≡ true
      → (0 < length ns → BestOf ok n f (first_largest f ns))
      → BestOf ok (suc n) f (first_largest f (ns ++ (n ∷ [])))
  unfolding first_largest going
  then_best f n [] x e before = alone f n e (ap length (sym x))
  then_best f n (m ∷ ns) x e before =
      rw (first_snoc f (m ∷ ns) n (omega arith)) (one_more f n e (before (omega arith)) _ refl)

  pub first_best : (f : ℕ → ℤ) (n : ℕ) → 0 < length (those ok n) → BestOf ok n f (first_largest f (those ok n))
  unfolding those
  first_best f zero h = absurd (not-suc-le-zero h)
  first_best f (suc n) h = by (ok n) refl h (first_best f n)
    where
      by : (t : Bool) → ok n ≡ t → 0 < length (those ok n ++ cond t (n ∷ []) [])
          → (0 < length (those ok n) → BestOf ok n f (first_largest f (those ok n)))
          → BestOf ok (suc n) f (first_largest f (those ok n ++ cond t (n ∷ []) []))
      by true e k before = then_best f n (those ok n) refl e before
      by false e k before = rw (append-nil (those ok n))
          (not_allowed f n e (before (rw (append-nil (those ok n)) at k)))

-- ---- among all numbers below n
length_up : (n : ℕ) → length (up_to n) ≡ n
unfolding those
length_up zero = refl
length_up (suc n) = length-append (up_to n) (n ∷ []) ∙ ap (λ (k : ℕ). k + 1) (length_up n) ∙ add-one n

pub up_best : (f : ℕ → ℤ) (n : ℕ) → 0 < n → BestOf (λ j. true) n f (first_largest f (up_to n))
up_best f n h = first_best (λ j. true) f n (subst (λ (k : ℕ). 0 < k) (sym (length_up n)) h)

-- ---- a list of numbers that are made of others
going_map : (f : ℕ → ℤ) (g : ℕ → ℕ) (best : ℕ) (ns : List ℕ)
    → going f (g best) (map g ns) ≡ g (going (λ k. f (g k)) best ns)
unfolding going
going_map f g best [] = refl
going_map f g best (n ∷ ns) =
    ap (λ (b : ℕ). going f b (map g ns)) (either (lt_z (f (g best)) (f (g n))))
    ∙ going_map f g (cond (lt_z (f (g best)) (f (g n))) n best) ns
  where
    either : (t : Bool) → cond t (g n) (g best) ≡ g (cond t n best)
    either true = refl
    either false = refl

pub first_map : (f : ℕ → ℤ) (g : ℕ → ℕ) (ns : List ℕ) → 0 < length ns
    → first_largest f (map g ns) ≡ g (first_largest (λ k. f (g k)) ns)
unfolding first_largest
first_map f g [] h = absurd (not-suc-le-zero h)
first_map f g (n ∷ ns) h = going_map f g n ns
