-- Several numbers written in one turn of a loop, at places that a rule gives.
--     puts                 the writes
--     length_puts, puts_other, puts_at    the length, a place that is none of them, and one that is
-- Assumes nothing.
use mathlib.Core.Path.{◌≡◌, refl, sym, ap, ◌∙◌, subst}
use mathlib.Core.List.{List, [], ◌∷◌}
use Prim.Native.Nat.{ℕ, zero, suc, ◌+◌, ◌<◌}
use native.Mathlib.Omega.{arith}
use lib.ListN.{length, get_or, set, length-set}
use lib.Seq.{get_or-set_same, get_or-set_other}
use lib.IntN.{ℤ, pos}

-- vs written at f n, f (n + 1), and so on
abbrev pub puts : List ℤ → (ℕ → ℕ) → ℕ → List ℤ → List ℤ
puts o f n [] = o
puts o f n (v ∷ vs) = puts (set o (f n) v) f (suc n) vs

pub length_puts : (f : ℕ → ℕ) (vs o : List ℤ) (n : ℕ) → length (puts o f n vs) ≡ length o
length_puts f [] o n = refl
length_puts f (v ∷ vs) o n = length_puts f vs (set o (f n) v) (suc n) ∙ length-set o (f n) v

pub puts_other : (f : ℕ → ℕ) (vs o : List ℤ) (n j : ℕ) → ((i : ℕ) → i < length vs → j ≡ f (n + i) → ⊥)
    → get_or (puts o f n vs) j (pos 0) ≡ get_or o j (pos 0)
puts_other f [] o n j h = refl
puts_other f (v ∷ vs) o n j h =
    puts_other f vs (set o (f n) v) (suc n) j (λ i l e. h (suc i) (omega arith) (e ∙ ap f (next i)))
    ∙ get_or-set_other o (f n) j v (pos 0) (λ e. h 0 (omega arith) (e ∙ ap f here))
  where
    next : (i : ℕ) → suc n + i ≡ n + suc i
    next i = omega arith

    here : n ≡ n + 0
    here = omega arith

pub puts_at : (f : ℕ → ℕ) → ((i k : ℕ) → f i ≡ f k → i ≡ k) → (vs o : List ℤ) (n i : ℕ) → i < length vs
    → ((k : ℕ) → k < length vs → f (n + k) < length o)
    → get_or (puts o f n vs) (f (n + i)) (pos 0) ≡ get_or vs i (pos 0)
puts_at f one [] o n i h b = absurd (omega arith)
puts_at f one (v ∷ vs) o n zero h b =
    let e : n ≡ n + 0 = omega arith in
    subst (λ (j : ℕ). get_or (puts (set o (f n) v) f (suc n) vs) (f j) (pos 0) ≡ v) e
    (puts_other f vs (set o (f n) v) (suc n) (f n)
    (λ i l q. let d : n ≡ suc n + i = one n (suc n + i) q in omega arith)
    ∙ get_or-set_same o (f n) v (pos 0) (subst (λ (j : ℕ). f j < length o) (sym e) (b 0 (omega arith))))
puts_at f one (v ∷ vs) o n (suc i) h b =
    let e : suc n + i ≡ n + suc i = omega arith in
    subst (λ (j : ℕ). get_or (puts (set o (f n) v) f (suc n) vs) (f j) (pos 0) ≡ get_or vs i (pos 0)) e
    (puts_at f one vs (set o (f n) v) (suc n) i (omega arith)
    (λ k l. let d : n + suc k ≡ suc n + k = omega arith in
    subst (λ (m : ℕ). f (suc n + k) < m) (sym (length-set o (f n) v))
    (subst (λ (j : ℕ). f j < length o) d (b (suc k) (omega arith)))))
