-- Laws of the scrambler.
--     unscrambled               descrambling from the same past gives the bits back
--     recovers                  from any other past it gives them back from the eighth on
--     first_unknown             where the first output is not known either, from the ninth on
--     scramble_window, descramble_window      only the last seven outputs matter;
--     past_seven                after so many outputs nothing before them does
--     scramble_append, descramble_append, past_append    a run goes on from the outputs so far
--     descramble_at             a bit from the eighth on, by the outputs 4 and 7 before it
--     scramble_length, descramble_length, scramble_below, descramble_below    as many, and bits
-- By induction on the bits. Assumes nothing.
use mathlib.Core.Path.{◌≡◌, refl, sym, ap, ap₂, ◌∙◌}
use mathlib.Core.List.{List, [], ◌∷◌, ◌++◌}
use Prim.Native.Nat.{ℕ, zero, suc, ◌+◌, ◌<◌, ◌≤◌}
use native.Mathlib.Nat.{add-zero}
use native.Mathlib.Omega.{arith}
use lib.ListN.{length, get_or, take, drop}
use lib.Seq.{get_or-take, take-take}
use Rattle.rules_bits.specs.Bits.{◌⊕◌}
use Rattle.rules_bits.specs.Scrambler.{mixed, scramble, descramble}
use Rattle.base.specs.Below.{Below}
use Rattle.rules_bits.specs.Code.{past_after}
use Rattle.base.proofs.Below.{below_nil, below_cons, below_head, below_tail}

twice : (past : List ℕ) (b : ℕ) → b < 2 → mixed past (mixed past b) ≡ b
unfolding mixed
twice past b h = omega arith

-- promise: Unscrambling what was scrambled gives the bits back; from an unknown start from the eighth bit on
-- rule: 5.6, 5.7
-- code: scramble_octet, descramble_octet
-- with: recovers, first_unknown
pub unscrambled : (past bs : List ℕ) → Below 2 bs → descramble past (scramble past bs) ≡ bs
unfolding scramble descramble
unscrambled past [] h = refl
unscrambled past (b ∷ bs) h =
    ap₂ {B = List ℕ} (λ x xs. x ∷ xs) (twice past b (below_head h))
    (unscrambled (mixed past b ∷ past) bs (below_tail h))

pub scramble_below : (past bs : List ℕ) → Below 2 (scramble past bs)
unfolding scramble mixed
scramble_below past [] = below_nil 2 (omega arith)
scramble_below past (b ∷ bs) = below_cons (omega arith) (scramble_below (mixed past b ∷ past) bs)

pub descramble_below : (past os : List ℕ) → Below 2 (descramble past os)
unfolding descramble mixed
descramble_below past [] = below_nil 2 (omega arith)
descramble_below past (o ∷ os) = below_cons (omega arith) (descramble_below (o ∷ past) os)

pub scramble_length : (past bs : List ℕ) → length (scramble past bs) ≡ length bs
unfolding scramble
scramble_length past [] = refl
scramble_length past (b ∷ bs) = ap suc (scramble_length (mixed past b ∷ past) bs)

pub descramble_length : (past os : List ℕ) → length (descramble past os) ≡ length os
unfolding descramble
descramble_length past [] = refl
descramble_length past (o ∷ os) = ap suc (descramble_length (o ∷ past) os)

-- ---- one run after another

pub past_append : (past a b : List ℕ) → past_after past (a ++ b) ≡ past_after (past_after past a) b
unfolding past_after
past_append past [] b = refl
past_append past (x ∷ a) b = past_append (x ∷ past) a b

pub scramble_append : (past a b : List ℕ)
    → scramble past (a ++ b) ≡ scramble past a ++ scramble (past_after past (scramble past a)) b
unfolding scramble past_after
scramble_append past [] b = refl
scramble_append past (x ∷ a) b =
    ap {B = List ℕ} (λ l. mixed past x ∷ l) (scramble_append (mixed past x ∷ past) a b)

pub descramble_append : (past a b : List ℕ)
    → descramble past (a ++ b) ≡ descramble past a ++ descramble (past_after past a) b
unfolding descramble past_after
descramble_append past [] b = refl
descramble_append past (x ∷ a) b = ap {B = List ℕ} (λ l. mixed past x ∷ l) (descramble_append (x ∷ past) a b)

-- ---- two pasts that agree on the last seven outputs

mixed_window : (h k : List ℕ) (b : ℕ) → take 7 h ≡ take 7 k → mixed h b ≡ mixed k b
unfolding mixed
mixed_window h k b e =
    ap₂ {C = ℕ} (λ x y. b ⊕ x ⊕ y) (agree 3 (omega arith)) (agree 6 (omega arith))
  where
    agree : (i : ℕ) → i < 7 → get_or h i 0 ≡ get_or k i 0
    agree i l = sym (get_or-take 7 h i 0 l) ∙ ap (λ (xs : List ℕ). get_or xs i 0) e ∙ get_or-take 7 k i 0 l

window_more : (h k : List ℕ) (o : ℕ) → take 7 h ≡ take 7 k → take 7 (o ∷ h) ≡ take 7 (o ∷ k)
window_more h k o e =
    ap {B = List ℕ} (λ xs. o ∷ xs)
    (sym (take-take 6 7 h (omega arith)) ∙ ap (take 6) e ∙ take-take 6 7 k (omega arith))

pub scramble_window : (h k bs : List ℕ) → take 7 h ≡ take 7 k → scramble h bs ≡ scramble k bs
unfolding scramble
scramble_window h k [] e = refl
scramble_window h k (b ∷ bs) e =
    rw (mixed_window h k b e)
    (ap {B = List ℕ} (λ xs. mixed k b ∷ xs) (scramble_window (mixed k b ∷ h) (mixed k b ∷ k) bs (window_more h k _ e)))

pub descramble_window : (h k os : List ℕ) → take 7 h ≡ take 7 k → descramble h os ≡ descramble k os
unfolding descramble
descramble_window h k [] e = refl
descramble_window h k (o ∷ os) e =
    ap₂ {B = List ℕ} (λ x xs. x ∷ xs) (mixed_window h k o e)
    (descramble_window (o ∷ h) (o ∷ k) os (window_more h k o e))

past_more : (j : ℕ) (h k os : List ℕ) → take j h ≡ take j k
    → take (j + length os) (past_after h os) ≡ take (j + length os) (past_after k os)
unfolding past_after
past_more j h k [] e = rw add-zero e
past_more j h k (o ∷ os) e =
    let n : j + suc (length os) ≡ suc j + length os = omega arith in
    rw n (past_more (suc j) (o ∷ h) (o ∷ k) os (ap {B = List ℕ} (λ xs. o ∷ xs) e))

pub past_seven : (h k os : List ℕ) → 7 ≤ length os → take 7 (past_after h os) ≡ take 7 (past_after k os)
past_seven h k os l =
    sym (take-take 7 (0 + length os) (past_after h os) (omega arith))
    ∙ ap (take 7) (past_more 0 h k os refl) ∙ take-take 7 (0 + length os) (past_after k os) (omega arith)

pub recovers : (h k os : List ℕ) → drop 7 (descramble h os) ≡ drop 7 (descramble k os)
unfolding descramble
recovers h k [] = refl
recovers h k (a ∷ []) = refl
recovers h k (a ∷ b ∷ []) = refl
recovers h k (a ∷ b ∷ c ∷ []) = refl
recovers h k (a ∷ b ∷ c ∷ d ∷ []) = refl
recovers h k (a ∷ b ∷ c ∷ d ∷ e ∷ []) = refl
recovers h k (a ∷ b ∷ c ∷ d ∷ e ∷ f ∷ []) = refl
recovers h k (a ∷ b ∷ c ∷ d ∷ e ∷ f ∷ g ∷ os) = descramble_window _ _ os refl

-- the first output may be unknown, as that of a recording's first symbol: from the ninth bit on all is right
pub first_unknown : (h k : List ℕ) (x y : ℕ) (os : List ℕ)
    → drop 8 (descramble h (x ∷ os)) ≡ drop 8 (descramble k (y ∷ os))
unfolding descramble
first_unknown h k x y os = recovers (x ∷ h) (y ∷ k) os

-- ---- one bit, by the outputs that it is unscrambled with
pub descramble_at : (past os : List ℕ) (n : ℕ) → n + 7 < length os
    → get_or (descramble past os) (n + 7) 0 ≡ get_or os (n + 7) 0 ⊕ get_or os (n + 3) 0 ⊕ get_or os n 0
unfolding descramble mixed
descramble_at past [] n h = absurd (omega arith)
descramble_at past (a ∷ []) zero h = absurd (omega arith)
descramble_at past (a ∷ b ∷ []) zero h = absurd (omega arith)
descramble_at past (a ∷ b ∷ c ∷ []) zero h = absurd (omega arith)
descramble_at past (a ∷ b ∷ c ∷ d ∷ []) zero h = absurd (omega arith)
descramble_at past (a ∷ b ∷ c ∷ d ∷ e ∷ []) zero h = absurd (omega arith)
descramble_at past (a ∷ b ∷ c ∷ d ∷ e ∷ f ∷ []) zero h = absurd (omega arith)
descramble_at past (a ∷ b ∷ c ∷ d ∷ e ∷ f ∷ g ∷ []) zero h = absurd (omega arith)
descramble_at past (a ∷ b ∷ c ∷ d ∷ e ∷ f ∷ g ∷ o ∷ os) zero h = refl
descramble_at past (o ∷ os) (suc n) h =
    let e : suc n + 7 ≡ suc (n + 7) = omega arith in
    let f : suc n + 3 ≡ suc (n + 3) = omega arith in
    rw (e, f) (descramble_at (o ∷ past) os n (omega arith))
