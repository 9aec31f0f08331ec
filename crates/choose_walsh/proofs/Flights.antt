-- A turn of a butterfly's loop: eight numbers of one column, written sixteen apart.
--     flown_eight    one column more
-- Assumes nothing.
use mathlib.Core.Path.{◌≡◌, refl, ap, ◌∙◌, subst}
use mathlib.Core.List.{List, [], ◌∷◌}
use Prim.Native.Nat.{ℕ, ◌+◌, ◌*◌, ◌≤◌, ◌<◌}
use native.Mathlib.Decide.{dec_lt}
use native.Mathlib.Omega.{arith}
use lib.ListN.{length, get_or, set}
use lib.IntN.{ℤ, pos, ◌+ℤ◌, ◌-ℤ◌}
use Rattle.rules_chips.specs.declared.Counts.{Counts}
use Rattle.rules_chips.specs.Chips.{pair}
use Rattle.rules_choosing.proofs.Clean.{phase}
use Rattle.choose_walsh.specs.Turns.{fly}
use Rattle.choose_walsh.specs.Rows.{row_at, Flown}
use Rattle.base.proofs.Puts.{puts, length_puts, puts_other, puts_at}

-- ---- one column more
-- the eight numbers of a butterfly of x and y, in the order of the writes
abbrev pub outs : Counts → Counts → List ℤ
outs x y =
    (y.i +ℤ x.i) ∷ (y.q +ℤ x.q) ∷ (y.i +ℤ x.q) ∷ (y.q -ℤ x.i) ∷ (y.i -ℤ x.i) ∷ (y.q -ℤ x.q)
    ∷ (y.i -ℤ x.q) ∷ (y.q +ℤ x.i) ∷ []

outs_at : (x y : Counts) (r : ℕ) → r < 4
    → pair (get_or (outs x y) (2 * r) (pos 0)) (get_or (outs x y) (2 * r + 1) (pos 0)) ≡ fly y x r
outs_at x y r h =
    phase (λ r. pair (get_or (outs x y) (2 * r) (pos 0)) (get_or (outs x y) (2 * r + 1) (pos 0)) ≡ fly y x r)
    refl refl refl refl r h

flown_more : (s : List ℤ) (x y : ℕ) (o₀ : List ℤ) (z l : ℕ) (o vs : List ℤ)
    → Flown s x y o₀ z l o → l < 16 → z + 128 ≤ length o₀ → vs ≡ outs (row_at s x l) (row_at s y l)
    → Flown s x y o₀ z (l + 1) (puts o (λ i. z + l + 16 * i) 0 vs)
flown_more s x y o₀ z l o vs f hl hz e = record {
  long = length_puts to vs o 0 ∙ f.long;
  each = λ r k hr hk. by r k hr hk (dec_lt k l);
  below = λ j h. other j (λ i hi q. omega arith) ∙ f.below j h;
  above = λ j h. other j (λ i hi q. omega arith) ∙ f.above j h;
}
  where
    to : ℕ → ℕ
    to i = z + l + 16 * i

    one : (i k : ℕ) → z + l + 16 * i ≡ z + l + 16 * k → i ≡ k
    one i k q = omega arith

    eight : length vs ≡ 8
    eight = ap length e

    other : (j : ℕ) → ((i : ℕ) → i < 8 → j ≡ z + l + 16 * i → ⊥)
        → get_or (puts o (λ i. z + l + 16 * i) 0 vs) j (pos 0) ≡ get_or o j (pos 0)
    other j h = puts_other to vs o 0 j (λ i hi q. h i (omega (arith, eight)) (omega arith))

    here : (j i : ℕ) → i < 8 → z + l + 16 * i ≡ j
        → get_or (puts o (λ i. z + l + 16 * i) 0 vs) j (pos 0) ≡ get_or (outs (row_at s x l) (row_at s y l)) i (pos 0)
    here j i hi q =
        subst (λ (j : ℕ). get_or (puts o (λ i. z + l + 16 * i) 0 vs) j (pos 0)
        ≡ get_or (outs (row_at s x l) (row_at s y l)) i (pos 0)) q
        (rw same_place (puts_at to one vs o 0 i (omega (arith, eight)) (λ k b. omega (arith, eight, f.long)))
        ∙ ap (λ (vs : List ℤ). get_or vs i (pos 0)) e)
      where
        same_place : z + l + 16 * i ≡ z + l + 16 * (0 + i)
        same_place = omega arith

    apart : (b r i k l : ℕ) → k < l → l < 16 → b + 32 * r + k ≡ b + l + 16 * i → ⊥
    apart b r i k l h g q = omega arith

    apart_q : (b r i k l : ℕ) → k < l → l < 16 → b + 32 * r + k + 16 ≡ b + l + 16 * i → ⊥
    apart_q b r i k l h g q = omega arith

    by : (r k : ℕ) → r < 4 → k < l + 1 → Dec (k < l)
        → row_at (puts o (λ i. z + l + 16 * i) 0 vs) (z + 32 * r) k ≡ fly (row_at s y k) (row_at s x k) r
    by r k hr hk (yes p) =
        (λ i. pair
        (other (z + 32 * r + k) (λ n hn q. apart z r n k l p hl q) i)
        (other (z + 32 * r + k + 16) (λ n hn q. apart_q z r n k l p hl q) i))
        ∙ f.each r k hr p
    by r k hr hk (no p) =
        let q : l ≡ k = omega arith in
        subst (λ (k : ℕ). row_at (puts o (λ i. z + l + 16 * i) 0 vs) (z + 32 * r) k
        ≡ fly (row_at s y k) (row_at s x k) r) q
        ((λ i. pair
        (here (z + 32 * r + l) (2 * r) (omega arith) (omega arith) i)
        (here (z + 32 * r + l + 16) (2 * r + 1) (omega arith) (omega arith) i))
        ∙ outs_at (row_at s x l) (row_at s y l) r hr)

-- the turn with the eight as the code writes them
pub flown_eight : {s : List ℤ} {x y : ℕ} {o₀ : List ℤ} {z l : ℕ} {o : List ℤ} {v0 v1 v2 v3 v4 v5 v6 v7 : ℤ}
    → Flown s x y o₀ z l o → l < 16 → z + 128 ≤ length o₀
    → v0 ∷ v1 ∷ v2 ∷ v3 ∷ v4 ∷ v5 ∷ v6 ∷ v7 ∷ [] ≡ outs (row_at s x l) (row_at s y l)
    → Flown s x y o₀ z (l + 1)
    (set (set (set (set (set (set (set (set o (z + l) v0) (z + l + 16) v1) (z + l + 32) v2) (z + l + 48) v3)
    (z + l + 64) v4) (z + l + 80) v5) (z + l + 96) v6) (z + l + 112) v7)
flown_eight {s} {x} {y} {o₀} {z} {l} {o} {v0} {v1} {v2} {v3} {v4} {v5} {v6} {v7} f hl hz e =
    let vs : List ℤ = v1 ∷ v2 ∷ v3 ∷ v4 ∷ v5 ∷ v6 ∷ v7 ∷ [] in
    let q : z + l + 0 ≡ z + l = omega arith in
    subst (λ (c : ℕ). Flown s x y o₀ z (l + 1) (puts (set o c v0) (λ i. z + l + 16 * i) 1 vs)) q
    (flown_more s x y o₀ z l o (v0 ∷ vs) f hl hz e)
