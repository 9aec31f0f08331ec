-- Laws of rows whose elements are all below a number.
--     below_nil, below_cons, below_head, below_tail, below_append    element by element
--     below_take, below_drop, below_replicate, below_more            parts, repeats, a larger bound
--     below_eight, below_each                                        eight elements
-- Each is by the index. Assumes nothing.
use mathlib.Core.List.{List, [], ◌∷◌, ◌++◌}
use Prim.Native.Nat.{ℕ, zero, suc, ◌<◌, ◌≤◌}
use native.Mathlib.Omega.{arith}
use native.Mathlib.Nat.{lt_of_lt_of_le}
use lib.ListN.{get_or, take, drop, replicate}
use lib.Seq.{get_or-drop}
use Rattle.base.specs.Below.{Below}

pub below_nil : (n : ℕ) → 0 < n → Below n []
below_nil n h = record { at = λ i. h }

pub below_cons : {n x : ℕ} {xs : List ℕ} → x < n → Below n xs → Below n (x ∷ xs)
below_cons {n} {x} {xs} h t = record { at = by }
  where
    by : (i : ℕ) → get_or (x ∷ xs) i 0 < n
    by zero = h
    by (suc i) = t.at i

pub below_head : {n x : ℕ} {xs : List ℕ} → Below n (x ∷ xs) → x < n
below_head h = h.at 0

pub below_tail : {n x : ℕ} {xs : List ℕ} → Below n (x ∷ xs) → Below n xs
below_tail h = record { at = λ i. h.at (suc i) }

pub below_append : {n : ℕ} {a b : List ℕ} → Below n a → Below n b → Below n (a ++ b)
below_append {a = []} h k = k
below_append {a = x ∷ a} h k = below_cons (below_head h) (below_append (below_tail h) k)

pub below_take : {n : ℕ} {xs : List ℕ} (j : ℕ) → Below n xs → Below n (take j xs)
below_take {n} {xs} zero h = below_nil n (positive (h.at 0))
  where
    positive : {x : ℕ} → x < n → 0 < n
    positive k = omega arith
below_take {xs = []} (suc j) h = h
below_take {xs = x ∷ xs} (suc j) h = below_cons (below_head h) (below_take j (below_tail h))

pub below_drop : {n : ℕ} {xs : List ℕ} (j : ℕ) → Below n xs → Below n (drop j xs)
below_drop {n} {xs} j h = record { at = λ i. rw (get_or-drop j xs i 0) (h.at _) }

pub below_replicate : {n x : ℕ} (k : ℕ) → x < n → Below n (replicate k x)
below_replicate {n} {x} zero h = below_nil n (omega arith)
below_replicate (suc k) h = below_cons h (below_replicate k h)

pub below_more : {m n : ℕ} {xs : List ℕ} → Below m xs → m ≤ n → Below n xs
below_more b h = record { at = λ i. lt_of_lt_of_le (b.at i) h }

pub below_eight : {n x0 x1 x2 x3 x4 x5 x6 x7 : ℕ}
    → x0 < n → x1 < n → x2 < n → x3 < n → x4 < n → x5 < n → x6 < n → x7 < n
    → Below n (x0 ∷ x1 ∷ x2 ∷ x3 ∷ x4 ∷ x5 ∷ x6 ∷ x7 ∷ [])
below_eight {n} {x0} h0 h1 h2 h3 h4 h5 h6 h7 =
    below_cons h0
    (below_cons h1
    (below_cons h2
    (below_cons h3 (below_cons h4 (below_cons h5 (below_cons h6 (below_cons h7 (below_nil n (omega arith)))))))))

pub below_each : {n x0 x1 x2 x3 x4 x5 x6 x7 : ℕ} → Below n (x0 ∷ x1 ∷ x2 ∷ x3 ∷ x4 ∷ x5 ∷ x6 ∷ x7 ∷ [])
    → (x0 < n) × (x1 < n) × (x2 < n) × (x3 < n) × (x4 < n) × (x5 < n) × (x6 < n) × (x7 < n)
below_each h = (h.at 0, h.at 1, h.at 2, h.at 3, h.at 4, h.at 5, h.at 6, h.at 7)
