-- Rows of bytes filled in loops, entry by entry, and four merges one after the other.
-- Assumes nothing.
use mathlib.Core.Path.{◌≡◌, refl, ap, ◌∙◌, subst}
use mathlib.Core.List.{List}
use Prim.Native.Nat.{ℕ, ◌+◌, ◌*◌, ◌/◌, ◌%◌, ◌≤◌, ◌<◌}
use native.Mathlib.Decide.{dec_lt}
use native.Mathlib.Omega.{arith}
use borrow.Author.Tests.{eq-eqb, ne_eqb}
use lib.ListN.{length, get_or, set, length-set}
use lib.Seq.{get_or-set_same, get_or-set_other}
use lib.IntN.{ℤ, pos}
use Rattle.choose_abreast.specs.Abreast.{halved, Merged, Turned}

abbrev at : List ℤ → ℕ → ℤ
at row j = get_or row j (pos 0)

-- ---- the first k of a row's n bytes are as they are to be
pub record Filling (f : ℕ → ℤ) (n : ℕ) (row : List ℤ) (k : ℕ) : Type 0 where
  pub long : length row ≡ n
  pub each : (j : ℕ) → j < k → at row j ≡ f j

pub filling_none : (f : ℕ → ℤ) {n : ℕ} {row : List ℤ} → length row ≡ n → Filling f n row 0
filling_none f e = record { long = e; each = λ j h. absurd (omega arith) }

pub filling_more : {f : ℕ → ℤ} {n : ℕ} {row : List ℤ} {k : ℕ} (v : ℤ) → k < n → v ≡ f k → Filling f n row k
    → Filling f n (set row k v) (k + 1)
filling_more {f} {n} {row} {k} v h e b =
    record { long = length-set row k v ∙ b.long; each = λ j l. by j l (dec_lt j k) }
  where
    by : (j : ℕ) → j < k + 1 → Dec (j < k) → at (set row k v) j ≡ f j
    by j l (yes p) = get_or-set_other row k j v (pos 0) (λ q. omega arith) ∙ b.each j p
    by j l (no p) =
        let q : k ≡ j = omega arith in
        subst (λ (i : ℕ). at (set row k v) i ≡ f i) q (get_or-set_same row k v (pos 0) (omega (arith, b.long)) ∙ e)

-- ---- halves in turn, two bytes more
abbrev pub halves : List ℤ → ℕ → ℤ
halves from j = at from (halved (length from) j)

even_from : (n k : ℕ) → k ≡ halved n (2 * k)
even_from n k = rw (eq-eqb (2 * k % 2) 0 (omega arith)) (omega arith)

odd_from : (n k : ℕ) → n / 2 + k ≡ halved n (2 * k + 1)
odd_from n k = rw (ne_eqb ((2 * k + 1) % 2) 0 (λ e. omega arith)) (omega arith)

pub filling_two : (from : List ℤ) {to : List ℤ} (k : ℕ) (v w : ℤ) → 2 * k + 1 < length from → v ≡ at from k
    → w ≡ at from (length from / 2 + k) → Filling (halves from) (length from) to (2 * k)
    → Filling (halves from) (length from) (set (set to (2 * k) v) (2 * k + 1) w) (2 * (k + 1))
filling_two from {to} k v w h e g b =
    let n = length from in
    let m : 2 * k + 1 + 1 ≡ 2 * (k + 1) = omega arith in
    subst (Filling (halves from) n _) m
    (filling_more w h (g ∙ ap (at from) (odd_from n k))
    (filling_more v (omega arith) (e ∙ ap (at from) (even_from n k)) b))

pub merged : {from to : List ℤ} (k : ℕ) → Filling (halves from) (length from) to (2 * k) → length from % 2 ≡ 0
    → length from / 2 ≤ k → Merged from to
merged k m e h = record { long = m.long; each = λ j l. m.each j (omega arith) }

-- ---- four merges
halved_below : (n j : ℕ) → n % 2 ≡ 0 → j < n → halved n j < n
halved_below n j e h = by (dec_lt (j % 2) 1)
  where
    by : Dec (j % 2 < 1) → halved n j < n
    by (yes p) = rw (eq-eqb (j % 2) 0 (omega arith)) (omega arith)
    by (no p) = rw (ne_eqb (j % 2) 0 (λ q. omega arith)) (omega arith)

-- the row b is the row a, the j-th byte from place f j
record From (a : List ℤ) (f : ℕ → ℕ) (b : List ℤ) : Type 0 where
  long : length b ≡ length a
  each : (j : ℕ) → j < length a → at b j ≡ at a (f j)

-- one merge more
then : {a b c : List ℤ} {f : ℕ → ℕ} → length a % 2 ≡ 0 → From a f b → Merged b c
    → From a (λ j. f (halved (length a) j)) c
then {a} {b} {c} {f} even g m = record {
  long = m.long ∙ g.long;
  each = λ j h. m.each j (omega (arith, g.long)) ∙ ap (λ (n : ℕ). at b (halved n j)) g.long
      ∙ g.each (halved (length a) j) (halved_below (length a) j even h);
}

pub rows_turned : {a b c d e : List ℤ} → length a % 2 ≡ 0 → Merged a b → Merged b c → Merged c d → Merged d e
    → Turned a e
rows_turned {a} even p q r s =
    let none : From a (λ j. j) a = record { long = refl; each = λ j h. refl } in
    let four = then even (then even (then even (then even none p) q) r) s in
    record { long = four.long; each = four.each }
