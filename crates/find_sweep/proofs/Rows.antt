-- Rows of 512 filled or worked over entry by entry: those below l are by a rule.
--     row_none, row_less                      filled
--     sides_none, sides_more                  sides, in rows of 144
--     added_none, added_more, row_added       filled from a place on
--     worked_none, worked_more, worked_row    worked over: the others are as they were
-- Assumes nothing.
use mathlib.Core.Path.{◌≡◌, refl, ◌∙◌, subst}
use mathlib.Core.List.{List}
use Prim.Native.Nat.{ℕ, ◌+◌, ◌-◌, ◌≤◌, ◌<◌}
use native.Mathlib.Decide.{dec_lt}
use native.Mathlib.Omega.{arith}
use lib.ListN.{length, get_or, set, length-set}
use lib.Seq.{get_or-set_same, get_or-set_other}
use Rattle.find_sweep.specs.Sweep.{side_of, Sides, Row, Added, Worked}

pub row_none : (f : ℕ → ℕ) (row : List ℕ) → length row ≡ 512 → Row f 0 row
row_none f row e = record { long = e; each = λ j l. absurd (omega arith) }

pub row_less : {f : ℕ → ℕ} {m : ℕ} {row : List ℕ} (n : ℕ) → n ≤ m → Row f m row → Row f n row
row_less n h r = record { long = r.long; each = λ j l. r.each j (omega arith) }

-- what holds below l of a row holds below l + 1, if its entry l is put
put_more : {f : ℕ → ℕ} (row : List ℕ) {l : ℕ} (v : ℕ) → l < length row → v ≡ f l
    → ((j : ℕ) → j < l → get_or row j 0 ≡ f j) → (j : ℕ) → j < l + 1 → get_or (set row l v) j 0 ≡ f j
put_more {f} row {l} v h e r j k = by (dec_lt j l)
  where
    by : Dec (j < l) → get_or (set row l v) j 0 ≡ f j
    by (yes p) = get_or-set_other row l j v 0 (λ q. omega arith) ∙ r j p
    by (no p) =
        let q : l ≡ j = omega arith in
        subst (λ (n : ℕ). get_or (set row l v) n 0 ≡ f n) q (get_or-set_same row l v 0 h ∙ e)

pub sides_none : (octets : List ℕ) (at : ℕ) (row : List ℕ) → length row ≡ 144 → Sides octets at 0 row
sides_none octets at row e = record { long = e; each = λ j l. absurd (omega arith) }

pub sides_more : {octets row : List ℕ} {at k : ℕ} (v : ℕ) → k < 144 → v ≡ side_of (get_or octets (at + k) 0)
    → Sides octets at k row → Sides octets at (k + 1) (set row k v)
sides_more {octets} {row} {at} {k} v h e s = record {
  long = length-set row k v ∙ s.long;
  each = put_more {f = λ j. side_of (get_or octets (at + j) 0)} row v (omega (arith, s.long)) e s.each;
}

pub sides_less : {octets row : List ℕ} {at k : ℕ} (n : ℕ) → n ≤ k → Sides octets at k row → Sides octets at n row
sides_less n h s = record { long = s.long; each = λ j l. s.each j (omega arith) }

pub added_none : (f : ℕ → ℕ) (l : ℕ) (row : List ℕ) → length row ≡ 512 → Added f l row row 0
added_none f l row e = record { long = e; kept = λ j h. refl; each = λ s h. absurd (omega arith) }

pub added_more : {f : ℕ → ℕ} {l : ℕ} {before row : List ℕ} {n : ℕ} (v : ℕ) → l + n < 512 → v ≡ f n
    → Added f l before row n → Added f l before (set row (l + n) v) (n + 1)
added_more {f} {l} {before} {row} {n} v h e a = record {
  long = length-set row (l + n) v ∙ a.long;
  kept = λ j k. get_or-set_other row (l + n) j v 0 (λ q. omega arith) ∙ a.kept j k;
  each = λ s k. by s k (dec_lt s n);
}
  where
    by : (s : ℕ) → s < n + 1 → Dec (s < n) → get_or (set row (l + n) v) (l + s) 0 ≡ f s
    by s k (yes p) = get_or-set_other row (l + n) (l + s) v 0 (λ q. omega arith) ∙ a.each s p
    by s k (no p) =
        let q : n ≡ s = omega arith in
        subst (λ (i : ℕ). get_or (set row (l + n) v) (l + i) 0 ≡ f i) q
        (get_or-set_same row (l + n) v 0 (omega (arith, a.long)) ∙ e)

pub added_less : {f : ℕ → ℕ} {l : ℕ} {before row : List ℕ} {n : ℕ} (m : ℕ) → m ≤ n → Added f l before row n
    → Added f l before row m
added_less m h a = record { long = a.long; kept = a.kept; each = λ s k. a.each s (omega arith) }

pub added_as : {f g : ℕ → ℕ} {l : ℕ} {before row : List ℕ} {n : ℕ} → ((s : ℕ) → s < n → f s ≡ g s)
    → Added f l before row n → Added g l before row n
added_as e a = record { long = a.long; kept = a.kept; each = λ s h. a.each s h ∙ e s h }

pub row_added : {f g : ℕ → ℕ} {l : ℕ} {before row : List ℕ} {n : ℕ} → ((s : ℕ) → f s ≡ g (l + s))
    → Row g l before → Added f l before row n → Row g (l + n) row
row_added {f} {g} {l} {before} {row} {n} e r a = record { long = a.long; each = λ j h. by j h (dec_lt j l) }
  where
    by : (j : ℕ) → j < l + n → Dec (j < l) → get_or row j 0 ≡ g j
    by j h (yes p) = a.kept j p ∙ r.each j p
    by j h (no p) =
        let q : l + (j - l) ≡ j = omega arith in
        subst (λ (i : ℕ). get_or row i 0 ≡ g i) q (a.each (j - l) (omega arith) ∙ e (j - l))

pub worked_none : (f : ℕ → ℕ) (row : List ℕ) → length row ≡ 512 → Worked f row 0 row
worked_none f row e = record { long = e; each = λ j l. absurd (omega arith); kept = λ j l. refl }

pub worked_more : {f : ℕ → ℕ} {before row : List ℕ} {l : ℕ} (v : ℕ) → l < 512 → v ≡ f l → Worked f before l row
    → Worked f before (l + 1) (set row l v)
worked_more {f} {before} {row} {l} v h e w = record {
  long = length-set row l v ∙ w.long;
  each = put_more row v (omega (arith, w.long)) e w.each;
  kept = λ j k. get_or-set_other row l j v 0 (λ q. omega arith) ∙ w.kept j (omega arith);
}

pub worked_row : {f : ℕ → ℕ} {before row : List ℕ} {l : ℕ} (n : ℕ) → n ≤ l → Worked f before l row → Row f n row
worked_row n h w = record { long = w.long; each = λ j k. w.each j (omega arith) }
