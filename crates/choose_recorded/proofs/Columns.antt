-- Symbols put into a row as columns, once for numbers of any width.
--     column_none, column_more      the chips of a column: before the loop, one chip more
--     columns_none, columns_more    the symbols of a row: before the loop, one column more
--     zeros_within, column_within   a row of zeros has small numbers, and a row that has stays so
--     hard_column_lem, soft_column_lem      a column is the recording's symbol: in full chips, in counts
-- Assumes nothing.
use mathlib.Core.Path.{◌≡◌, refl, sym, ap, ◌∙◌, subst}
use mathlib.Core.List.{List, map}
use Prim.Native.Nat.{ℕ, ◌+◌, ◌*◌, ◌/◌, ◌%◌, ◌≤◌, ◌<◌}
use native.Mathlib.Decide.{dec_lt}
use native.Mathlib.Omega.{arith}
use lib.ListN.{
  length,
  get_or,
  set,
  take,
  drop,
  replicate,
  length-set,
  length-replicate,
  get_or-replicate,
  get_or-eq_default,
}
use lib.Seq.{get_or-set_same, get_or-set_other}
use lib.IntN.{ℤ, pos}
use lib.Ieee.{Float}
use Rattle.base.specs.Whole.{Within}
use Rattle.base.proofs.Whole.{within_zero}
use Rattle.base.proofs.Tables.{length_tabulate, tabulate_ext, as_table}
use Rattle.choose_axes.specs.declared.Axis.TheVariants.{I, Q}
use Rattle.choose_axes.specs.Axes.{unit_of}
use Rattle.rules_chips.specs.Chips.{taken_counts, soft_recording}
use Rattle.rules_choosing.specs.Scores.{RowWithin}
use Rattle.choose_sums.specs.Sums.{rows, every_row}
use Rattle.choose_sums.proofs.Apart.{counts_eight, units_rows}
use Rattle.choose_recorded.specs.Recorded.{hard_part, soft_part}
use Rattle.choose_recorded.specs.Columns.{ColumnSet, Columns, hard_column, soft_column}
use Rattle.choose_recorded.proofs.Gathered.{gathered_soft}

abbrev at : List ℤ → ℕ → ℤ
at row j = get_or row j (pos 0)

-- ---- two numbers set, at two places
module _ {A : Type 0} (d : A) (row : List A) (i q : ℕ) (v w : A) where
  abbrev two : List A
  two = set (set row i v) q w

  two_long : length two ≡ length row
  two_long = length-set (set row i v) q w ∙ length-set row i v

  two_first : i < length row → (i ≡ q → ⊥) → get_or two i d ≡ v
  two_first h e = get_or-set_other (set row i v) q i w d e ∙ get_or-set_same row i v d h

  two_second : q < length row → get_or two q d ≡ w
  two_second h = get_or-set_same (set row i v) q w d (omega (arith, length-set row i v))

  two_other : (j : ℕ) → (j ≡ i → ⊥) → (j ≡ q → ⊥) → get_or two j d ≡ get_or row j d
  two_other j e f = get_or-set_other (set row i v) q j w d f ∙ get_or-set_other row i j v d e

-- ---- a column, chip by chip
pub column_none : {A : Type 0} (d : A) (x y : List A) (l : ℕ) (row : List A) → ColumnSet d x y l row 0 row
column_none d x y l row = record {
  long = refl;
  first = λ k h. absurd (omega arith);
  second = λ k h. absurd (omega arith);
  kept = λ j h. refl;
}

module _ {A : Type 0} {d : A} {x y : List A} {l : ℕ} {before : List A} {n : ℕ} {row : List A} (v w : A)
    (c : ColumnSet d x y l before n row) (few : n < 8) (there : l < 16) (all : length before ≡ 256)
    (ev : v ≡ get_or x n d) (ew : w ≡ get_or y n d) where
  abbrev item : List A → ℕ → A
  item xs j = get_or xs j d

  abbrev next : List A
  next = two d row (32 * n + l) (32 * n + l + 16) v w

  first_next : (k : ℕ) → k < n + 1 → Dec (k < n) → item next (l + 32 * k) ≡ item x k
  first_next k h (yes p) =
      two_other d row (32 * n + l) (32 * n + l + 16) v w (l + 32 * k) (λ e. omega arith) (λ e. omega arith) ∙ c.first k p
  first_next k h (no p) =
      let e : n ≡ k = omega arith in
      let p : 32 * n + l ≡ l + 32 * k = omega arith in
      (λ t. item next (sym p t))
      ∙ two_first d row (32 * n + l) (32 * n + l + 16) v w (omega (arith, c.long)) (λ g. omega arith) ∙ ev ∙ ap (item x) e

  second_next : (k : ℕ) → k < n + 1 → Dec (k < n) → item next (16 + l + 32 * k) ≡ item y k
  second_next k h (yes p) =
      two_other d row (32 * n + l) (32 * n + l + 16) v w (16 + l + 32 * k) (λ e. omega arith) (λ e. omega arith)
      ∙ c.second k p
  second_next k h (no p) =
      let e : n ≡ k = omega arith in
      let p : 32 * n + l + 16 ≡ 16 + l + 32 * k = omega arith in
      (λ t. item next (sym p t)) ∙ two_second d row (32 * n + l) (32 * n + l + 16) v w (omega (arith, c.long)) ∙ ew
      ∙ ap (item y) e

  pub column_more : ColumnSet d x y l before (n + 1) (set (set row (32 * n + l) v) (32 * n + l + 16) w)
  column_more = record {
    long = two_long d row (32 * n + l) (32 * n + l + 16) v w ∙ c.long;
    first = λ k h. first_next k h (dec_lt k n);
    second = λ k h. second_next k h (dec_lt k n);
    kept = λ j h. two_other d row (32 * n + l) (32 * n + l + 16) v w j (λ e. h (omega arith)) (λ e. h (omega arith))
        ∙ c.kept j h;
  }

-- ---- a row, column by column
pub columns_none : (x y : ℕ → List ℤ) (row : List ℤ) → length row ≡ 256 → Columns x y row 0
columns_none x y row e =
    record { long = e; first = λ s h. absurd (omega arith); second = λ s h. absurd (omega arith) }

-- a column that was there, and one that was set
same_column : {u v row after : List ℤ} {n : ℕ} → ColumnSet (pos 0) u v n row 8 after → (from : ℕ) → (from % 16 ≡ n → ⊥)
    → every_row after from 8 ≡ every_row row from 8
same_column c from h = tabulate_ext _ _ 8 (λ k l. c.kept (from + 32 * k) (λ e. h (omega arith)))

set_column : (after z : List ℤ) (from : ℕ) → length z ≡ 8 → ((k : ℕ) → k < 8 → at after (from + 32 * k) ≡ at z k)
    → every_row after from 8 ≡ z
set_column after z from e h = tabulate_ext _ (at z) 8 h ∙ sym (as_table z 8 (pos 0) e)

pub columns_more : {x y : ℕ → List ℤ} {row after u v : List ℤ} {n : ℕ} → Columns x y row n → n < 16
    → ColumnSet (pos 0) u v n row 8 after → length u ≡ 8 → length v ≡ 8 → u ≡ x n → v ≡ y n → Columns x y after (n + 1)
columns_more {x} {y} {row} {after} {u} {v} {n} b few c lu lv eu ev = record {
  long = c.long ∙ b.long;
  first = λ s h. by_first s h (dec_lt s n);
  second = λ s h. by_second s h (dec_lt s n);
}
  where
    by_first : (s : ℕ) → s < n + 1 → Dec (s < n) → every_row after s 8 ≡ x s
    by_first s h (yes p) = same_column c s (λ e. omega arith) ∙ b.first s p
    by_first s h (no p) =
        let e : n ≡ s = omega arith in
        subst (λ (m : ℕ). every_row after m 8 ≡ x m) e (set_column after u n lu c.first ∙ eu)

    by_second : (s : ℕ) → s < n + 1 → Dec (s < n) → every_row after (16 + s) 8 ≡ y s
    by_second s h (yes p) = same_column c (16 + s) (λ e. omega arith) ∙ b.second s p
    by_second s h (no p) =
        let e : n ≡ s = omega arith in
        subst (λ (m : ℕ). every_row after (16 + m) 8 ≡ y m) e (set_column after v (16 + n) lv c.second ∙ ev)

-- ---- small numbers
pub zeros_within : (b n : ℕ) → RowWithin b (replicate n (pos 0))
zeros_within b n = record { at = λ j. by j (dec_lt j n) }
  where
    by : (j : ℕ) → Dec (j < n) → Within b (at (replicate n (pos 0)) j)
    by j (yes h) = rw (get_or-replicate n j (pos 0) (pos 0) h) (within_zero b)
    by j (no h) =
        rw (get_or-eq_default (replicate n (pos 0)) (pos 0) {n = j} (omega (arith, length-replicate n (pos 0))))
        (within_zero b)

module _ {b : ℕ} {x y : List ℤ} {l : ℕ} {before after : List ℤ} (all : length before ≡ 256)
    (c : ColumnSet (pos 0) x y l before 8 after) (wx : RowWithin b x) (wy : RowWithin b y) (w : RowWithin b before) where
  -- in the column, on either axis; elsewhere; past the row
  column_small : (j : ℕ) → j % 16 ≡ l → j < 256 → Dec (j % 32 < 16) → Within b (at after j)
  column_small j e h (yes p) =
      let d : l + 32 * (j / 32) ≡ j = omega arith in
      subst (λ (m : ℕ). Within b (at after m)) d (rw (c.first (j / 32) (omega arith)) (wx.at (j / 32)))
  column_small j e h (no p) =
      let d : 16 + l + 32 * (j / 32) ≡ j = omega arith in
      subst (λ (m : ℕ). Within b (at after m)) d (rw (c.second (j / 32) (omega arith)) (wy.at (j / 32)))

  small_at : (j : ℕ) → Dec (j < 256) → Dec (j % 16 < l) → Dec (l < j % 16) → Within b (at after j)
  small_at j (yes p) (no q) (no r) = column_small j (omega arith) p (dec_lt (j % 32) 16)
  small_at j (yes p) (yes q) d = rw (c.kept j (λ e. omega arith)) (w.at j)
  small_at j (yes p) (no q) (yes r) = rw (c.kept j (λ e. omega arith)) (w.at j)
  small_at j (no p) d e = rw (get_or-eq_default after (pos 0) {n = j} (omega (arith, c.long))) (within_zero b)

  pub column_within : RowWithin b after
  column_within = record { at = λ j. small_at j (dec_lt j 256) (dec_lt (j % 16) l) (dec_lt l (j % 16)) }

-- ---- what a column is: n symbols stand in a row, the first being the recording's symbol l from a place
module _ (at l n s : ℕ) (there : s < n) where
  -- symbol s of the row is the recording's symbol l + s
  on : at + 8 * l + 8 * s ≡ at + 8 * (l + s)
  on = omega arith

  column_is : {x y : ℕ → List ℤ} {row : List ℤ} → Columns x y row n
      → rows (every_row row s 8) (every_row row (16 + s) 8) ≡ rows (x s) (y s)
  column_is c = λ i. rows (c.first s there i) (c.second s there i)

  pub hard_column_lem : {row : List ℤ} (xs : List ℕ)
      → Columns (hard_column I xs (at + 8 * l)) (hard_column Q xs (at + 8 * l)) row n
      → rows (every_row row s 8) (every_row row (16 + s) 8) ≡ map unit_of (hard_part xs (at + 8 * (l + s)) 8)
  hard_column_lem xs c =
      column_is c ∙ units_rows (hard_part xs (at + 8 * l + 8 * s) 8) (length_tabulate _ 8)
      ∙ ap (λ (m : ℕ). map unit_of (hard_part xs m 8)) on

  pub soft_column_lem : {row : List ℤ} (xs ys : List Float)
      → Columns (soft_column I xs ys (at + 8 * l)) (soft_column Q xs ys (at + 8 * l)) row n
      → at + 8 * l + 8 * n ≤ length xs → at + 8 * l + 8 * n ≤ length ys
      → rows (every_row row s 8) (every_row row (16 + s) 8)
      ≡ map taken_counts (take 8 (drop (at + 8 * (l + s)) (soft_recording xs ys)))
  soft_column_lem xs ys c h k =
      let from = at + 8 * l + 8 * s in
      column_is c ∙ counts_eight (soft_part xs ys from 8) (length_tabulate _ 8)
      ∙ gathered_soft 8 xs ys from (omega arith, omega arith)
      ∙ ap (λ (m : ℕ). map taken_counts (take 8 (drop m (soft_recording xs ys)))) on
