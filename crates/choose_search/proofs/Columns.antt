-- Columns of rows of keys and groups, read and written as whole numbers.
--     read_as          an element that was read
--     in_columns       a column of one of sixteen
--     quartered_column the groups of one p3 in one column more
-- Assumes nothing.
use Rattle.std.proofs.Common.{◌≡◌, ℕ, ℤ, ◌+◌, ◌*◌, ◌<◌, List, length, map, set, get_or, ap, sym, subst, ◌∙◌}
use Rattle.std.proofs.lemmas.List.{map-set, length-map, get_or-map}
use Rattle.choose_walsh.specs.Rows.{row_at}
use Rattle.choose_walsh.specs.Search.{held, held_at, four_more, Quartered}
use Rattle.choose_walsh.proofs.Search.{quartered_more}

pub read_as : {A B : Type 0} (f : A → B) (xs : List A) (i : ℕ) {x : A} (e : B) → i < length xs → x ≡ get_or xs i x
    → f x ≡ get_or (map f xs) i e
read_as f xs i {x} e h is = ap f is ∙ sym (get_or-map f xs i x e h)

module _ {A : Type 0} (value : A → ℤ) (number : A → ℕ) where
  pub quartered_column : {a : List ℤ} {p3 : ℕ} (first₀ second₀ at₀ : List A) {n : ℕ} (first second at : List A)
      {v t g : A}
      → Quartered a p3 (map value first₀) (map value second₀) (map number at₀) n (map value first) (map value second)
      (map number at) → n < length first₀ → n < length second₀ → n < length at₀
      → held (value v) (value t) (number g)
      ≡ four_more (held_at (map value first) (map value second) (map number at) n) (row_at a (384 + 32 * p3) n)
      (row_at a (128 + 32 * p3) n) (row_at a (256 + 32 * p3) n) (row_at a (0 + 32 * p3) n) (4 * p3)
      → Quartered a p3 (map value first₀) (map value second₀) (map number at₀) (n + 1) (map value (set first n v))
      (map value (set second n t)) (map number (set at n g))
  quartered_column first₀ second₀ at₀ first second at {v} {t} {g} q hf hs ha e =
      simp map-set (quartered_more (value v) (value t) (number g) q (rw (length-map first₀ value) hf)
      (rw (length-map second₀ value) hs) (rw (length-map at₀ number) ha) e)

pub in_columns : {A B : Type 0} (f : A → B) (xs : List A) {i n : ℕ} → length (map f xs) ≡ n → i < n → i < length xs
in_columns f xs {i} e h = subst (λ (n : ℕ). i < n) (sym e ∙ length-map xs f) h
