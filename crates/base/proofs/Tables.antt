-- Laws of tables, once for every length and element.
--     get_or_tabulate, tabulate_ext, tabulate_all    an entry, two tables with the same entries, what all entries share
--     filled_none, filled_more, filled_all         a loop that fills an array: before it, one more, after it
--     filled_with                                  what all of its entries share
--     map_tabulate, as_table                       a list is the table of its elements
-- Assumes nothing.
use mathlib.Core.Path.{◌≡◌, refl, sym, ap, ◌∙◌, subst}
use mathlib.Core.List.{List, [], ◌∷◌, ◌++◌, map}
use Prim.Native.Nat.{ℕ, zero, suc, ◌+◌, ◌≤◌, ◌<◌, zero-le}
use native.Mathlib.Nat.{le_antisymm, not-suc-le-zero}
use native.Mathlib.Decide.{dec_lt}
use native.Mathlib.Numerals.{add-one}
use native.Mathlib.Omega.{arith}
use lib.ListN.{
  length,
  get_or,
  set,
  length-append,
  length-set,
  length-map,
  get_or-append,
  get_or-map,
  get_or-eq_default,
}
use lib.Seq.{take-suc-set, take_all, ext_get_or, get_or_at}
use Rattle.base.specs.Tables.{tabulate, Filled}

module _ {A : Type 0} where
  pub length_tabulate : (f : ℕ → A) (n : ℕ) → length (tabulate f n) ≡ n
  unfolding tabulate
  length_tabulate f zero = refl
  length_tabulate f (suc n) =
      length-append (tabulate f n) (f n ∷ []) ∙ ap (λ (k : ℕ). k + 1) (length_tabulate f n) ∙ add-one n

  pub get_or_tabulate : (f : ℕ → A) (n i : ℕ) (d : A) → i < n → get_or (tabulate f n) i d ≡ f i
  unfolding tabulate
  get_or_tabulate f zero i d h = absurd (not-suc-le-zero h)
  get_or_tabulate f (suc n) i d h = by (dec_lt i n) (get_or_tabulate f n i d)
    where
      by : Dec (i < n) → (i < n → get_or (tabulate f n) i d ≡ f i) → get_or (tabulate f n ++ (f n ∷ [])) i d ≡ f i
      by (yes p) rest =
          get_or-append (tabulate f n) (f n ∷ []) d i (subst (λ (k : ℕ). i < k) (sym (length_tabulate f n)) p)
          ∙ rest p
      by (no q) rest =
          let e : n ≡ i = omega arith in
          get_or_at (tabulate f n) (f n) [] d i (length_tabulate f n ∙ e) ∙ ap f e

  pub tabulate_ext : (f g : ℕ → A) (n : ℕ) → ((j : ℕ) → j < n → f j ≡ g j) → tabulate f n ≡ tabulate g n
  unfolding tabulate
  tabulate_ext f g zero e = refl
  tabulate_ext f g (suc n) e =
      let t : tabulate f n ≡ tabulate g n = tabulate_ext f g n (λ j h. e j (omega arith)) in
      λ i. t i ++ (e n (omega arith) i ∷ [])

  -- what holds of each value and of what stands for one past the end
  pub tabulate_all : (P : A → Type 0) (f : ℕ → A) (n : ℕ) (d : A) → P d → ((j : ℕ) → P (f j)) → (j : ℕ)
      → P (get_or (tabulate f n) j d)
  tabulate_all P f n d z h j = by (dec_lt j n)
    where
      by : Dec (j < n) → P (get_or (tabulate f n) j d)
      by (yes p) = rw (get_or_tabulate f n j d p) (h j)
      by (no q) = rw (get_or-eq_default (tabulate f n) d {n = j} (omega (arith, length_tabulate f n))) z

  pub filled_none : (f : ℕ → A) (n : ℕ) (out : List A) → length out ≡ n → Filled f n out 0
  unfolding tabulate
  filled_none f n out e = record { within = zero-le; len = e; front = refl }

  pub filled_more : {f : ℕ → A} {n : ℕ} {out : List A} {k : ℕ} (v : A) → Filled f n out k → k < n → v ≡ f k
      → Filled f n (set out k v) (k + 1)
  unfolding tabulate
  filled_more {f} {n} {out} {k} v w h e = record {
    within = omega arith;
    len = length-set out k v ∙ w.len;
    front =
        rw add-one (take-suc-set out k v (subst (λ (m : ℕ). k < m) (sym w.len) h) ∙ (λ i. w.front i ++ (e i ∷ [])));
  }

  pub filled_all : {f : ℕ → A} {n : ℕ} {out : List A} {k : ℕ} → Filled f n out k → n ≤ k → out ≡ tabulate f n
  filled_all {f} {n} {out} {k} w h =
      let e : k ≡ n = le_antisymm w.within h in
      sym (take_all k out (omega (arith, w.len))) ∙ w.front ∙ ap (tabulate f) e

  -- what holds of each value filled in holds of all of the array
  pub filled_with : (P : A → Type 0) {f : ℕ → A} {n : ℕ} {out : List A} {k : ℕ} (d : A) → P d → Filled f n out k
      → ((j : ℕ) → j < k → P (f j)) → n ≤ k → (j : ℕ) → P (get_or out j d)
  filled_with P {f} {n} {out} {k} d z w h l j = rw (filled_all w l) (by (dec_lt j n))
    where
      by : Dec (j < n) → P (get_or (tabulate f n) j d)
      by (yes p) = rw (get_or_tabulate f n j d p) (h j (omega arith))
      by (no q) = rw (get_or-eq_default (tabulate f n) d {n = j} (omega (arith, length_tabulate f n))) z

-- a list is the table of its elements, and so is what a function makes of each
pub map_tabulate : {A B : Type 0} (g : A → B) (l : List A) (n : ℕ) (d : A) → length l ≡ n → map g l
    ≡ tabulate (λ k. g (get_or l k d)) n
map_tabulate g l n d e =
    ext_get_or (g d) (map g l) (tabulate (λ k. g (get_or l k d)) n) (length-map l g ∙ e ∙ sym (length_tabulate _ n))
    (λ i h. get_or-map g l i d ∙ sym (get_or_tabulate _ n i (g d) (omega (arith, length-map l g))))

pub as_table : {A : Type 0} (l : List A) (n : ℕ) (d : A) → length l ≡ n → l ≡ tabulate (λ k. get_or l k d) n
as_table l n d e =
    ext_get_or d l (tabulate (λ k. get_or l k d) n) (e ∙ sym (length_tabulate _ n))
    (λ i h. sym (get_or_tabulate (λ k. get_or l k d) n i d (omega arith)))
