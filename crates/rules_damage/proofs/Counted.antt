-- Wrong and lost chips, counted by the definitions (`wrong`, `lost`, `damage`), are how many there are in plain numbers
-- (`SoMany`).
--     wrong_many, lost_many                  of a stretch of chips
--     wrong_all, lost_all                    of whole rows
--     damage_length, wrong_at, lost_at       a row of m symbols: two numbers a symbol, by the symbol's own chips
-- By induction over the places. Assumes nothing.
use mathlib.Core.Path.{◌≡◌, refl, sym, ap, ap₂, ◌∙◌, subst}
use mathlib.Core.Bool.{Bool, true, false, not, cond, ◌&&◌}
use mathlib.Core.List.{List}
use Prim.Native.Nat.{ℕ, zero, suc, ◌+◌, ◌*◌, ◌≤◌, ◌<◌}
use native.Mathlib.Nat.{zero-add, le_of_suc-le-suc, not-suc-le-zero}
use native.Mathlib.Decide.{dec_lt, ℕ_discrete}
use native.Mathlib.Omega.{arith}
use borrow.Author.Tests.{eq-eqb, ne_eqb, lt-ltb, le-ltb}
use lib.Dec.{ltb}
use lib.ListN.{length, get_or, take, drop}
use lib.Seq.{drop-cons, take_all}
use Rattle.base.specs.SoMany.{SoMany, no_place, such, other}
use Rattle.rules_damage.specs.Damage.{is_wrong, is_lost, wrong, lost, damage}
use Rattle.rules_damage.specs.Plain.{WrongAt, LostAt}
use Rattle.rules_damage.proofs.Row.{nth_symbol, symbol_first, symbol_next}

-- ---- a chip that is wrong, and one that is not: it is right, or no phase
wrong_chip : (p x : ℕ) → x < 4 → (x ≡ p → ⊥) → is_wrong p x ≡ true
wrong_chip p x l ne = rw (lt-ltb x 4 l, ne_eqb x p ne)

right_chip : (p x : ℕ) → x ≡ p → is_wrong p x ≡ false
right_chip p x e = ap (λ (b : Bool). ltb x 4 && not b) (eq-eqb x p e) ∙ never (ltb x 4)
  where
    never : (b : Bool) → (b && false) ≡ false
    never true = refl
    never false = refl

no_phase_chip : (p x : ℕ) → 4 ≤ x → is_wrong p x ≡ false
no_phase_chip p x l = rw (le-ltb x 4 l)

-- ---- one place more
module _ (Such : ℕ → Type 0) (at c m : ℕ) (more : SoMany Such (suc at) c m) where
  is_such : {b : Bool} → b ≡ true → Such at → SoMany Such at (suc c) (cond b 1 0 + m)
  is_such e h = rw e (subst (SoMany Such at (suc c)) (one_more m) (such h more))
    where
      one_more : (m : ℕ) → suc m ≡ 1 + m
      one_more m = omega arith

  is_other : {b : Bool} → b ≡ false → (Such at → ⊥) → SoMany Such at (suc c) (cond b 1 0 + m)
  is_other e h = rw e (subst (SoMany Such at (suc c)) (sym (zero-add m)) (other h more))

-- ---- stretches of chips
wrong_first : (sent rec : List ℕ) (at c m : ℕ) → SoMany (WrongAt sent rec) (suc at) c m
    → SoMany (WrongAt sent rec) at (suc c) (cond (is_wrong (get_or sent at 0) (get_or rec at 0)) 1 0 + m)
wrong_first sent rec at c m more = by (dec_lt x 4) (ℕ_discrete x p)
  where
    p : ℕ
    p = get_or sent at 0

    x : ℕ
    x = get_or rec at 0

    by : Dec (x < 4) → Dec (x ≡ p) → SoMany (WrongAt sent rec) at (suc c) (cond (is_wrong p x) 1 0 + m)
    by (yes l) (no ne) = is_such (WrongAt sent rec) at c m more (wrong_chip p x l ne) (l, ne)
    by (yes l) (yes e) = is_other (WrongAt sent rec) at c m more (right_chip p x e) (λ h. h.1 e)
    by (no g) (yes e) = is_other (WrongAt sent rec) at c m more (right_chip p x e) (λ h. h.1 e)
    by (no g) (no ne) =
        is_other (WrongAt sent rec) at c m more (no_phase_chip p x (omega arith)) (λ h. g h.0)

pub wrong_many : (c at : ℕ) (sent rec : List ℕ) → at + c ≤ length sent → at + c ≤ length rec
    → SoMany (WrongAt sent rec) at c (wrong (take c (drop at sent)) (take c (drop at rec)))
unfolding wrong
wrong_many zero at sent rec hs hr = no_place
wrong_many (suc c) at sent rec hs hr =
    rw (drop-cons sent at 0 (omega arith), drop-cons rec at 0 (omega arith))
    (wrong_first sent rec at c (wrong (take c (drop (suc at) sent)) (take c (drop (suc at) rec)))
    (wrong_many c (suc at) sent rec (omega arith) (omega arith)))

lost_first : (rec : List ℕ) (at c m : ℕ) → SoMany (LostAt rec) (suc at) c m
    → SoMany (LostAt rec) at (suc c) (cond (is_lost (get_or rec at 0)) 1 0 + m)
lost_first rec at c m more = by (ℕ_discrete x 4)
  where
    x : ℕ
    x = get_or rec at 0

    by : Dec (x ≡ 4) → SoMany (LostAt rec) at (suc c) (cond (is_lost x) 1 0 + m)
    by (yes e) = is_such (LostAt rec) at c m more (eq-eqb x 4 e) e
    by (no ne) = is_other (LostAt rec) at c m more (ne_eqb x 4 ne) ne

pub lost_many : (c at : ℕ) (rec : List ℕ) → at + c ≤ length rec
    → SoMany (LostAt rec) at c (lost (take c (drop at rec)))
unfolding lost
lost_many zero at rec h = no_place
lost_many (suc c) at rec h =
    rw (drop-cons rec at 0 (omega arith))
    (lost_first rec at c (lost (take c (drop (suc at) rec))) (lost_many c (suc at) rec (omega arith)))

-- all chips of two rows as long
pub wrong_all : (c : ℕ) (sent rec : List ℕ) → length sent ≡ c → length rec ≡ c
    → SoMany (WrongAt sent rec) 0 c (wrong sent rec)
wrong_all c sent rec es er =
    subst (SoMany (WrongAt sent rec) 0 c)
    (ap₂ {C = ℕ} (λ x y. wrong x y) (take_all c sent (omega (arith, es))) (take_all c rec (omega (arith, er))))
    (wrong_many c 0 sent rec (omega (arith, es)) (omega (arith, er)))

pub lost_all : (c : ℕ) (rec : List ℕ) → length rec ≡ c → SoMany (LostAt rec) 0 c (lost rec)
lost_all c rec e =
    subst (SoMany (LostAt rec) 0 c) (ap lost (take_all c rec (omega (arith, e))))
    (lost_many c 0 rec (omega (arith, e)))

-- ---- a row of m symbols
pub damage_length : (c m : ℕ) (sent rec : List ℕ) → length (damage c m sent rec) ≡ 2 * m
unfolding damage
damage_length c zero sent rec = refl
damage_length c (suc m) sent rec = let e = damage_length c m (drop c sent) (drop c rec) in omega (arith, e)

module _ (c : ℕ) where
  further : (j : ℕ) → 2 * suc j ≡ suc (suc (2 * j))
  further j = omega arith

  pub wrong_at : (m : ℕ) (sent rec : List ℕ) (j : ℕ) → j < m
      → get_or (damage c m sent rec) (2 * j) 0 ≡ wrong (nth_symbol c j sent) (nth_symbol c j rec)
  unfolding damage
  wrong_at zero sent rec j h = absurd (not-suc-le-zero h)
  wrong_at (suc m) sent rec zero h =
      ap₂ {C = ℕ} (λ x y. wrong x y) (sym (symbol_first c sent)) (sym (symbol_first c rec))
  wrong_at (suc m) sent rec (suc j) h =
      ap (λ (i : ℕ). get_or (damage c (suc m) sent rec) i 0) (further j)
      ∙ wrong_at m (drop c sent) (drop c rec) j (le_of_suc-le-suc h)
      ∙ ap₂ {C = ℕ} (λ x y. wrong x y) (symbol_next c j sent) (symbol_next c j rec)

  pub lost_at : (m : ℕ) (sent rec : List ℕ) (j : ℕ) → j < m
      → get_or (damage c m sent rec) (suc (2 * j)) 0 ≡ lost (nth_symbol c j rec)
  unfolding damage
  lost_at zero sent rec j h = absurd (not-suc-le-zero h)
  lost_at (suc m) sent rec zero h = ap lost (sym (symbol_first c rec))
  lost_at (suc m) sent rec (suc j) h =
      ap (λ (i : ℕ). get_or (damage c (suc m) sent rec) (suc i) 0) (further j)
      ∙ lost_at m (drop c sent) (drop c rec) j (le_of_suc-le-suc h)
      ∙ ap lost (symbol_next c j rec)
