-- What the two searches for a place find: the first, and nothing only where there is none.
--     unusable_first, unusable_none    a chip that cannot be read, all before it can
--     odd_first, odd_none              a growth by 1 or 3, all before it by 0 or 2
-- By induction on what is searched. Assumes nothing.
use mathlib.Core.Path.{◌≡◌, refl, sym, ◌∙◌, subst}
use mathlib.Core.Bool.{Bool, true, false, cond, not}
use mathlib.Core.List.{List, [], ◌∷◌}
use Rattle.std.specs.Prelude.{Option, None, Some}
use Prim.Native.Nat.{ℕ, zero, suc, ◌+◌, ◌*◌, ◌%◌, ◌<◌}
use native.Mathlib.Omega.{arith}
use borrow.Author.Tests.{eqb-true, eqb-false}
use lib.Dec.{T, eqb}
use lib.ListN.{length, get_or}
use Rattle.rules_chips.specs.Chips.{Taken, unusable, counted, is_unusable}
use Rattle.rules_reading.specs.Reading.{first_unusable, first_odd}

-- ---- a place that was found
one_place : {p q : ℕ} → Some p ≡ Some q → p ≡ q
one_place {p} {q} e = cc

pub no_place : {p : ℕ} {o : Option ℕ} → o ≡ None → o ≡ Some p → ⊥
no_place e f = subst IsNone (sym e ∙ f) tt
  where
    IsNone : Option ℕ → Type 0
    IsNone None = Unit {0}
    IsNone (Some q) = ⊥

-- ---- 9
pub record FirstUnusable (at : ℕ) (cs : List Taken) (p : ℕ) : Type 0 where
  pub index : ℕ
  pub place_is : p ≡ at + index
  pub inside : index < length cs
  pub is_one : T (is_unusable (get_or cs index unusable))
  pub before : (i : ℕ) → i < index → T (not (is_unusable (get_or cs i unusable)))

pub unusable_first : (at : ℕ) (cs : List Taken) (p : ℕ) → first_unusable at cs ≡ Some p → FirstUnusable at cs p
unfolding first_unusable
unusable_first at [] p e = absurd (no_place refl e)
unusable_first at (unusable ∷ cs) p e =
    let f : at ≡ p = one_place e in
    record {
      index = 0;
      place_is = omega (arith, f);
      inside = omega arith;
      is_one = tt;
      before = λ i l. absurd (omega (arith, l));
    }
unusable_first at (counted c ∷ cs) p e =
    let f = unusable_first (suc at) cs p e in
    record {
      index = suc f.index;
      place_is = omega (arith, f.place_is);
      inside = omega (arith, f.inside);
      is_one = f.is_one;
      before = go f;
    }
  where
    go : (f : FirstUnusable (suc at) cs p) (i : ℕ) → i < suc f.index
        → T (not (is_unusable (get_or (counted c ∷ cs) i unusable)))
    go f zero l = tt
    go f (suc i) l = f.before i (omega (arith, l))

pub unusable_none : (at : ℕ) (cs : List Taken) → first_unusable at cs ≡ None → (i : ℕ) → i < length cs
    → T (not (is_unusable (get_or cs i unusable)))
unfolding first_unusable
unusable_none at [] e i h = absurd (omega arith)
unusable_none at (unusable ∷ cs) e i h = absurd (no_place e refl)
unusable_none at (counted c ∷ cs) e zero h = tt
unusable_none at (counted c ∷ cs) e (suc i) h = unusable_none (suc at) cs e i (omega arith)

-- ---- 10
pub record FirstOdd (at : ℕ) (gs : List ℕ) (p : ℕ) : Type 0 where
  pub index : ℕ
  pub place_is : p ≡ at + 11 * index
  pub inside : index < length gs
  pub odd : get_or gs index 0 % 2 ≡ 1
  pub before : (i : ℕ) → i < index → get_or gs i 0 % 2 ≡ 0

even : (x : ℕ) → (x % 2 ≡ 1 → ⊥) → x % 2 ≡ 0
even x n = go (x % 2) (omega arith) n
  where
    go : (y : ℕ) → y < 2 → (y ≡ 1 → ⊥) → y ≡ 0
    go zero a b = refl
    go (suc zero) a b = absurd (b refl)
    go (suc (suc y)) a b = absurd (omega arith)

pub odd_first : (at : ℕ) (gs : List ℕ) (p : ℕ) → first_odd at gs ≡ Some p → FirstOdd at gs p
unfolding first_odd
odd_first at [] p e = absurd (no_place refl e)
odd_first at (g ∷ gs) p e =
    by (eqb (g % 2) 1) e (eqb-true (g % 2) 1) (eqb-false (g % 2) 1) (odd_first (at + 11) gs p)
  where
    here : at ≡ p → g % 2 ≡ 1 → FirstOdd at (g ∷ gs) p
    here f o =
        record {
          index = 0;
          place_is = omega (arith, f);
          inside = omega arith;
          odd = o;
          before = λ i l. absurd (omega (arith, l));
        }

    later : (g % 2 ≡ 1 → ⊥) → FirstOdd (at + 11) gs p → FirstOdd at (g ∷ gs) p
    later n f =
        record {
          index = suc f.index;
          place_is = omega (arith, f.place_is);
          inside = omega (arith, f.inside);
          odd = f.odd;
          before = go;
        }
      where
        go : (i : ℕ) → i < suc f.index → get_or (g ∷ gs) i 0 % 2 ≡ 0
        go zero l = even g n
        go (suc i) l = f.before i (omega (arith, l))

    by : (b : Bool) → cond b (Some at) (first_odd (at + 11) gs) ≡ Some p → (b ≡ true → g % 2 ≡ 1)
        → (b ≡ false → g % 2 ≡ 1 → ⊥) → (first_odd (at + 11) gs ≡ Some p → FirstOdd (at + 11) gs p)
        → FirstOdd at (g ∷ gs) p
    by true e y n more = here (one_place e) (y refl)
    by false e y n more = later (n refl) (more e)

pub odd_none : (at : ℕ) (gs : List ℕ) → first_odd at gs ≡ None → (i : ℕ) → i < length gs → get_or gs i 0 % 2 ≡ 0
unfolding first_odd
odd_none at [] e i h = absurd (omega arith)
odd_none at (g ∷ gs) e i h = by (eqb (g % 2) 1) e (eqb-false (g % 2) 1) (odd_none (at + 11) gs) i h
  where
    by : (b : Bool) → cond b (Some at) (first_odd (at + 11) gs) ≡ None → (b ≡ false → g % 2 ≡ 1 → ⊥)
        → (first_odd (at + 11) gs ≡ None → (i : ℕ) → i < length gs → get_or gs i 0 % 2 ≡ 0) → (i : ℕ)
        → i < suc (length gs) → get_or (g ∷ gs) i 0 % 2 ≡ 0
    by true e n more i h = absurd (no_place e refl)
    by false e n more zero h = even g (n refl)
    by false e n more (suc i) h = more e i (omega arith)
