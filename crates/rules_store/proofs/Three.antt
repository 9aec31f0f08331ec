-- The tags of the three settings, and a test of all three: `f 1 && f 2 && f 3`.
--     tag_low, tag_high, tag_right     1, 2 and 3, and no others
--     in_three              what holds of these holds of each
--     each, each_of         it holds where each of them does
--     some_of, not_each     it fails where one of them does
-- Assumes nothing.
use mathlib.Core.Path.{◌≡◌, refl, sym, ◌∙◌}
use mathlib.Core.Bool.{Bool, true, false, ◌&&◌}
use Prim.Native.Nat.{ℕ, zero, suc, ◌≤◌, ◌<◌}
use native.Mathlib.Omega.{arith}
use borrow.Author.Tests.{leb-true, lt-leb, le-leb}
use lib.Dec.{leb}
use Rattle.base.proofs.Tests.{right_is}
use Rattle.rules_store.specs.Store.{is_setting}
use Rattle.rules_store.proofs.Places.{never}

pub tag_low : (tag : ℕ) → tag < 1 → is_setting tag ≡ false
tag_low tag h = rw (lt-leb 1 tag h)

pub tag_high : (tag : ℕ) → 1 ≤ tag → 3 < tag → is_setting tag ≡ false
tag_high tag h k = rw (le-leb 1 tag h, lt-leb tag 3 k)

pub tag_right : (tag : ℕ) → 1 ≤ tag → tag ≤ 3 → is_setting tag ≡ true
tag_right tag h k = rw (le-leb 1 tag h, le-leb tag 3 k)

pub in_three : (P : ℕ → Type 0) → P 1 → P 2 → P 3 → (t : ℕ) → is_setting t ≡ true → P t
in_three P one two three zero e = absurd (never e)
in_three P one two three (suc zero) e = one
in_three P one two three (suc (suc zero)) e = two
in_three P one two three (suc (suc (suc zero))) e = three
in_three P one two three (suc (suc (suc (suc t)))) e =
    absurd
    (omega (arith, leb-true (suc (suc (suc (suc t)))) 3 (right_is (leb 1 (suc (suc (suc (suc t))))) _ e)))

-- one of the three that fails
pub record OfThree (f : ℕ → Bool) : Type 0 where
  pub tag : ℕ
  pub least : 1 ≤ tag
  pub most : tag ≤ 3
  pub fails : f tag ≡ false

module _ (f : ℕ → Bool) where
  abbrev pub three : Bool
  three = f 1 && f 2 && f 3

  pub each : three ≡ true → (t : ℕ) → is_setting t ≡ true → f t ≡ true
  each = by (f 1) (f 2) (f 3) refl refl refl
    where
      by : (a b c : Bool) → f 1 ≡ a → f 2 ≡ b → f 3 ≡ c → (a && b && c) ≡ true → (t : ℕ) → is_setting t ≡ true
          → f t ≡ true
      by true true true p q r e = in_three (λ t. f t ≡ true) p q r
      by false b c p q r e = absurd (never e)
      by true false c p q r e = absurd (never e)
      by true true false p q r e = absurd (never e)

  pub each_of : ((t : ℕ) → 1 ≤ t → t ≤ 3 → f t ≡ true) → three ≡ true
  each_of a = rw (a 1 (omega arith) (omega arith), a 2 (omega arith) (omega arith), a 3 (omega arith) (omega arith))

  pub some_of : three ≡ false → OfThree f
  some_of = by (f 1) (f 2) (f 3) refl refl refl
    where
      at : (t : ℕ) → 1 ≤ t → t ≤ 3 → f t ≡ false → OfThree f
      at t l h e = record { tag = t; least = l; most = h; fails = e }

      by : (a b c : Bool) → f 1 ≡ a → f 2 ≡ b → f 3 ≡ c → (a && b && c) ≡ false → OfThree f
      by false b c p q r e = at 1 (omega arith) (omega arith) p
      by true false c p q r e = at 2 (omega arith) (omega arith) q
      by true true false p q r e = at 3 (omega arith) (omega arith) r
      by true true true p q r e = absurd (never (sym e))

  pub not_each : (t : ℕ) → 1 ≤ t → t ≤ 3 → f t ≡ false → three ≡ false
  not_each t l h e = by three refl
    where
      by : (b : Bool) → three ≡ b → b ≡ false
      by false s = refl
      by true s = absurd (never (sym e ∙ each s t (tag_right t l h)))
