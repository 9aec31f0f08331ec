-- What a search over a recording's first n chips tells of a number that is said where all of them are usable, and is
-- else 0.
-- Assumes nothing.
use mathlib.Core.Path.{◌≡◌, sym, ap, ◌∙◌}
use mathlib.Core.List.{List}
use Prim.Native.Nat.{ℕ, ◌-◌, ◌≤◌}
use native.Mathlib.Omega.{arith}
use lib.ListN.{length, take, drop}
use Rattle.std.specs.Prelude.{Option, None, Some}
use Rattle.rules_chips.specs.Chips.{Taken}
use Rattle.rules_reading.specs.Reading.{or_else, first_unusable}
use Rattle.choose_recorded.specs.Recorded.{AllUsable}
use Rattle.choose_recorded.proofs.Search.{none_usable}

module _ (rec : List Taken) (n : ℕ) (f : Option ℕ) (g : f ≡ first_unusable 0 (take (n - 0) (drop 0 rec))) where
  searched : first_unusable 0 (take n rec) ≡ f
  searched = let e : n - 0 ≡ n = omega arith in sym (g ∙ ap (λ (m : ℕ). first_unusable 0 (take m rec)) e)

  pub bad : (v place : ℕ) → f ≡ Some place → 0 ≡ or_else (first_unusable 0 (take n rec)) (λ at. 0) v
  bad v place h = rw (searched ∙ h)

  pub good : (v : ℕ) → f ≡ None → v ≡ or_else (first_unusable 0 (take n rec)) (λ at. 0) v
  good v h = rw (searched ∙ h)

  pub usable : f ≡ None → n ≤ length rec → AllUsable rec 0 n
  usable h l = none_usable rec 0 n (omega arith) (searched ∙ h)
