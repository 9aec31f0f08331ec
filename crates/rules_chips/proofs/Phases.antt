-- Full chips: past the four phases there is nothing.
-- Assumes nothing.
use mathlib.Core.Path.{◌≡◌}
use mathlib.Core.List.{List, [], ◌∷◌}
use Prim.Native.Nat.{ℕ, ◌≤◌}
use lib.ListN.{get_or-eq_default}
use lib.IntN.{pos, neg_ℤ}
use Rattle.rules_chips.specs.declared.Counts.{Counts}
use Rattle.rules_chips.specs.Chips.{pair, nothing, full_chip}

-- the list that `full_chip` looks up
abbrev full : ℕ → List Counts
full one =
    pair (pos one) (pos 0) ∷ pair (pos 0) (pos one) ∷ pair (neg_ℤ (pos one)) (pos 0) ∷ pair (pos 0) (neg_ℤ (pos one)) ∷ []

pub full_past : (one p : ℕ) → 4 ≤ p → full_chip one p ≡ nothing
full_past one p h = get_or-eq_default (full one) nothing {n = p} h
