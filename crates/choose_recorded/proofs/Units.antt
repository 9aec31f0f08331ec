-- The units of hard chips from a place, on an axis: each is that of its octet. Assumes nothing.
use mathlib.Core.Path.{◌≡◌, refl, ap, ◌∙◌}
use mathlib.Core.Bool.{Bool, true, false, cond}
use mathlib.Core.List.{List}
use Prim.Native.Nat.{ℕ, ◌+◌}
use lib.Dec.{eqb}
use lib.ListN.{get_or}
use borrow.Author.Tests.{eqb-true}
use Rattle.base.specs.Tables.{tabulate}
use Rattle.base.proofs.Tables.{tabulate_ext, map_tabulate, length_tabulate, get_or_tabulate}
use Rattle.choose_axes.specs.declared.Axis.{Axis}
use Rattle.rules_chips.specs.declared.Chip.{Chip}
use Rattle.rules_chips.specs.declared.Chip.TheVariants.{Lost, Hard}
use Rattle.rules_chips.specs.Chips.{full_chip, hard_chip}
use Rattle.choose_axes.specs.Axes.{along, octet_of, unit_of, units_along}
use Rattle.choose_recorded.specs.Recorded.{hard_part}

octet_back : (x : ℕ) → octet_of (hard_chip x) ≡ x
octet_back x = by (eqb x 4) (eqb-true x 4)
  where
    by : (b : Bool) → (b ≡ true → x ≡ 4) → octet_of (cond b Lost (Hard x)) ≡ x
    by true e = let f : x ≡ 4 = e refl in rw f refl
    by false e = refl

pub units_part : (axis : Axis) (xs : List ℕ) (at n : ℕ)
    → units_along axis (hard_part xs at n) ≡ tabulate (λ j. along axis (full_chip 1 (get_or xs (at + j) 0))) n
units_part axis xs at n =
    map_tabulate (λ c. along axis (unit_of c)) (hard_part xs at n) n Lost (length_tabulate chip_at n)
    ∙ tabulate_ext (λ k. along axis (unit_of (get_or (hard_part xs at n) k Lost)))
    (λ j. along axis (full_chip 1 (get_or xs (at + j) 0))) n
    (λ j l. ap (λ (c : Chip). along axis (unit_of c)) (get_or_tabulate chip_at n j Lost l)
    ∙ ap (λ (p : ℕ). along axis (full_chip 1 p)) (octet_back (get_or xs (at + j) 0)))
  where
    chip_at : ℕ → Chip
    chip_at j = hard_chip (get_or xs (at + j) 0)
