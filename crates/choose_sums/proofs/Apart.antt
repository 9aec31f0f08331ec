-- A symbol's chips on each axis: how large their counts are, and what is decided by them; the same of hard chips in
-- full chips, which decide as their counts do.
-- Assumes nothing.
use mathlib.Core.Path.{◌≡◌, refl, sym, ap, ◌∙◌, subst}
use mathlib.Core.List.{List, [], ◌∷◌, map}
use Prim.Native.Nat.{ℕ, zero, suc, ◌*◌}
use lib.Dec.{lit≤}
use lib.ListN.{length, get_or, get_or-map}
use lib.IntN.{ℤ, pos}
use Rattle.base.specs.Whole.{up, dn, Within}
use Rattle.base.proofs.Tables.{tabulate_ext, map_tabulate}
use Rattle.rules_rates.specs.declared.Rate.{Rate}
use Rattle.rules_rates.specs.declared.Rate.TheVariants.{One}
use Rattle.choose_axes.specs.declared.Axis.{Axis}
use Rattle.choose_axes.specs.declared.Axis.TheVariants.{I, Q}
use Rattle.rules_chips.specs.declared.Counts.{Counts}
use Rattle.rules_chips.specs.declared.Chip.{Chip}
use Rattle.rules_chips.specs.declared.Chip.TheVariants.{Lost}
use Rattle.rules_chips.specs.Chips.{pair, nothing, full_chip, counts_of}
use Rattle.rules_chips.specs.Bounds.{Bounded}
use Rattle.choose_axes.specs.Axes.{along, unit_of, octet_of, AllHard}
use Rattle.rules_chips.proofs.Bounds.{counts_within}
use Rattle.choose_axes.proofs.Axes.{hard_counts}
use Rattle.rules_symbols.specs.Choice.{decided, lead_of}
use Rattle.rules_choosing.specs.Scores.{RowWithin, ChosenAs}
use Rattle.choose_sums.specs.Sums.{by_signs, as_chip, rows}
use Rattle.choose_sums.proofs.Signs.{sums_chosen}
use Rattle.rules_choosing.proofs.Scaled.{Times, decided_times, lead_times}

-- ---- whatever is counted of a chip, nothing of a lost one
module _ (f : Chip → Counts) (none : f Lost ≡ nothing) where
  abbrev row_on : Axis → List Chip → List ℤ
  row_on x chips = map (λ c. along x (f c)) chips

  along_none : (x : Axis) → along x (f Lost) ≡ pos 0
  along_none I = ap (λ (c : Counts). c.i) none
  along_none Q = ap (λ (c : Counts). c.q) none

  count_at : (x : Axis) (chips : List Chip) (k : ℕ) → get_or (row_on x chips) k (pos 0) ≡ along x (f (get_or chips k Lost))
  count_at x chips k =
      ap (λ (z : ℤ). get_or (row_on x chips) k z) (sym (along_none x)) ∙ get_or-map (λ c. along x (f c)) chips k Lost

  row_small : (b : ℕ) → ((c : Chip) → Bounded b (f c)) → (x : Axis) (chips : List Chip) → RowWithin b (row_on x chips)
  row_small b h x chips = record { at = λ k. rw (count_at x chips k) (one x (get_or chips k Lost)) }
    where
      one : (y : Axis) (c : Chip) → Within b (along y (f c))
      one I c = (h c).real
      one Q c = (h c).imag

  map_along : (x : Axis) (chips : List Chip) → row_on x chips ≡ map (along x) (map f chips)
  map_along x [] = refl
  map_along x (c ∷ chips) = ap (λ (r : List ℤ). along x (f c) ∷ r) (map_along x chips)

  -- a Barker symbol by its two sums
  by_sums : (chips : List Chip) {w t : ℕ}
      → ChosenAs One (as_chip (by_signs (row_on I chips)) (by_signs (row_on Q chips))) w t
      → ChosenAs One (map f chips) w t
  by_sums chips {w} {t} h =
      sums_chosen (map f chips)
      (subst (λ (cs : List Counts). ChosenAs One cs w t)
      (λ i. as_chip (by_signs (map_along I chips i)) (by_signs (map_along Q chips i))) h)

  -- eight chips by their two rows
  by_rows : (chips : List Chip) → length chips ≡ 8 → rows (row_on I chips) (row_on Q chips) ≡ map f chips
  by_rows chips e =
      tabulate_ext (λ k. pair (get_or (row_on I chips) k (pos 0)) (get_or (row_on Q chips) k (pos 0)))
      (λ k. f (get_or chips k Lost)) 8 (λ k l i. pair (count_at I chips k i) (count_at Q chips k i))
      ∙ sym (map_tabulate f chips 8 Lost e)

-- ---- counts
pub counts_small : (x : Axis) (chips : List Chip) → RowWithin 8192 (row_on counts_of refl x chips)
counts_small = row_small counts_of refl 8192 counts_within

pub counts_barker : (chips : List Chip) {w t : ℕ}
    → ChosenAs One (as_chip (by_signs (row_on counts_of refl I chips)) (by_signs (row_on counts_of refl Q chips))) w t
    → ChosenAs One (map counts_of chips) w t
counts_barker = by_sums counts_of refl

pub counts_eight : (chips : List Chip) → length chips ≡ 8
    → rows (row_on counts_of refl I chips) (row_on counts_of refl Q chips) ≡ map counts_of chips
counts_eight = by_rows counts_of refl

-- ---- full chips
unit_within : (p : ℕ) → Bounded 1 (full_chip 1 p)
unfolding up dn
unit_within zero = record {
  real = record { high = lit≤ tt; low = lit≤ tt };
  imag =
      record { high = lit≤ tt; low = lit≤ tt };
}
unit_within (suc zero) =
    record { real = record { high = lit≤ tt; low = lit≤ tt }; imag = record { high = lit≤ tt; low = lit≤ tt } }
unit_within (suc (suc zero)) =
    record { real = record { high = lit≤ tt; low = lit≤ tt }; imag = record { high = lit≤ tt; low = lit≤ tt } }
unit_within (suc (suc (suc zero))) =
    record { real = record { high = lit≤ tt; low = lit≤ tt }; imag = record { high = lit≤ tt; low = lit≤ tt } }
unit_within (suc (suc (suc (suc p)))) =
    record { real = record { high = lit≤ tt; low = lit≤ tt }; imag = record { high = lit≤ tt; low = lit≤ tt } }

pub units_small : (x : Axis) (chips : List Chip) → RowWithin 1 (row_on unit_of refl x chips)
units_small = row_small unit_of refl 1 (λ c. unit_within (octet_of c))

full_times : (p : ℕ) → Times 1024 (full_chip 1024 p) (full_chip 1 p)
full_times zero = record { real = refl; imag = refl }
full_times (suc zero) = record { real = refl; imag = refl }
full_times (suc (suc zero)) = record { real = refl; imag = refl }
full_times (suc (suc (suc zero))) = record { real = refl; imag = refl }
full_times (suc (suc (suc (suc p)))) = record { real = refl; imag = refl }

-- hard chips decide by full chips what they decide by counts, and their lead is 1024 times as large
module _ (n : ℕ) (r : Rate) (chips : List Chip) (e : length chips ≡ n) (h : AllHard n chips) where
  counts_are : map (λ c. full_chip 1024 (octet_of c)) chips ≡ map counts_of chips
  counts_are =
      map_tabulate (λ c. full_chip 1024 (octet_of c)) chips n Lost e
      ∙ tabulate_ext (λ k. full_chip 1024 (octet_of (get_or chips k Lost))) (λ k. counts_of (get_or chips k Lost)) n
      (λ k l. hard_counts (get_or chips k Lost) (h.at k l))
      ∙ sym (map_tabulate counts_of chips n Lost e)

  pub units_decided : decided r (map unit_of chips) ≡ decided r (map counts_of chips)
  units_decided =
      sym (decided_times 1024 (lit≤ tt) (λ c. full_chip 1024 (octet_of c)) unit_of (λ c. full_times (octet_of c)) r chips)
      ∙ ap (decided r) counts_are

  pub units_lead : 1024 * lead_of r (map unit_of chips) ≡ lead_of r (map counts_of chips)
  units_lead =
      sym (lead_times 1024 (lit≤ tt) (λ c. full_chip 1024 (octet_of c)) unit_of (λ c. full_times (octet_of c)) r chips)
      ∙ ap (lead_of r) counts_are

pub units_barker : (chips : List Chip) {w t : ℕ}
    → ChosenAs One (as_chip (by_signs (row_on unit_of refl I chips)) (by_signs (row_on unit_of refl Q chips))) w t
    → ChosenAs One (map unit_of chips) w t
units_barker = by_sums unit_of refl

pub units_rows : (chips : List Chip) → length chips ≡ 8
    → rows (row_on unit_of refl I chips) (row_on unit_of refl Q chips) ≡ map unit_of chips
units_rows = by_rows unit_of refl
