-- Hard chips in full chips decide as their counts do, with a 1024th of the lead: one symbol, and each of a block.
-- Assumes nothing.
use mathlib.Core.Path.{◌≡◌, ap, ◌∙◌}
use mathlib.Core.List.{List, map}
use Prim.Native.Nat.{ℕ, ◌+◌, ◌*◌, ◌≤◌, ◌<◌}
use native.Mathlib.Nat.{mul-le-mul_left, mul-suc}
use native.Mathlib.Omega.{arith}
use lib.ListN.{length, get_or, take, drop}
use Rattle.base.proofs.Tables.{length_tabulate}
use Rattle.rules_rates.specs.declared.Rate.{Rate}
use Rattle.rules_rates.specs.Rates.{symbol_chips}
use Rattle.rules_chips.specs.declared.Counts.{Counts}
use Rattle.rules_chips.specs.Chips.{taken_counts, hard_chip, hard_recording}
use Rattle.choose_axes.specs.Axes.{unit_of}
use Rattle.rules_symbols.specs.Choice.{decided, lead_of}
use Rattle.choose_sums.proofs.Apart.{units_decided, units_lead}
use Rattle.choose_recorded.specs.Recorded.{hard_part}
use Rattle.choose_recorded.proofs.Gathered.{gathered_hard, all_hard}
use Rattle.choose_recorded.proofs.Firsts.{number_at, lead_at}

-- ---- one symbol
module _ (n : ℕ) (r : Rate) (xs : List ℕ) (at : ℕ) (h : at + n ≤ length xs) where
  abbrev units : List Counts
  units = map unit_of (hard_part xs at n)

  abbrev symbol : List Counts
  symbol = map taken_counts (take n (drop at (hard_recording xs)))

  long : length (hard_part xs at n) ≡ n
  long = length_tabulate (λ j. hard_chip (get_or xs (at + j) 0)) n

  pub hard_decided : decided r units ≡ decided r symbol
  hard_decided =
      units_decided n r (hard_part xs at n) long (all_hard n xs at) ∙ ap (decided r) (gathered_hard n xs at h)

  hard_lead : 1024 * lead_of r units ≡ lead_of r symbol
  hard_lead = units_lead n r (hard_part xs at n) long (all_hard n xs at) ∙ ap (lead_of r) (gathered_hard n xs at h)

-- ---- m symbols from a place
-- symbol l in full chips
abbrev pub units_at : Rate → List ℕ → ℕ → ℕ → List Counts
units_at r xs at l = map unit_of (hard_part xs (at + symbol_chips r * l) (symbol_chips r))

module _ (r : Rate) (xs : List ℕ) (at m : ℕ) (h : at + symbol_chips r * m ≤ length xs) where
  abbrev n : ℕ
  n = symbol_chips r

  room : (l : ℕ) → l < m → n * l + n ≤ n * m
  room l b = omega (arith, mul-le-mul_left n b, mul-suc n l)

  pub number_hard : (l : ℕ) → l < m → decided r (units_at r xs at l) ≡ number_at r (hard_recording xs) at l
  number_hard l b = hard_decided n r xs (at + n * l) (omega (arith, room l b))

  pub lead_hard : (l : ℕ) → l < m → 1024 * lead_of r (units_at r xs at l) ≡ lead_at r (hard_recording xs) at l
  lead_hard l b = hard_lead n r xs (at + n * l) (omega (arith, room l b))
