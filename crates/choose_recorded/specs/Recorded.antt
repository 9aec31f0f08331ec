-- Parts of rows, chips that are usable, and symbols decided in blocks of up to 64.
-- Definitions only. Assumes nothing.
-- working notion: of the contracts of the recorders; no promise needs it
use Rattle.std.specs.Prelude.{ℕ, ◌+◌, ◌*◌, ◌<◌, ◌≡◌, false, List, map, length, get_or, take, drop, Float}
use Rattle.std.specs.Float.{nan}
use Rattle.base.specs.Tables.{tabulate}
use Rattle.rules_rates.specs.declared.Rate.{Rate}
use Rattle.rules_rates.specs.Rates.{symbol_chips}
use Rattle.rules_chips.specs.declared.Counts.{Counts}
use Rattle.rules_chips.specs.declared.Chip.{Chip}
use Rattle.rules_chips.specs.declared.Chip.TheVariants as chip
use Rattle.rules_chips.specs.Chips.{Taken, unusable, is_unusable, taken_counts, hard_chip}
use Rattle.rules_symbols.specs.Choice.{decided, lead_of}

-- n chips of a row of octets from a place, and of two rows of f32
abbrev pub hard_part : List ℕ → ℕ → ℕ → List Chip
hard_part xs at n = tabulate (λ j. hard_chip (get_or xs (at + j) 0)) n

abbrev pub soft_part : List Float → List Float → ℕ → ℕ → List Chip
soft_part xs ys at n = tabulate (λ j. chip.Soft (record { i = get_or xs (at + j) nan; q = get_or ys (at + j) nan })) n

-- the counts of the symbol whose chips start at a place
abbrev pub symbol_at : Rate → List Taken → ℕ → List Counts
symbol_at r rec at = map taken_counts (take (symbol_chips r) (drop at rec))

-- the n chips from a place are usable
pub record AllUsable (rec : List Taken) (at n : ℕ) : Type 0 where
  pub each : (k : ℕ) → k < n → is_unusable (get_or rec (at + k) unusable) ≡ false

-- the first m of 64 numbers are those that m symbols from a place are decided as; of the others nothing is said
-- promise: The choice from counts, from full chips and from bytes, alone and in blocks, with its lead, is the
-- definition's
-- rule: 3.5 to 3.7, 3.9
-- code: choose_by_counts::decide_barker, choose_by_counts::decide_five, choose_by_units::decide_barker,
-- choose_by_units::decide_five, choose_words::barker, choose_words::five, choose_search::sixteen,
-- choose_recorders::decide
-- with: LeadsAt
pub record DecidedAt (r : Rate) (rec : List Taken) (at m : ℕ) (numbers : List ℕ) : Type 0 where
  pub long : length numbers ≡ 64
  pub number : (l : ℕ) → l < m → get_or numbers l 0 ≡ decided r (symbol_at r rec (at + symbol_chips r * l))

-- and the first m of 64 leads theirs
pub record LeadsAt (r : Rate) (rec : List Taken) (at m : ℕ) (leads : List ℕ) : Type 0 where
  pub long : length leads ≡ 64
  pub lead : (l : ℕ) → l < m → get_or leads l 0 ≡ lead_of r (symbol_at r rec (at + symbol_chips r * l))

-- n numbers put into 64, from place l on; those before it are kept
pub record Put (f : ℕ → ℕ) (l : ℕ) (before after : List ℕ) (n : ℕ) : Type 0 where
  pub long : length after ≡ 64
  pub kept : (j : ℕ) → j < l → get_or after j 0 ≡ get_or before j 0
  pub each : (s : ℕ) → s < n → get_or after (l + s) 0 ≡ f s
