-- The places of 9 and 10, over a whole recording (RULES 6.4): none before it, and it is one. How a reading looks for
-- them, part by part, is in Reading.antt; proofs/FirstPlaces.antt holds that to this.
-- Definitions only. Assumes nothing.
use Rattle.std.specs.Prelude.{ℕ, suc, ◌*◌, ◌%◌, ◌<◌, ◌≡◌, not, List, map, length, get_or, take, drop, T}
use Rattle.rules_rates.specs.declared.Rate.{Rate}
use Rattle.rules_rates.specs.declared.Rate.TheVariants.{One}
use Rattle.rules_rates.specs.Rates.{symbol_chips}
use Rattle.rules_chips.specs.declared.Counts.{Counts}
use Rattle.rules_chips.specs.Chips.{Taken, unusable, is_unusable, taken_counts}
use Rattle.rules_symbols.specs.Choice.{decided}
use Rattle.rules_bits.specs.Growths.{grown_by}

-- 9: the first chip that cannot be read
abbrev pub UsableAt : List Taken → ℕ → Type 0
UsableAt rec place = T (not (is_unusable (get_or rec place unusable)))

pub record UnusableFirst (rec : List Taken) (place : ℕ) : Type 0 where
  pub there : place < length rec
  pub is_one : T (is_unusable (get_or rec place unusable))
  pub before : (q : ℕ) → q < place → UsableAt rec q

-- the counts of the chips of a symbol of a rate that starts at a place, and the word that it is decided as
abbrev pub counts_from : Rate → ℕ → List Taken → List Counts
counts_from q at rec = map taken_counts (take (symbol_chips q) (drop at rec))

abbrev pub word_from : Rate → ℕ → List Taken → ℕ
word_from q at rec = decided q (counts_from q at rec)

-- 10: the first chip of the first 1 Mbit/s symbol that grew by 1 or 3. Symbols of 11 chips stand one behind the other
-- from the recording's start; how far the one behind symbol s grew from it, modulo 2
abbrev pub odd_behind : List Taken → ℕ → ℕ
odd_behind rec s = grown_by (word_from One (11 * s) rec) (word_from One (11 * suc s) rec) % 2

pub record FirstOddSymbol (rec : List Taken) (place : ℕ) : Type 0 where
  pub symbol : ℕ
  pub place_is : place ≡ 11 * suc symbol
  pub is_odd : odd_behind rec symbol ≡ 1
  pub before : (s : ℕ) → s < symbol → odd_behind rec s ≡ 0
