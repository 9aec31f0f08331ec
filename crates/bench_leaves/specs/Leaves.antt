-- What the exported leaves answer. Definitions only. Assumes nothing.
-- working notion: of the leaves that bench/ times; no promise needs it
use Rattle.std.specs.Prelude.{ℕ, ◌<◌, ◌≤◌, ◌≡◌, cond, ◌&&◌, List, map, leb, eqb, length, get_or, take, ℤ, pos, Float}
use Rattle.std.specs.Float.{nan}
use Rattle.rules_rates.specs.declared.Rate.{Rate}
use Rattle.rules_rates.specs.declared.Rate.TheVariants.{Eleven}
use Rattle.rules_rates.specs.Rates.{is_code, rate_of, symbol_chips}
use Rattle.rules_chips.specs.Floats.{count_of}
use Rattle.rules_chips.specs.Chips.{Taken, taken_counts, hard_recording, soft_recording, byte_recording}
use Rattle.rules_symbols.specs.Choice.{decided}
use Rattle.rules_reading.specs.Reading.{or_else, first_unusable}
use Rattle.choose_recorded.specs.Recorded.{symbol_at}

-- the number of the word that the first symbol of a recording is decided as; 0 where a chip of it is not usable
unfoldable pub first_word : Rate → List Taken → ℕ
first_word r rec =
    let symbol = take (symbol_chips r) rec in
    or_else (first_unusable 0 symbol) (λ place. 0) (decided r (map taken_counts symbol))

-- the same of soft rows; 0 of a number that is no rate's code, and of rows shorter than a symbol
unfoldable pub decided_soft : ℕ → List Float → List Float → ℕ
decided_soft rate i q =
    let r = rate_of rate in
    cond (is_code rate && leb (symbol_chips r) (length (soft_recording i q))) (first_word r (soft_recording i q)) 0

-- the recording of a recorder by its number: 0 hard, 1 soft, 2 bytes
abbrev pub recorded_by : ℕ → List ℕ → List ℤ → List Float → List Float → List Taken
recorded_by n octets bytes i q =
    cond (eqb n 0) (hard_recording octets) (cond (eqb n 1) (soft_recording i q) (byte_recording bytes))

-- the number of the word that the last of the first 64 symbols of 11 Mbit/s is decided as; 0 where one of their 512
-- chips is not usable
unfoldable pub last_word : List Taken → ℕ
last_word rec = or_else (first_unusable 0 (take 512 rec)) (λ place. 0) (decided Eleven (symbol_at Eleven rec 504))

-- the same of a recorder's rows; 0 of a number that is no recorder's, and of fewer than 512 chips
unfoldable pub decided_last : ℕ → List ℕ → List ℤ → List Float → List Float → ℕ
decided_last recorder octets bytes i q =
    let rec = recorded_by recorder octets bytes i q in
    cond (leb recorder 2) (cond (leb 512 (length rec)) (last_word rec) 0) 0

-- a row of counts: as far as both rows go each is the count of its f32, and past the shorter nothing has changed
pub record CountsRow (xs : List Float) (before after : List ℤ) : Type 0 where
  pub as_long : length after ≡ length before
  pub counted : (k : ℕ) → k < length xs → k < length before → get_or after k (pos 0) ≡ count_of (get_or xs k nan)
  pub kept : (k : ℕ) → length xs ≤ k → get_or after k (pos 0) ≡ get_or before k (pos 0)
