-- What is shown of a refusal, in plain numbers and by what the symbols of the recording say (RULES 6.22): what it is to
-- be, not how it is computed. proofs/Numbers.antt and proofs/Laws.antt hold the definitions of Why.antt to it.
-- Definitions only. Assumes nothing.
use Rattle.std.specs.Prelude.{ℕ, suc, ◌+◌, ◌*◌, ◌%◌, ◌≤◌, ◌<◌, ◌≡◌, List}
use Rattle.base.specs.Tables.{tabulate}
use Rattle.rules_rates.specs.declared.Rate.TheVariants.{One}
use Rattle.rules_rates.specs.Plain.{LengthOf, WholeOf}
use Rattle.rules_chips.specs.Chips.{Taken}
use Rattle.rules_bits.specs.Bits.{highest_first}
use Rattle.rules_bits.specs.Growths.{grown_by}
use Rattle.rules_frame.specs.declared.Kind.{Kind}
use Rattle.rules_reading.specs.Places.{word_from}
use Rattle.rules_reading.specs.Decoded.{PlainBit}

-- 10: how far the symbol whose first chip is at a place grew from the one before it, 1 or 3. Symbols of 11 chips stand
-- one behind the other from the recording's start
pub record GrownAt (rec : List Taken) (place grown : ℕ) : Type 0 where
  pub before : ℕ
  pub place_is : place ≡ 11 * suc before
  pub grown_is : grown ≡ grown_by (word_from One (11 * before) rec) (word_from One (11 * suc before) rec)
  pub odd : grown % 2 ≡ 1
  pub small : grown < 4

-- 12: a number of so many bits of the front, highest first
pub record HighestAt (k : Kind) (rec : List Taken) (from count value : ℕ) : Type 0 where
  pub bit : ℕ → ℕ
  pub each : (i : ℕ) → i < count → PlainBit k One rec 0 (from + i) (bit i)
  pub value_is : value ≡ highest_first (tabulate bit count)

-- 14: a SERVICE octet without bit 2 and, at 11 Mbit/s, without bit 7
pub data Cleared : ℕ → ℕ → ℕ → Type 0 where
  of_two : (rate low two high : ℕ) → (rate ≡ 110 → ⊥) → low < 4 → two < 2
      → Cleared rate (low + 4 * two + 8 * high) (low + 8 * high)
  of_both : (low two middle seven : ℕ) → low < 4 → two < 2 → middle < 16 → seven < 2
      → Cleared 110 (low + 4 * two + 8 * middle + 128 * seven) (low + 8 * middle)

-- 15: the LENGTH of the n octets that LENGTH l and bit 7 say; 0 where n is below 1 or above 4,095
pub data LengthWanted (rate l seven : ℕ) : ℕ → Type 0 where
  of_octets : (n wanted : ℕ) → WholeOf rate l (n + seven) → 1 ≤ n → n ≤ 4095 → LengthOf rate n wanted
      → LengthWanted rate l seven wanted
  too_few : (whole : ℕ) → WholeOf rate l whole → whole ≤ seven → LengthWanted rate l seven 0
  too_many : (whole : ℕ) → WholeOf rate l whole → 4095 + seven < whole → LengthWanted rate l seven 0
