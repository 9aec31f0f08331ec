-- LENGTH and bit 7 in plain numbers, by the rate code, as what is promised says them: what they are to be (RULES 5.10
-- to 5.12), not how they are computed. proofs/Plain.antt holds the definitions of Rates.antt to them.
-- Definitions only. Assumes nothing.
use Rattle.std.specs.Prelude.{◌≡◌, ℕ, ◌+◌, ◌*◌, ◌≤◌, ◌<◌}

-- l microseconds are the LENGTH of n octets at a rate: 8 n, 4 n, 16 n / 11 rounded up, 8 n / 11 rounded up
pub data LengthOf : ℕ → ℕ → ℕ → Type 0 where
  length_1 : (n : ℕ) → LengthOf 10 n (8 * n)
  length_2 : (n : ℕ) → LengthOf 20 n (4 * n)
  length_5 : (n l : ℕ) → 16 * n ≤ 11 * l → 11 * l < 16 * n + 11 → LengthOf 55 n l
  length_11 : (n l : ℕ) → 8 * n ≤ 11 * l → 11 * l < 8 * n + 11 → LengthOf 110 n l

-- and bit 7 beside it: at 11 Mbit/s 1 exactly where rounding added 8/11 or more, at the other rates 0
pub data SevenOf : ℕ → ℕ → ℕ → ℕ → Type 0 where
  seven_no : (rate n l : ℕ) → (rate ≡ 110 → ⊥) → SevenOf rate n l 0
  seven_much : (n l : ℕ) → 8 * n + 8 ≤ 11 * l → SevenOf 110 n l 1
  seven_little : (n l : ℕ) → 11 * l < 8 * n + 8 → SevenOf 110 n l 0

-- the octets that a reader takes of LENGTH l, before bit 7 is asked: l / 8, l / 4, 11 l / 16, 11 l / 8, rounded down
pub data WholeOf : ℕ → ℕ → ℕ → Type 0 where
  whole_1 : (l w : ℕ) → 8 * w ≤ l → l < 8 * w + 8 → WholeOf 10 l w
  whole_2 : (l w : ℕ) → 4 * w ≤ l → l < 4 * w + 4 → WholeOf 20 l w
  whole_5 : (l w : ℕ) → 16 * w ≤ 11 * l → 11 * l < 16 * w + 16 → WholeOf 55 l w
  whole_11 : (l w : ℕ) → 8 * w ≤ 11 * l → 11 * l < 8 * w + 8 → WholeOf 110 l w
