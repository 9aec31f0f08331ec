-- Sixteen symbols abreast, in rows: a complex row is sixteen numbers of I and then sixteen of Q, and column l of all
-- rows is symbol l. What the stages make of such rows, entry by entry.
-- Definitions only. Assumes nothing.
-- working notion: of the butterflies; no promise needs it
use Rattle.std.specs.Prelude.{◌≡◌, List, [], ◌∷◌, ℕ, ◌+◌, ◌*◌, ◌≤◌, ◌<◌, length, get_or, ℤ, pos, negsuc, ◌+ℤ◌, ◌*ℤ◌}
use Rattle.base.specs.Whole.{Within}
use Rattle.rules_chips.specs.declared.Counts.{Counts}
use Rattle.rules_chips.specs.Chips.{pair}
use Rattle.rules_chips.specs.Bounds.{Bounded}
use Rattle.rules_rates.specs.declared.Rate.TheVariants.{Eleven}
use Rattle.rules_symbols.specs.Choice.{decided, lead_of}
use Rattle.choose_sums.specs.Sums.{rows, every_row}
use Rattle.choose_walsh.specs.Turns.{fly}

-- what symbol l of sixteen abreast is decided as
abbrev pub eleven_at : List ℤ → ℕ → ℕ
eleven_at row l = decided Eleven (rows (every_row row l 8) (every_row row (16 + l) 8))

-- and the lead of that choice
abbrev pub eleven_lead : List ℤ → ℕ → ℕ
eleven_lead row l = lead_of Eleven (rows (every_row row l 8) (every_row row (16 + l) 8))

-- the number in column l of the complex row that begins at x
abbrev pub row_at : List ℤ → ℕ → ℕ → Counts
row_at t x l = pair (get_or t (x + l) (pos 0)) (get_or t (x + l + 16) (pos 0))

-- every column of a row is from -b to b; so are n rows, from the first
pub record RowBounded (b : ℕ) (t : List ℤ) (x : ℕ) : Type 0 where
  pub at : (l : ℕ) → l < 16 → Bounded b (row_at t x l)

pub record RowsBounded (b n : ℕ) (t : List ℤ) : Type 0 where
  pub row : (k : ℕ) → k < n → RowBounded b t (32 * k)

-- in the columns below n, of I and of Q, the numbers of the four chips from place x on are from -b to b
pub record FourWithin (b : ℕ) (row : List ℤ) (x n : ℕ) : Type 0 where
  pub at : (k l : ℕ) → k < 4 → l < n → Within b (get_or row (x + l + 32 * k) (pos 0))

-- those numbers, each times its chip's factor, and more, stand at their places of z'; before x it is as z was
pub record FourScaled (row : List ℤ) (x : ℕ) (times more : List ℤ) (z : List ℤ) (n : ℕ) (z' : List ℤ) : Type 0 where
  pub long : length z' ≡ length z
  pub each : (k l : ℕ) → k < 4 → l < n → get_or z' (x + l + 32 * k) (pos 0)
      ≡ (get_or times k (pos 0) *ℤ get_or row (x + l + 32 * k) (pos 0)) +ℤ get_or more k (pos 0)
  pub kept : (j : ℕ) → j < x → get_or z' j (pos 0) ≡ get_or z j (pos 0)

-- chip k as it enters every word: 16 times, which leaves a key room for sixteen words, the minus of chips 3 and 6 put
-- in, and a quarter of 16 more at chip 7, which stands unturned in all sums
abbrev pub factors : List ℤ
factors = pos 16 ∷ pos 16 ∷ pos 16 ∷ negsuc 15 ∷ pos 16 ∷ pos 16 ∷ negsuc 15 ∷ pos 16 ∷ []

abbrev pub quarters : List ℤ
quarters = pos 0 ∷ pos 0 ∷ pos 0 ∷ pos 0 ∷ pos 0 ∷ pos 0 ∷ pos 0 ∷ pos 4 ∷ []

abbrev pub entering : ℕ → ℤ → ℤ
entering k v = (get_or factors k (pos 0) *ℤ v) +ℤ get_or quarters k (pos 0)

-- all chips have entered, I and Q of each
pub record Entered (row z : List ℤ) : Type 0 where
  pub long : length z ≡ 256
  pub each : (k l : ℕ) → k < 8 → l < 32 → get_or z (32 * k + l) (pos 0) ≡ entering k (get_or row (32 * k + l) (pos 0))

-- the four rows of o' from z on hold the butterfly of the rows x and y of s in the columns below n; the rest of o' is
-- that of o
pub record Flown (s : List ℤ) (x y : ℕ) (o : List ℤ) (z n : ℕ) (o' : List ℤ) : Type 0 where
  pub long : length o' ≡ length o
  pub each : (r l : ℕ) → r < 4 → l < n → row_at o' (z + 32 * r) l ≡ fly (row_at s y l) (row_at s x l) r
  pub below : (j : ℕ) → j < z → get_or o' j (pos 0) ≡ get_or o j (pos 0)
  pub above : (j : ℕ) → z + 128 ≤ j → get_or o' j (pos 0) ≡ get_or o j (pos 0)

-- the first stage, by p3: chips 0 and 2, 1 and 3, 4 and 6, 5 and 7. The pair that begins with the chip in row x of z
-- stands at w of a
pub record Joined (z a : List ℤ) (x w : ℕ) : Type 0 where
  pub at : (p l : ℕ) → p < 4 → l < 16 → row_at a (w + 32 * p) l ≡ fly (row_at z (x + 64) l) (row_at z x l) p

pub record Paired (z a : List ℤ) : Type 0 where
  pub long : length a ≡ 512
  pub first : Joined z a 0 0
  pub second : Joined z a 32 128
  pub third : Joined z a 128 256
  pub fourth : Joined z a 160 384

-- the second stage, by p4, for one p3: chips 0, 2, 4, 6, and chips 1, 3, 5, 7
abbrev pub evens : List ℤ → ℕ → ℕ → ℕ → Counts
evens a l p3 p4 = fly (row_at a (256 + 32 * p3) l) (row_at a (0 + 32 * p3) l) p4

abbrev pub odds : List ℤ → ℕ → ℕ → ℕ → Counts
odds a l p3 p4 = fly (row_at a (384 + 32 * p3) l) (row_at a (128 + 32 * p3) l) p4
