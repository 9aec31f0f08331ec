-- Recorded chips, their counts and exact values, and what a recorder makes of its rows (RULES 2.1 to 2.8).
-- Definitions only. Assumes nothing.
use Rattle.std.specs.Prelude.{ℕ, ◌+◌, ◌%◌, ◌^◌, Bool, true, false, cond, ◌&&◌, List, [], ◌∷◌, map, get_or, leb, eqb, ℤ, pos, neg_ℤ, ◌*ℤ◌, Float}
use Rattle.rules_chips.specs.declared.Sample.{Sample}
use Rattle.rules_chips.specs.declared.Counts.{Counts}
use Rattle.rules_chips.specs.declared.Chip.{Chip}
use Rattle.rules_chips.specs.declared.Chip.TheVariants.{Lost, Hard, Soft}
use Rattle.rules_chips.specs.Floats.{usable, count_of, value_of}

-- A phase is a whole number 0 to 3 of quarter turns; sums of phases are modulo 4
abbrev pub turned : ℕ → ℕ → ℕ
turned p q = (p + q) % 4

-- I and Q as whole numbers: counts here, steps of 2^-149 where demand 3 speaks of exact values
abbrev pub pair : ℤ → ℤ → Counts
pair x y = record { i = x; q = y }

abbrev pub nothing : Counts
nothing = pair (pos 0) (pos 0)

-- hard phases 0, 1, 2, 3 are (1, 0), (0, 1), (-1, 0), (0, -1) full chips of `one`; any other number is nothing
abbrev pub full_chip : ℕ → ℕ → Counts
full_chip one p =
    get_or
    (pair (pos one) (pos 0) ∷ pair (pos 0) (pos one) ∷ pair (neg_ℤ (pos one)) (pos 0)
    ∷ pair (pos 0) (neg_ℤ (pos one)) ∷ [])
    p
    nothing

-- a soft chip is usable when its I and its Q are
abbrev pub usable_sample : Sample → Bool
usable_sample s = usable s.i && usable s.q

-- the counts of a recorded chip: a full chip is 1024; lost, and what is not usable, counts as (0, 0)
abbrev pub counts_of : Chip → Counts
counts_of Lost = nothing
counts_of (Hard p) = full_chip 1024 p
counts_of (Soft s) = cond (usable_sample s) (pair (count_of s.i) (count_of s.q)) nothing

-- the exact value of a recorded chip, in steps of 2^-149: a full chip is 1
abbrev pub exact_of : Chip → Counts
exact_of Lost = nothing
exact_of (Hard p) = full_chip (2 ^ 149) p
exact_of (Soft s) = pair (value_of s.i) (value_of s.q)

-- What reading goes by, whatever recorded it: a chip is unusable, or it has two counts.
pub data Taken : Type 0 where
  unusable : Taken
  counted : Counts → Taken

abbrev pub is_unusable : Taken → Bool
is_unusable unusable = true
is_unusable (counted c) = false

abbrev pub taken_counts : Taken → Counts
taken_counts unusable = nothing
taken_counts (counted c) = c

-- A hard recording is octets: 0 to 3 a phase, 4 lost, 5 to 255 unusable
abbrev pub hard_chip : ℕ → Chip
hard_chip x = cond (eqb x 4) Lost (Hard x)

abbrev pub hard_taken : ℕ → Taken
hard_taken x = cond (leb x 4) (counted (counts_of (hard_chip x))) unusable

unfoldable pub hard_recording : List ℕ → List Taken
hard_recording xs = map hard_taken xs

-- A soft recording is two rows of f32, I and Q
abbrev pub soft_taken : Float → Float → Taken
soft_taken x y =
    let s : Sample = record { i = x; q = y } in
    cond (usable_sample s) (counted (counts_of (Soft s))) unusable

-- as far as both rows go: rows that differ in length are refused before any chip is looked at
unfoldable pub soft_recording : List Float → List Float → List Taken
soft_recording [] ys = []
soft_recording (x ∷ xs) [] = []
soft_recording (x ∷ xs) (y ∷ ys) = soft_taken x y ∷ soft_recording xs ys

-- A byte recording is signed bytes, I and Q in turn, I first; a full chip is 64. A byte counts exactly 16 times, and no
-- chip is unusable
abbrev pub byte_counts : ℤ → ℤ → Counts
byte_counts x y = pair (pos 16 *ℤ x) (pos 16 *ℤ y)

-- its exact value: a 64th of a full chip is 2^143 steps
abbrev pub byte_exact : ℤ → ℤ → Counts
byte_exact x y = pair (pos (2 ^ 143) *ℤ x) (pos (2 ^ 143) *ℤ y)

-- two bytes are a chip, as far as whole chips go: an odd number of bytes is refused before any chip is looked at
unfoldable pub byte_recording : List ℤ → List Taken
byte_recording [] = []
byte_recording (x ∷ []) = []
byte_recording (x ∷ y ∷ bytes) = counted (byte_counts x y) ∷ byte_recording bytes
