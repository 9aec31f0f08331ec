-- I and Q apart, and chips that are all of one recorder. Definitions only. Assumes nothing.
-- working notion: of the code that chooses words; no promise needs it
use Rattle.std.specs.Prelude.{ℕ, ◌<◌, Bool, true, false, List, map, T, get_or, ℤ}
use Rattle.choose_axes.specs.declared.Axis.{Axis}
use Rattle.choose_axes.specs.declared.Axis.TheVariants.{I, Q}
use Rattle.rules_chips.specs.declared.Counts.{Counts}
use Rattle.rules_chips.specs.declared.Chip.{Chip}
use Rattle.rules_chips.specs.declared.Chip.TheVariants.{Lost, Hard, Soft}
use Rattle.rules_chips.specs.Chips.{full_chip, usable_sample, counts_of}

-- the number on an axis
abbrev pub along : Axis → Counts → ℤ
along I c = c.i
along Q c = c.q

-- the phase of a chip of 1 on an axis; a half turn on it is -1
abbrev pub phase_on : Axis → ℕ
phase_on I = 0
phase_on Q = 1

-- the counts of a row of chips on an axis
abbrev pub counts_along : Axis → List Chip → List ℤ
counts_along x chips = map (λ c. along x (counts_of c)) chips

-- a chip of a soft recording that is usable
abbrev pub soft_usable : Chip → Bool
soft_usable Lost = false
soft_usable (Hard p) = false
soft_usable (Soft s) = usable_sample s

-- a chip of a hard recording, usable or not: an octet that is none of the phases counts as nothing
abbrev pub is_hard : Chip → Bool
is_hard Lost = true
is_hard (Hard p) = true
is_hard (Soft s) = false

-- the octet that a chip of a hard recording is; a soft one is taken for lost
abbrev pub octet_of : Chip → ℕ
octet_of Lost = 4
octet_of (Hard p) = p
octet_of (Soft s) = 4

-- a chip of a hard recording in full chips, and a row of them on an axis
abbrev pub unit_of : Chip → Counts
unit_of c = full_chip 1 (octet_of c)

abbrev pub units_along : Axis → List Chip → List ℤ
units_along x chips = map (λ c. along x (unit_of c)) chips

-- the first n chips are a soft recording's, and usable
pub record AllSoft (n : ℕ) (chips : List Chip) : Type 0 where
  pub at : (k : ℕ) → k < n → T (soft_usable (get_or chips k Lost))

-- the first n chips are a hard recording's
pub record AllHard (n : ℕ) (chips : List Chip) : Type 0 where
  pub at : (k : ℕ) → k < n → T (is_hard (get_or chips k Lost))
