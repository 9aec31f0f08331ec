-- Symbols of bytes, I and Q apart, one after the other and sixteen abreast; and what sixteen abreast are decided from.
-- Definitions only. Assumes nothing.
-- working notion: of the code that chooses words; no promise needs it
use Rattle.std.specs.Prelude.{ℕ, ◌+◌, ◌*◌, List, ℤ}
use Rattle.rules_chips.specs.declared.Counts.{Counts}
use Rattle.choose_sums.specs.Sums.{by_signs, as_chip, rows, spaced, every_row}

-- the bytes of one axis: every second of a recording's
abbrev pub every_second : List ℤ → ℕ → ℕ → List ℤ
every_second bytes from n = spaced 2 bytes from n

-- what symbol s of sixteen abreast is decided from: a Barker symbol by its sums, one of 5.5 Mbit/s by its bytes
abbrev pub barker_at : List ℤ → ℕ → List Counts
barker_at row s = as_chip (by_signs (every_row row s 11)) (by_signs (every_row row (16 + s) 11))

abbrev pub five_at : List ℤ → ℕ → List Counts
five_at row s = rows (every_row row s 8) (every_row row (16 + s) 8)

-- and the same of the symbol whose chips start at a place of a recording
abbrev pub barker_bytes : List ℤ → ℕ → List Counts
barker_bytes bytes at = as_chip (by_signs (every_second bytes (2 * at) 11)) (by_signs (every_second bytes (2 * at + 1) 11))

abbrev pub five_bytes : List ℤ → ℕ → List Counts
five_bytes bytes at = rows (every_second bytes (2 * at) 8) (every_second bytes (2 * at + 1) 8)
