-- What writing over a buffer's front leaves in it. Definitions only. Assumes nothing.
-- working notion: of the loops that fill rows; no promise needs it
use Rattle.std.specs.Prelude.{ℕ, List, ◌++◌, length, drop}

-- d with w written over its front
unfoldable pub over : List ℕ → List ℕ → List ℕ
over w d = w ++ drop (length w) d
