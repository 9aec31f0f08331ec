-- Keys as f32, which has every whole number up to 2^24: one instruction compares four of them, where whole numbers of
-- 32 bits need several.
-- Definitions only. Assumes nothing.
-- working notion: of the code that chooses words; no promise needs it
use Rattle.std.specs.Prelude.{◌≡◌, cond, ℕ, ◌<◌, pos, Float}
use Rattle.std.specs.Float.{binary32}
use Rattle.std.specs.Float.Ieee.{of_int, lt}

abbrev pub key_float : ℕ → Float
key_float k = of_int binary32 (pos k)

abbrev pub larger_float : Float → Float → Float
larger_float a b = cond (lt a b) b a

abbrev pub smaller_float : Float → Float → Float
smaller_float a b = cond (lt a b) a b

-- an f32 holds a key, which is small enough to be exact
abbrev pub holds_float : Float → ℕ → Type 0
holds_float v x = (v ≡ key_float x) × (x < 8388608)
