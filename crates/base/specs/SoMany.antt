-- How many of some places are such. Definitions only. Assumes nothing.
use Rattle.std.specs.Prelude.{ℕ, suc}

-- `many` of the `places` places from `at` on are such
pub data SoMany (Such : ℕ → Type 0) : ℕ → ℕ → ℕ → Type 0 where
  no_place : {at : ℕ} → SoMany Such at 0 0
  such : {at places many : ℕ} → Such at → SoMany Such (suc at) places many → SoMany Such at (suc places) (suc many)
  other : {at places many : ℕ} → (Such at → ⊥) → SoMany Such (suc at) places many → SoMany Such at (suc places) many
