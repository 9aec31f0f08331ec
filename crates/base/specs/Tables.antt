-- A list by its rule, and what a loop that fills an array with it has done so far. Definitions only. Assumes nothing.
use Rattle.std.specs.Prelude.{◌≡◌, List, [], ◌∷◌, ◌++◌, ℕ, zero, suc, ◌≤◌, length, take}

module _ {A : Type 0} where
  -- the values of f at 0, 1, .., n - 1
  unfoldable pub tabulate : (ℕ → A) → ℕ → List A
  tabulate f zero = []
  tabulate f (suc n) = tabulate f n ++ (f n ∷ [])

  -- the first k of n places hold their values
  -- working notion: of the loops that fill rows
  pub record Filled (f : ℕ → A) (n : ℕ) (out : List A) (k : ℕ) : Type 0 where
    pub within : k ≤ n
    pub len : length out ≡ n
    pub front : take k out ≡ tabulate f k
