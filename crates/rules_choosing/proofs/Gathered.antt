-- Bytes gathered out of rows of sixteen symbols, one from each pair of rows: the first k of n stand in the array, and
-- they are small.
--     gathered_none, gathered_more, gathered_all    before the loop, one byte more, at its end
-- Assumes nothing.
use mathlib.Core.Path.{◌≡◌}
use mathlib.Core.List.{List}
use Prim.Native.Nat.{ℕ, ◌+◌, ◌*◌, ◌≤◌, ◌<◌}
use native.Mathlib.Omega.{arith}
use lib.ListN.{length, get_or, set}
use lib.IntN.{ℤ, pos}
use borrow.Author.Count.{below_more}
use Rattle.base.specs.Tables.{tabulate, Filled}
use Rattle.base.specs.Whole.{Within}
use Rattle.base.proofs.Tables.{filled_none, filled_more, filled_all, filled_with}
use Rattle.base.proofs.Whole.{within_zero}
use Rattle.rules_choosing.specs.Scores.{RowWithin}

abbrev pub byte_at : List ℤ → ℕ → ℕ → ℤ
byte_at row from j = get_or row (from + 32 * j) (pos 0)

pub record Gathered (n : ℕ) (row : List ℤ) (from : ℕ) (out : List ℤ) (k : ℕ) : Type 0 where
  pub filled : Filled (byte_at row from) n out k
  pub small : (j : ℕ) → j < k → Within 128 (byte_at row from j)

pub gathered_none : (n : ℕ) (row : List ℤ) (from : ℕ) (out : List ℤ) → length out ≡ n → Gathered n row from out 0
gathered_none n row from out e =
    record { filled = filled_none (byte_at row from) n out e; small = λ j h. absurd (omega arith) }

module _ {n : ℕ} {row : List ℤ} {from : ℕ} {out : List ℤ} {k : ℕ} (g : Gathered n row from out k) where
  pub gathered_more : (v : ℤ) → k < n → v ≡ byte_at row from k → Within 128 (byte_at row from k)
      → Gathered n row from (set out k v) (k + 1)
  gathered_more v l e s =
      record { filled = filled_more v g.filled l e; small = below_more _ _ g.small s }

  pub gathered_all : n ≤ k → (out ≡ tabulate (byte_at row from) n) × RowWithin 128 out
  gathered_all l = (
    filled_all g.filled l,
    record { at = filled_with (Within 128) (pos 0) (within_zero 128) g.filled g.small l },
  )
