-- `common_lines::growth` meets its contract: the table is the definition's. Assumes nothing.
use mathlib.Core.Path.{◌≡◌, ap}
use Prim.Native.Nat.{ℕ, ◌+◌, ◌*◌, ◌/◌, ◌%◌, ◌<◌}
use native.Mathlib.Omega.{arith}
use lib.ListN.{get_or}
use borrow.Author.Rules.{rules}
use Rattle.rules_bits.specs.Growths.{growth_table, growth}
use Rattle.rules_bits.proofs.Growths.{growth_lt}
use Rattle.common_lines.proofs.growth.Statement.{statement}
use Rattle.common_lines.proofs.growth.Tie as tie

entry : (n : ℕ) → get_or growth_table (n % 4) 0 ≡ growth (n / 2 % 2) (n % 2)
unfolding growth
entry n = let e : n % 4 ≡ 2 * (n / 2 % 2) + n % 2 = omega arith in ap (λ (i : ℕ). get_or growth_table i 0) e

small : (n : ℕ) → growth (n / 2 % 2) (n % 2) < 4
small n = growth_lt (n / 2 % 2) (n % 2) (omega arith) (omega arith)

returns : tie.Need-returns
returns c = let n = c.args.n in (entry n, rw (entry n) (small n))

pub growth_spec : {M : Type 1} → statement M
growth_spec = tie.close (tie.spec
    (λ c. search rules) (λ c. search rules) returns)
