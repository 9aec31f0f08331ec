-- `hear_blocks::odd::any_odd` meets its contract: no growth passed is odder than what was gathered. Assumes nothing.
use Rattle.std.proofs.Common.{◌≡◌, ℕ, ◌-◌, ◌%◌, ◌<◌, ◌≤◌, get_or, le_trans, arith, below_more}
use borrow.Author.Tests.{eqb-false}
use Rattle.rules_reading.proofs.FirstOdd.{or_low}
use Rattle.hear_blocks.proofs.odd.any_odd.Statement.{statement}
use Rattle.hear_blocks.proofs.odd.any_odd.Tie as tie

abbrev invariant_loop : tie.invariant-loop-l
invariant_loop m g any₀ l₀ any l = (l ≤ m) × ((j : ℕ) → j < l → get_or g j 0 % 2 ≤ any % 2)

abbrev decreases_loop : tie.decreases-loop-l
decreases_loop m g any₀ l₀ any l = m - l

loop_again : tie.Need-loop-l-preserved invariant_loop decreases_loop
loop_again c =
    let loop = c.loop-l in
    let x = get_or c.args.g loop.l 0 in (
      omega arith,
      below_more _ _ (λ j h. le_trans (loop.invariant.1 j h) (or_low loop.any x).0) (or_low loop.any x).1,
    )

returns : tie.Need-returns invariant_loop decreases_loop
returns c e j h = small _ _ (c.loop-l.invariant.1 j (omega arith)) (eqb-false (c.loop-l.any % 2) 1 e)
  where
    small : (x a : ℕ) → x % 2 ≤ a % 2 → (a % 2 ≡ 1 → ⊥) → x % 2 ≡ 0
    small x a l n = omega arith

pub any_odd_spec : {M : Type 1} → statement M
any_odd_spec =
    tie.close
    (tie.spec
    invariant_loop decreases_loop (λ c. (omega arith, λ j h. absurd (omega arith))) (λ c. omega arith)
    (λ c. omega arith) (λ c. omega arith) loop_again returns)
