-- `hear_blocks::least::any_below` meets its contract. The invariant: if what was gathered is below 2^31, none of the
-- first l leads is below the limit. Assumes nothing.
use Rattle.std.proofs.Common.{◌≡◌, ℕ, ◌+◌, ◌-◌, ◌%◌, ◌^◌, ◌<◌, ◌≤◌, List, get_or, arith, rules, below_more, leb-false}
use lib.Bits.{bit_or, or_add_and, and_le_l, and_le_r}
use Rattle.hear_blocks.proofs.least.any_below.Statement.{statement}
use Rattle.hear_blocks.proofs.least.any_below.Tie as tie

abbrev None : List ℕ → ℕ → ℕ → ℕ → Type 0
None xs limit l any = any < 2147483648 → (j : ℕ) → j < l → limit ≤ get_or xs j 0

-- what is gathered is no less than each part of it
from_left : (a b : ℕ) → a ≤ bit_or a b
from_left a b = omega (arith, or_add_and a b, and_le_r a b)

from_right : (a b : ℕ) → b ≤ bit_or a b
from_right a b = omega (arith, or_add_and a b, and_le_l a b)

-- a difference below 2^31 did not wrap
no_wrap : (d limit x : ℕ) → (d + limit) % 2 ^ 32 ≡ x → limit ≤ 2147483648 → d < 2147483648 → limit ≤ x
no_wrap d limit x e h l = omega arith

abbrev invariant_loop : tie.invariant-loop-l
invariant_loop leads m limit any₀ l₀ any l = (l ≤ m) × None leads limit l any

abbrev decreases_loop : tie.decreases-loop-l
decreases_loop leads m limit any₀ l₀ any l = m - l

loop_again : tie.Need-loop-l-preserved invariant_loop decreases_loop
loop_again c =
    let loop = c.loop-l in
    let d = c.wrapping_sub_u32-any.result in (
      omega arith,
      λ low. below_more _ _ (loop.invariant.1 (omega (arith, low, from_left loop.any d)))
          (no_wrap d c.args.limit _ c.wrapping_sub_u32-any.ensures c.requires.1
          (omega (arith, low, from_right loop.any d))),
    )

returns : tie.Need-returns invariant_loop decreases_loop
returns c e j h = c.loop-l.invariant.1 (omega (arith, leb-false 2147483648 c.loop-l.any e)) j (omega arith)

pub any_below_spec : {M : Type 1} → statement M
any_below_spec =
    tie.close
    (tie.spec
    invariant_loop decreases_loop (λ c. (omega arith, λ n j h. absurd (omega arith))) (λ c. search rules)
    (λ c. search rules) (λ c κs. search rules) (λ c. omega arith) (λ c. omega arith) loop_again returns)
