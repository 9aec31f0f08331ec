-- `choose_hard::clean` meets its contract. The invariant: the first k octets are at most the largest so far.
-- Assumes nothing.
use mathlib.Core.Path.{◌≡◌}
use mathlib.Core.List.{List}
use mathlib.Core.Logic.{⊎_elim}
use Prim.Native.Nat.{ℕ, ◌+◌, ◌-◌, ◌≤◌, ◌<◌}
use native.Mathlib.Decide.{dec_lt}
use native.Mathlib.Omega.{arith}
use lib.ListN.{get_or}
use borrow.Author.Tests.{ltb-true, le-leb}
use Rattle.rules_chips.proofs.Usable.{hard_at}
use Rattle.choose_hard.proofs.clean.Statement.{statement}
use Rattle.choose_hard.proofs.clean.Tie as tie

abbrev invariant_loop : tie.invariant-loop-k
invariant_loop octets at top₀ k₀ top k = (k ≤ 64) × ((j : ℕ) → j < k → get_or octets (at + j) 0 ≤ top)

abbrev decreases_loop : tie.decreases-loop-k
decreases_loop octets at top₀ k₀ top k = 64 - k

-- a bound of the first k, raised to bound the next
raised : (xs : List ℕ) (at k a b : ℕ) → ((j : ℕ) → j < k → get_or xs (at + j) 0 ≤ a) → a ≤ b → get_or xs (at + k) 0 ≤ b
    → (j : ℕ) → j < k + 1 → get_or xs (at + j) 0 ≤ b
raised xs at k a b h l m j i = by (dec_lt j k)
  where
    by : Dec (j < k) → get_or xs (at + j) 0 ≤ b
    by (yes p) = omega (arith, h j p)
    by (no q) = let e : j ≡ k = omega arith in rw e m

loop_again : tie.Need-loop-k-preserved invariant_loop decreases_loop
loop_again c =
    let loop = c.loop-k in
    let step = raised c.args.octets.now c.args.at loop.k loop.top c.if-top-x.top
    loop.invariant.1 in (
      omega arith,
      step (⊎_elim (λ w. omega arith) (λ w. omega arith) c.if-top-x.branch-raw)
          (⊎_elim (λ w. omega arith) (λ w. omega arith) c.if-top-x.branch-raw),
    )

returns : tie.Need-returns invariant_loop decreases_loop
returns c e =
    let xs = c.args.octets.now in
    let loop = c.loop-k in
    record {
      each = λ k h.
          let small : get_or xs (c.args.at + k) 0 ≤ 4 =
          omega (arith, loop.invariant.1 k (omega arith), ltb-true loop.top 5 e) in
          rw (hard_at xs (c.args.at + k) (omega arith), le-leb (get_or xs (c.args.at + k) 0) 4 small);
    }

pub clean_spec : {M : Type 1} → statement M
clean_spec =
    tie.close
    (tie.spec
    invariant_loop decreases_loop (λ c. (omega arith, λ j h. absurd (omega arith))) (λ c. omega arith)
    (λ c. omega arith) (λ c. omega arith) (λ c. omega arith) loop_again returns)
