-- `choose_soft::clean` meets its contract. The invariant: where all looked at so far passed, they are usable.
-- Assumes nothing.
use mathlib.Core.Path.{◌≡◌, refl, sym, ◌∙◌}
use mathlib.Core.Bool.{Bool, true, false, ◌&&◌}
use mathlib.Core.List.{List}
use Prim.Native.Nat.{ℕ, ◌+◌, ◌-◌, ◌≤◌, ◌<◌}
use native.Mathlib.Omega.{arith}
use lib.ListN.{get_or}
use lib.Ieee.{Float, nan}
use borrow.Author.Count.{below_more}
use borrow.Author.Rules.{rules}
use Rattle.rules_chips.specs.Chips.{usable_sample}
use Rattle.rules_chips.proofs.Recorders.{sample}
use Rattle.rules_chips.proofs.Usable.{soft_at}
use Rattle.choose_soft.proofs.clean.Statement.{statement}
use Rattle.choose_soft.proofs.clean.Tie as tie

abbrev usable_at : List Float → List Float → ℕ → Bool
usable_at i q k = usable_sample (sample (get_or i k nan) (get_or q k nan))

abbrev invariant_loop : tie.invariant-loop-k
invariant_loop i q at ok₀ k₀ ok k = (k ≤ 64) × (ok ≡ true → (j : ℕ) → j < k → usable_at i q (at + j) ≡ true)

abbrev decreases_loop : tie.decreases-loop-k
decreases_loop i q at ok₀ k₀ ok k = 64 - k

both : (a b : Bool) → a && b ≡ true → (a ≡ true) × (b ≡ true)
both true b e = (refl, e)
both false b e = absurd (let z : ◌≡◌ {A = ℕ} 0 1 = cc in omega arith)

-- the first k are usable, and so is the next
more : (xs ys : List Float) (at k : ℕ) (a b : Bool) → (a ≡ true → (j : ℕ) → j < k → usable_at xs ys (at + j) ≡ true)
    → b ≡ usable_at xs ys (at + k) → a && b ≡ true → (j : ℕ) → j < k + 1 → usable_at xs ys (at + j) ≡ true
more xs ys at k a b h u e = below_more _ _ (h (both a b e).0) (sym u ∙ (both a b e).1)

loop_again : tie.Need-loop-k-preserved invariant_loop decreases_loop
loop_again c =
    let loop = c.loop-k in (
      omega arith,
      more c.args.i.now c.args.q.now c.args.at loop.k loop.ok c.usable_sample-ok.result
          loop.invariant.1 c.usable_sample-ok.ensures,
    )

returns : tie.Need-returns invariant_loop decreases_loop
returns c e =
    let xs = c.args.i.now in
    let ys = c.args.q.now in
    record {
      each = λ k h. rw (
        soft_at xs ys (c.args.at + k) (omega arith) (omega arith),
        c.loop-k.invariant.1 e k (omega arith),
      );
    }

pub clean_spec : {M : Type 1} → statement M
clean_spec =
    tie.close
    (tie.spec
    invariant_loop decreases_loop (λ c. (omega arith, λ e j h. absurd (omega arith))) (λ c. omega arith)
    (λ c. search rules) (λ c. omega arith) (λ c. omega arith) (λ c. search rules) (λ c. omega arith)
    (λ c κs. search rules) (λ c. omega arith) (λ c. omega arith) loop_again returns)
