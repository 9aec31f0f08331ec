-- `hear_blocks::least::least_by_symbol` meets its contract. The invariant: low is the smallest lead after the first l.
-- Assumes nothing.
use Rattle.std.proofs.Common.{◌≡◌, ℕ, ◌-◌, ◌≤◌, take, refl, ◌∙◌, subst, arith}
use Rattle.rules_reading.specs.Leads.{least_from}
use Rattle.rules_reading.proofs.Lowest.{row_more}
use Rattle.hear_blocks.proofs.least.least_by_symbol.Statement.{statement}
use Rattle.hear_blocks.proofs.least.least_by_symbol.Tie as tie

abbrev invariant_loop : tie.invariant-loop-l
invariant_loop symbol leads m low₀ l₀ low l = (l ≤ m) × (low ≡ least_from symbol low₀ (take l leads))

abbrev decreases_loop : tie.decreases-loop-l
decreases_loop symbol leads m low₀ l₀ low l = m - l

loop_holds : tie.Need-loop-l-init invariant_loop decreases_loop
unfolding least_from
loop_holds c = (omega arith, refl)

loop_again : tie.Need-loop-l-preserved invariant_loop decreases_loop
loop_again c =
    let loop = c.loop-l in (
      omega arith,
      c.lower-low.ensures
          ∙ row_more c.args.symbol c.args.least loop.low c.args.leads.now loop.l
          (omega arith) loop.invariant.1,
    )

returns : tie.Need-returns invariant_loop decreases_loop
returns c =
    let loop = c.loop-l in
    let a = c.args in
    let e : loop.l ≡ a.m = omega arith in
    subst (λ (n : ℕ). loop.low ≡ least_from a.symbol a.least (take n a.leads.now)) e loop.invariant.1

pub least_by_symbol_spec : {M : Type 1} → statement M
least_by_symbol_spec =
    tie.close
    (tie.spec
    invariant_loop decreases_loop loop_holds (λ c. omega arith) (λ c. omega arith)
    (λ c. record { fits = omega arith }) (λ c κs. tt) (λ c. omega arith) (λ c. omega arith) loop_again returns)
