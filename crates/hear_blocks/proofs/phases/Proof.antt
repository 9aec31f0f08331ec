-- `hear_blocks::phases` meets its contract. The invariant: the phase before the block and those of l words are
-- filled. Assumes nothing.
use Rattle.std.proofs.Common.{◌+◌, ◌-◌, refl, ◌∙◌, add-one, arith}
use Rattle.base.specs.Tables.{Filled, tabulate}
use Rattle.base.proofs.Tables.{filled_more, filled_all}
use Rattle.hear_codes.specs.Codes.{phase_before}
use Rattle.hear_blocks.proofs.phases.Statement.{statement}
use Rattle.hear_blocks.proofs.phases.Tie as tie

abbrev invariant_loop : tie.invariant-loop-l
invariant_loop rate before numbers out₀ l₀ out l = Filled (phase_before rate before numbers) 65 out (l + 1)

abbrev decreases_loop : tie.decreases-loop-l
decreases_loop rate before numbers out₀ l₀ out l = 64 - l

loop_holds : tie.Need-loop-l-init invariant_loop decreases_loop
unfolding tabulate
loop_holds c = record { within = omega arith; len = refl; front = refl }

loop_again : tie.Need-loop-l-preserved invariant_loop decreases_loop
loop_again c =
    let loop = c.loop-l in
    filled_more _ loop.invariant (omega arith) (c.phase.ensures.0 ∙ rw (add-one loop.l))

returns : tie.Need-returns invariant_loop decreases_loop
returns c = filled_all c.loop-l.invariant (omega arith)

pub phases_spec : {M : Type 1} → statement M
phases_spec =
    tie.close
    (tie.spec
    invariant_loop decreases_loop (λ c. omega arith) loop_holds (λ c. omega arith) (λ c κs. tt) (λ c. omega arith)
    (λ c. omega arith) (λ c. omega arith) (λ c. omega arith) loop_again returns)
