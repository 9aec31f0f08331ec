-- `find_sweep::advance` meets its contract. The invariant: the first l entries are those 256 on. Assumes nothing.
use Prim.Native.Nat.{◌+◌, ◌-◌}
use native.Mathlib.Omega.{arith}
use lib.ListN.{get_or}
use Rattle.find_sweep.specs.Sweep.{Worked}
use Rattle.find_sweep.proofs.Rows.{worked_none, worked_more, worked_row}
use Rattle.find_sweep.proofs.advance.Statement.{statement}
use Rattle.find_sweep.proofs.advance.Tie as tie

abbrev invariant_loop : tie.invariant-loop-l
invariant_loop halves₀ l₀ halves l = Worked (λ j. get_or halves₀ (j + 256) 0) halves₀ l halves

abbrev decreases_loop : tie.decreases-loop-l
decreases_loop halves₀ l₀ halves l = 256 - l

loop_again : tie.Need-loop-l-preserved invariant_loop decreases_loop
loop_again c =
    worked_more _ (omega arith) (c.loop-l.invariant.kept _ (omega arith)) c.loop-l.invariant

returns : tie.Need-returns invariant_loop decreases_loop
returns c = worked_row _ c.loop-l-test.false c.loop-l.invariant

pub advance_spec : {M : Type 1} → statement M
advance_spec =
    tie.close
    (tie.spec
    invariant_loop decreases_loop (λ c. worked_none _ _ c.requires) (λ c. omega arith) (λ c. omega arith)
    (λ c. omega arith) (λ c. omega arith) (λ c. omega arith) loop_again returns)
