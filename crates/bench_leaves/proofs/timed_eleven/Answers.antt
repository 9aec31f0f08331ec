-- `timed_eleven`: by the number of the recorder; one that is none gives 0.
use mathlib.Core.Path.{refl, ◌∙◌}
use native.Mathlib.Omega.{arith}
use borrow.Author.Tests.{lt-leb}
use Rattle.bench_leaves.specs.Leaves.{decided_last}
use Rattle.bench_leaves.proofs.timed_eleven.Goals as goal

pub returns-in-0 : goal.returns-in-0
unfolding decided_last
returns-in-0 c = record { answer = c.last_or_none.ensures.answer ∙ rw c.in-0.is refl }

pub returns-in-1 : goal.returns-in-1
unfolding decided_last
returns-in-1 c = record { answer = c.last_or_none-in-1.ensures.answer ∙ rw c.in-1.is refl }

pub returns-in-2 : goal.returns-in-2
unfolding decided_last
returns-in-2 c = record { answer = c.last_or_none-in-2.ensures.answer ∙ rw c.in-2.is refl }

pub returns-in_default : goal.returns-in_default
unfolding decided_last
returns-in_default c = record { answer = rw (lt-leb c.args.recorder 2 (omega (arith, c.in_default))) refl }
