-- If what is gathered so far is nothing, the marks so far are 0. Assumes nothing.
use Rattle.std.proofs.Common.{◌≡◌, ℕ, ◌<◌, get_or}
use Rattle.find_sweep.proofs.any.Given as goal

abbrev pub invariant-loop-mark : goal.invariant-loop-mark
invariant-loop-mark l = l.all ≡ 0 → (j : ℕ) → j < l.mark-index → get_or l.marks j 0 ≡ 0
