-- `odd::first_odd`: no growth passed is odd.
use Rattle.std.proofs.Common.{◌≡◌, ℕ, ◌%◌, ◌<◌, get_or}
use Rattle.hear_blocks.proofs.odd.first_odd.Given as goal

abbrev pub invariant-loop-l : goal.invariant-loop-l
invariant-loop-l s = (j : ℕ) → j < s.l → get_or s.g j 0 % 2 ≡ 0
