-- `timed_count`: the rows of counts are equally long, each element below k is a count, and each from k on is as before.
use Rattle.std.proofs.Common.{◌≡◌, ℕ, ◌<◌, ◌≤◌, length, get_or, pos}
use Rattle.std.specs.Float.{nan}
use Rattle.rules_chips.specs.Floats.{count_of}
use Rattle.bench_leaves.proofs.timed_count.Given as goal

abbrev pub invariant-loop-k : goal.invariant-loop-k
invariant-loop-k l =
    (length l.counts ≡ length l.fn.counts)
    × ((j : ℕ) → j < l.k → get_or l.counts j (pos 0) ≡ count_of (get_or l.fn.xs j nan))
    × ((j : ℕ) → l.k ≤ j → get_or l.counts j (pos 0) ≡ get_or l.fn.counts j (pos 0))
