-- Each test of all entries is what those before gave, and the test of those left. Assumes nothing.
use Rattle.std.proofs.Common.{◌+◌, ◌*◌, ◌≤◌}
use Rattle.rules_store.specs.Store.{table_end}
use Rattle.rules_store.proofs.OnePass.{OnePass}
use Rattle.store_keep.proofs.table.ask.Given as goal

abbrev pub invariant-loop-i : goal.invariant-loop-i
invariant-loop-i l = (l.at ≤ table_end l.n + 255 * l.i) × OnePass l.store l.n l.i l.least l.at l.laid
