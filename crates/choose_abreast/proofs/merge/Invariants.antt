-- The first k of each half are taken.
-- Assumes nothing.
use Rattle.std.proofs.Common.{◌*◌, length}
use Rattle.choose_abreast.proofs.Rows.{Filling, halves}
use Rattle.choose_abreast.proofs.merge.Given as goal

abbrev pub invariant-loop-k : goal.invariant-loop-k
invariant-loop-k l = Filling (halves l.from) (length l.from) l.to (2 * l.k)
