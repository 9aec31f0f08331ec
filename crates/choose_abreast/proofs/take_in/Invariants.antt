-- The first k bytes are taken in.
-- Assumes nothing.
use Rattle.std.proofs.Common.{◌+◌, length, get_or, pos}
use Rattle.choose_abreast.proofs.Rows.{Filling}
use Rattle.choose_abreast.proofs.take_in.Given as goal

abbrev pub invariant-loop-k : goal.invariant-loop-k
invariant-loop-k l = Filling (λ j. get_or l.bytes (l.from + j) (pos 0)) (length l.fn.row) l.row l.k
