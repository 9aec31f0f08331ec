-- the first k bytes are gathered
use Rattle.rules_choosing.proofs.Gathered.{Gathered}
use Rattle.choose_bytes.proofs.symbol.Given as goal

abbrev pub invariant-loop-k : goal.invariant-loop-k
invariant-loop-k g l = Gathered g.row.N l.row l.from l.out l.k
