-- the first k chips of the column are set
use Rattle.choose_recorded.specs.Columns.{ColumnSet}
use Rattle.choose_abreast.proofs.put_column.Given as goal

abbrev pub invariant-loop-k : goal.invariant-loop-k
invariant-loop-k g l = (d : g.row.T.Denot) → ColumnSet d l.i l.q l.l l.initial.row l.k l.row
