-- the first l columns are set
use Rattle.choose_axes.specs.declared.Axis.TheVariants.{I, Q}
use Rattle.choose_recorded.specs.Columns.{Columns, hard_column}
use Rattle.choose_hard.proofs.columns.Given as goal

abbrev pub invariant-loop-l : goal.invariant-loop-l
invariant-loop-l l = Columns (hard_column I l.octets l.at) (hard_column Q l.octets l.at) l.row l.l
