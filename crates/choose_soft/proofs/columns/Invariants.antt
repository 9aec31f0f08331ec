-- the first l columns are set, and the row's numbers are small
use Rattle.choose_axes.specs.declared.Axis.TheVariants.{I, Q}
use Rattle.rules_choosing.specs.Scores.{RowWithin}
use Rattle.choose_recorded.specs.Columns.{Columns, soft_column}
use Rattle.choose_soft.proofs.columns.Given as goal

abbrev pub invariant-loop-l : goal.invariant-loop-l
invariant-loop-l l = Columns (soft_column I l.i l.q l.at) (soft_column Q l.i l.q l.at) l.row l.l × RowWithin 8192 l.row
