-- the first k chips are counted on the axis
use Rattle.std.specs.Prelude.{get_or}
use Rattle.base.specs.Tables.{Filled}
use Rattle.rules_chips.specs.declared.Chip.TheVariants.{Lost}
use Rattle.rules_chips.specs.Chips.{counts_of}
use Rattle.choose_axes.specs.Axes.{along}
use Rattle.choose_axes.proofs.soft_counts.Given as goal

abbrev pub invariant-loop-k : goal.invariant-loop-k
invariant-loop-k g l = Filled (λ j. along l.axis (counts_of (get_or l.chips j Lost))) g.row.N l.out l.k
