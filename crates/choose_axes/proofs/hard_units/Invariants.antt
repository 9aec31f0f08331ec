-- the first k chips are told in full chips on the axis
use Rattle.std.specs.Prelude.{get_or}
use Rattle.base.specs.Tables.{Filled}
use Rattle.rules_chips.specs.declared.Chip.TheVariants.{Lost}
use Rattle.choose_axes.specs.Axes.{along, unit_of}
use Rattle.choose_axes.proofs.hard_units.Given as goal

abbrev pub invariant-loop-k : goal.invariant-loop-k
invariant-loop-k g l = Filled (λ j. along l.axis (unit_of (get_or l.chips j Lost))) g.row.N l.out l.k
