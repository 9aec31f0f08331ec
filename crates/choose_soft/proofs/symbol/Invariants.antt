-- the first k chips are gathered
use Rattle.std.specs.Prelude.{◌+◌, get_or}
use Rattle.std.specs.Float.{nan}
use Rattle.base.specs.Tables.{Filled}
use Rattle.rules_chips.specs.declared.Chip.TheVariants.{Soft}
use Rattle.choose_soft.proofs.symbol.Given as goal

abbrev pub invariant-loop-k : goal.invariant-loop-k
invariant-loop-k g l =
    Filled (λ j. Soft (record { i = get_or l.i (l.at + j) nan; q = get_or l.q (l.at + j) nan })) g.row.N l.chips l.k
