-- the first k chips are gathered
use Rattle.std.specs.Prelude.{◌+◌, get_or}
use Rattle.base.specs.Tables.{Filled}
use Rattle.rules_chips.specs.Chips.{hard_chip}
use Rattle.choose_hard.proofs.symbol.Given as goal

abbrev pub invariant-loop-k : goal.invariant-loop-k
invariant-loop-k g l = Filled (λ j. hard_chip (get_or l.octets (l.at + j) 0)) g.row.N l.chips l.k
