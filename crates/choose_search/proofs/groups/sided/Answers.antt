use Rattle.std.proofs.Common.{rules}
use Rattle.choose_walsh.specs.Turns.{sided}
use Rattle.choose_search.proofs.groups.sided.Goals as goal

pub returns-then-below : goal.returns-then-below
unfolding sided
returns-then-below g c = search (rules, c.negated.ensures.answer, c.below.ensures.answer, c.of.ensures.answer)

pub returns-else-below : goal.returns-else-below
unfolding sided
returns-else-below g c = search (rules, c.below.ensures.answer, c.of.ensures.answer)
