use lib.Dec.{lit<}
use mir.Syntax.{w16}
use Rattle.base.proofs.Whole.{byte_within}
use Rattle.choose_walsh.proofs.Stages.{raised_fits, raised_is}
use Rattle.choose_stages.proofs.Widths.{widened}
use Rattle.choose_stages.proofs.narrow.scaled.Goals as goal

pub overflow_add-result : goal.overflow_add-result
overflow_add-result c =
    raised_fits (lit< tt) (widened (lit< tt) c.ranges.times c.requires.0)
    (widened (lit< tt) c.ranges.b (byte_within _ c.ranges.b.sfits)) (widened (lit< tt) c.ranges.more c.requires.1)

pub returns-clause-answer : goal.returns-clause-answer
returns-clause-answer c =
    raised_is {w = w16} (lit< tt) (widened (lit< tt) c.ranges.times c.requires.0)
    (widened (lit< tt) c.ranges.b (byte_within _ c.ranges.b.sfits)) (widened (lit< tt) c.ranges.more c.requires.1)

pub returns-clause-byte : goal.returns-clause-byte
returns-clause-byte c = byte_within _ c.ranges.b.sfits
