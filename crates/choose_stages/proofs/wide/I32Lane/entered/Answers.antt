use lib.Dec.{lit<}
use mir.Syntax.{w32}
use Rattle.base.proofs.Adding.{reads_of}
use Rattle.choose_walsh.proofs.Stages.{product_fits, raised_fits, raised_is}
use Rattle.choose_stages.proofs.Widths.{widened}
use Rattle.choose_stages.proofs.wide.I32Lane.entered.Goals as goal

pub overflow_mul-result : goal.overflow_mul-result
overflow_mul-result c =
    product_fits (lit< tt) (widened (lit< tt) c.ranges.times c.requires.2) (reads_of (lit< tt) (c.requires.0.at _))
    (widened (lit< tt) c.ranges.more c.requires.3)

pub overflow_add-result : goal.overflow_add-result
overflow_add-result c =
    raised_fits (lit< tt) (widened (lit< tt) c.ranges.times c.requires.2) (reads_of (lit< tt) (c.requires.0.at _))
    (widened (lit< tt) c.ranges.more c.requires.3)

pub returns-clause-answer : goal.returns-clause-answer
returns-clause-answer c =
    raised_is {w = w32} (lit< tt) (widened (lit< tt) c.ranges.times c.requires.2) (reads_of (lit< tt) (c.requires.0.at _))
    (widened (lit< tt) c.ranges.more c.requires.3)
