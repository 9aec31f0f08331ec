use lib.Dec.{lit<}
use Rattle.choose_stages.proofs.Widths.{opposite_fits}
use Rattle.choose_stages.proofs.wide.I32Lane.magnitude.Goals as goal

pub abs-requires : goal.abs-requires
abs-requires c = opposite_fits (lit< tt) c.ranges.self c.requires
