use lib.Dec.{lit<}
use mir.Syntax.{w32}
use Rattle.base.proofs.Whole.{neg_fits, neg_read}
use Rattle.choose_stages.proofs.wide.I32Lane.negated.Goals as goal

pub overflow_sub-result : goal.overflow_sub-result
overflow_sub-result c = neg_fits w32 _ (lit< tt) _ c.requires

pub returns : goal.returns
returns c = record { answer = neg_read w32 _ (lit< tt) _ c.requires }
