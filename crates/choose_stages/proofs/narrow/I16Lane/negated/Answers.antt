use lib.Dec.{lit<}
use mir.Syntax.{w16}
use Rattle.base.proofs.Whole.{neg_fits, neg_read}
use Rattle.choose_stages.proofs.narrow.I16Lane.negated.Goals as goal

pub overflow_sub-result : goal.overflow_sub-result
overflow_sub-result c = neg_fits w16 _ (lit< tt) _ c.requires

pub returns : goal.returns
returns c = record { answer = neg_read w16 _ (lit< tt) _ c.requires }
