use lib.Dec.{lit<}
use mir.Syntax.{w16}
use Rattle.base.proofs.Adding.{reads_of}
use Rattle.choose_walsh.proofs.Machine.{two_minus_fits, credit_is}
use Rattle.choose_stages.proofs.narrow.I16Lane.credit.Goals as goal

pub overflow_sub-self : goal.overflow_sub-self
overflow_sub-self c = two_minus_fits (lit< tt) (reads_of (lit< tt) c.requires)

pub returns : goal.returns
returns c = record { answer = credit_is {w = w16} (lit< tt) (reads_of (lit< tt) c.requires) c.larger.ensures.answer }
