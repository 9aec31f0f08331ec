-- Sums of two numbers of the first stage.
use Rattle.choose_search.proofs.Keys.{two_summed, four_in_limit}
use Rattle.choose_search.proofs.groups.meet.Goals as goal

pub plus-requires : goal.plus-requires
plus-requires g c =
    four_in_limit g.T.Lane.most g.met.T.Lane.room (two_summed g.T.Lane.most c.requires.0 c.requires.1)

pub plus-requires-2 : goal.plus-requires-2
plus-requires-2 g c =
    four_in_limit g.T.Lane.most g.met.T.Lane.room (two_summed g.T.Lane.most c.requires.2 c.requires.3)

pub group-requires : goal.group-requires
group-requires g c = (
  rw c.plus.ensures.answer (two_summed g.T.Lane.most c.requires.0 c.requires.1),
  rw c.plus-2.ensures.answer (two_summed g.T.Lane.most c.requires.2 c.requires.3),
)
