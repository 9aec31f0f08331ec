use lib.Dec.{lit≤}
use Rattle.std.proofs.Common.{◌∙◌, arith}
use Rattle.std.proofs.lemmas.List.{length-map}
use Rattle.base.proofs.Whole.{within_zero, within_neg}
use Rattle.base.proofs.Adding.{within_pos}
use Rattle.choose_walsh.proofs.Stages.{entered, four_both}
use Rattle.choose_stages.proofs.enter.Goals as goal

pub four-requires : goal.four-requires
four-requires g c =
    (c.requires.0, c.requires.1, lit≤ tt, within_pos 16, within_neg (within_pos 16), within_zero 4, c.requires.2)

pub four-requires-2 : goal.four-requires-2
four-requires-2 g c = (
  c.requires.0,
  omega (arith, c.four.auto.z, c.requires.1),
  lit≤ tt,
  within_neg (within_pos 16),
  within_pos 16,
  within_pos 4,
  c.requires.2,
)

pub returns-clause-z : goal.returns-clause-z
returns-clause-z g c =
    entered (length-map c.args.z.now g.T.Lane.value ∙ c.requires.1) c.four.ensures.z c.four-2.ensures.z

pub returns-clause-small : goal.returns-clause-small
returns-clause-small g c =
    four_both c.four.ensures.small c.four-2.ensures.small (g.met.T.Lane.long c.args.row.now ∙ c.requires.0)
