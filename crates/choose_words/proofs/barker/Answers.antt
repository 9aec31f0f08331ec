use Rattle.std.proofs.Common.{sym, subst}
use Rattle.base.specs.Whole.{Within}
use Rattle.choose_sums.proofs.Signs.{by_signs_within}
use Rattle.choose_words.proofs.barker.Goals as goal

pub choose-requires : goal.choose-requires
choose-requires g c = (
  subst (Within _) (sym c.by_signs.ensures) (by_signs_within _ _ c.requires.0),
  subst (Within _) (sym c.by_signs-2.ensures) (by_signs_within _ _ c.requires.1),
)
