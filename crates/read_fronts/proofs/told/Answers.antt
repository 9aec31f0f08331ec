-- `told`: what the header tells has few octets, and is refused with 11 to 15.
use mathlib.Core.Path.{sym, ◌∙◌}
use Rattle.read_fronts.proofs.Sizes.{header_few, header_late}
use Rattle.read_fronts.proofs.told.Goals as goal

pub returns-in-None-clause-few : goal.returns-in-None-clause-few
returns-in-None-clause-few c t w = header_few _ _ _ _ t (sym c.header_of.ensures.answer ∙ w)

pub returns-in-None-clause-refuses : goal.returns-in-None-clause-refuses
returns-in-None-clause-refuses c e w = header_late _ _ _ _ e (sym c.header_of.ensures.answer ∙ w)
