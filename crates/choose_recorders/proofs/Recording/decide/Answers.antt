-- `Recording::decide`: each rate's own function meets the contract; 2 Mbit/s is decided as 1 Mbit/s is.
use Rattle.choose_recorders.proofs.Rows.{barker_numbers, barker_leads}
use Rattle.choose_recorders.proofs.Recording.decide.Goals as goal

pub returns-in-One-clause-numbers : goal.returns-in-One-clause-numbers
returns-in-One-clause-numbers c = barker_numbers _ _ _ _ c.in-One.is _ c.barkers.ensures.numbers

pub returns-in-One-clause-leads : goal.returns-in-One-clause-leads
returns-in-One-clause-leads c = barker_leads _ _ _ _ c.in-One.is _ c.barkers.ensures.leads
