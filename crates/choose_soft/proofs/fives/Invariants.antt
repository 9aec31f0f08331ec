-- the first l symbols are decided, with their leads
use Rattle.rules_rates.specs.declared.Rate.TheVariants.{Five}
use Rattle.rules_chips.specs.Chips.{soft_recording}
use Rattle.choose_recorded.proofs.Firsts.{Firsts, number_at, lead_at}
use Rattle.choose_soft.proofs.fives.Given as goal

abbrev pub invariant-loop-l : goal.invariant-loop-l
invariant-loop-l l =
    Firsts (number_at Five (soft_recording l.i l.q) l.at) l.m l.numbers l.l
    × Firsts (lead_at Five (soft_recording l.i l.q) l.at) l.m l.leads l.l
