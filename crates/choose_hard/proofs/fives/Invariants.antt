-- the first l symbols are decided, their leads in full chips
use Rattle.rules_rates.specs.declared.Rate.TheVariants.{Five}
use Rattle.rules_chips.specs.Chips.{hard_recording}
use Rattle.rules_symbols.specs.Choice.{lead_of}
use Rattle.choose_recorded.proofs.Firsts.{Firsts, number_at}
use Rattle.choose_recorded.proofs.HardLeads.{units_at}
use Rattle.choose_hard.proofs.fives.Given as goal

abbrev pub invariant-loop-l : goal.invariant-loop-l
invariant-loop-l l =
    Firsts (number_at Five (hard_recording l.octets) l.at) l.m l.numbers l.l
    × Firsts (λ k. lead_of Five (units_at Five l.octets l.at k)) l.m l.full l.l
