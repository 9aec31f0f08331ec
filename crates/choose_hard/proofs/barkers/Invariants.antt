-- the first l symbols are decided, their leads in full chips
use Rattle.rules_rates.specs.declared.Rate.TheVariants.{One}
use Rattle.rules_chips.specs.Chips.{hard_recording}
use Rattle.rules_symbols.specs.Choice.{lead_of}
use Rattle.choose_recorded.proofs.Firsts.{Firsts, number_at}
use Rattle.choose_recorded.proofs.HardLeads.{units_at}
use Rattle.choose_hard.proofs.barkers.Given as goal

abbrev pub invariant-loop-l : goal.invariant-loop-l
invariant-loop-l l =
    Firsts (number_at One (hard_recording l.octets) l.at) l.m l.numbers l.l
    × Firsts (λ k. lead_of One (units_at One l.octets l.at k)) l.m l.full l.l
