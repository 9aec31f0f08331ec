-- the first s of sixteen are put, with their leads
use Rattle.rules_rates.specs.declared.Rate.TheVariants.{One}
use Rattle.rules_symbols.specs.Choice.{decided, lead_of}
use Rattle.choose_recorded.specs.Recorded.{Put}
use Rattle.choose_bytes.specs.Rows.{barker_at}
use Rattle.choose_bytes.proofs.sixteen_barkers.Given as goal

abbrev pub invariant-loop-s : goal.invariant-loop-s
invariant-loop-s l =
    Put (λ s. decided One (barker_at l.row s)) l.l l.initial.numbers l.numbers l.s
    × Put (λ s. lead_of One (barker_at l.row s)) l.l l.initial.raw l.raw l.s
