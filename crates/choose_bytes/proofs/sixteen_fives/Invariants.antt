-- the first s of sixteen are put, with their leads
use Rattle.rules_rates.specs.declared.Rate.TheVariants.{Five}
use Rattle.rules_symbols.specs.Choice.{decided, lead_of}
use Rattle.choose_recorded.specs.Recorded.{Put}
use Rattle.choose_bytes.specs.Rows.{five_at}
use Rattle.choose_bytes.proofs.sixteen_fives.Given as goal

abbrev pub invariant-loop-s : goal.invariant-loop-s
invariant-loop-s l =
    Put (λ s. decided Five (five_at l.row s)) l.l l.initial.numbers l.numbers l.s
    × Put (λ s. lead_of Five (five_at l.row s)) l.l l.initial.raw l.raw l.s
