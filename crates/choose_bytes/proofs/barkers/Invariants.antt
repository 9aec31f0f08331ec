-- the symbols of so many sixteens are decided, their leads as bytes have them
use Rattle.std.specs.Prelude.{◌≡◌, ◌+◌, ◌*◌, ◌-◌, ◌%◌, length}
use Rattle.rules_rates.specs.declared.Rate.TheVariants.{One}
use Rattle.rules_chips.specs.Chips.{byte_recording}
use Rattle.rules_symbols.specs.Choice.{lead_of}
use Rattle.choose_recorded.proofs.Firsts.{Firsts, number_at}
use Rattle.choose_bytes.proofs.barkers.Given as goal
use Rattle.choose_bytes.specs.Rows.{barker_bytes}

abbrev pub invariant-loop-l : goal.invariant-loop-l
invariant-loop-l l =
    Firsts (number_at One (byte_recording l.bytes) l.at) l.m l.numbers l.l
    × Firsts (λ k. lead_of One (barker_bytes l.bytes (l.at + 11 * k))) l.m l.raw l.l
    × (l.l % 16 ≡ 0) × (length l.row ≡ 352) × (length l.other ≡ 352)

abbrev pub decreases-loop-l : goal.decreases-loop-l
decreases-loop-l l = l.m - l.l
