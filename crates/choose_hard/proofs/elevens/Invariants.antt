-- The symbols of so many sixteens are decided.
use Rattle.std.proofs.Common.{◌≡◌, ◌%◌, ◌-◌, length}
use Rattle.rules_rates.specs.declared.Rate.TheVariants.{Eleven}
use Rattle.rules_chips.specs.Chips.{hard_recording}
use Rattle.choose_recorded.proofs.Firsts.{Firsts, number_at, lead_at}
use Rattle.choose_hard.proofs.elevens.Given as goal

abbrev pub invariant-loop-l : goal.invariant-loop-l
invariant-loop-l l =
    Firsts (number_at Eleven (hard_recording l.octets) l.at) l.m l.numbers l.l
    × Firsts (lead_at Eleven (hard_recording l.octets) l.at) l.m l.leads l.l × (l.l % 16 ≡ 0)
    × (length l.row ≡ 256) × (length l.z ≡ 256) × (length l.a ≡ 512)

abbrev pub decreases-loop-l : goal.decreases-loop-l
decreases-loop-l l = l.m - l.l
