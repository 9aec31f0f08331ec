-- The symbols of so many sixteens are decided, and the row's numbers are small.
use Rattle.std.proofs.Common.{◌≡◌, ◌%◌, ◌-◌, length}
use Rattle.rules_rates.specs.declared.Rate.TheVariants.{Eleven}
use Rattle.rules_chips.specs.Chips.{soft_recording}
use Rattle.rules_choosing.specs.Scores.{RowWithin}
use Rattle.choose_recorded.proofs.Firsts.{Firsts, number_at, lead_at}
use Rattle.choose_soft.proofs.elevens.Given as goal

abbrev pub invariant-loop-l : goal.invariant-loop-l
invariant-loop-l l =
    Firsts (number_at Eleven (soft_recording l.i l.q) l.at) l.m l.numbers l.l
    × Firsts (lead_at Eleven (soft_recording l.i l.q) l.at) l.m l.leads l.l × (l.l % 16 ≡ 0)
    × (length l.row ≡ 256) × (length l.z ≡ 256) × (length l.a ≡ 512) × RowWithin 8192 l.row

abbrev pub decreases-loop-l : goal.decreases-loop-l
decreases-loop-l l = l.m - l.l
