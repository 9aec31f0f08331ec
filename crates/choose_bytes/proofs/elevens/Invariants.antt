-- The symbols of so many sixteens are decided.
use Rattle.std.proofs.Common.{◌≡◌, ◌%◌, ◌-◌, length}
use Rattle.rules_rates.specs.declared.Rate.TheVariants.{Eleven}
use Rattle.rules_chips.specs.Chips.{byte_recording}
use Rattle.choose_recorded.proofs.Firsts.{Firsts, number_at, lead_at}
use Rattle.choose_bytes.proofs.elevens.Given as goal

abbrev pub invariant-loop-l : goal.invariant-loop-l
invariant-loop-l l =
    Firsts (number_at Eleven (byte_recording l.bytes) l.at) l.m l.numbers l.l
    × Firsts (lead_at Eleven (byte_recording l.bytes) l.at) l.m l.leads l.l × (l.l % 16 ≡ 0)
    × (length l.row ≡ 256) × (length l.other ≡ 256) × (length l.z ≡ 256) × (length l.a ≡ 512)

abbrev pub decreases-loop-l : goal.decreases-loop-l
decreases-loop-l l = l.m - l.l
