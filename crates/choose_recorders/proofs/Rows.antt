-- Laws of the rows that are lent.
--     room_hard, room_soft, room_bytes    what fits a recording fits its rows
--     barker_numbers, barker_leads        symbols of 2 Mbit/s are decided as those of 1 Mbit/s are
-- Assumes nothing.
use mathlib.Core.Path.{◌≡◌}
use mathlib.Core.Logic.{◌⊎◌, inl, inr}
use mathlib.Core.List.{List}
use Prim.Native.Nat.{ℕ, ◌/◌, ◌≤◌}
use native.Mathlib.Omega.{arith}
use lib.ListN.{length}
use lib.IntN.{ℤ}
use lib.Ieee.{Float}
use Rattle.rules_rates.specs.declared.Rate.{Rate}
use Rattle.rules_rates.specs.declared.Rate.TheVariants.{One, Two}
use Rattle.rules_chips.specs.Chips.{Taken, hard_recording, soft_recording, byte_recording}
use Rattle.rules_chips.proofs.Recorders.{length_hard, length_soft}
use Rattle.rules_chips.proofs.Bytes.{length_bytes}
use Rattle.choose_recorded.specs.Recorded.{DecidedAt, LeadsAt}
use Rattle.choose_recorded.proofs.Firsts.{decided_two, leads_two}

pub room_hard : (octets : List ℕ) (n : ℕ) → n ≤ length (hard_recording octets) → n ≤ length octets
room_hard octets n l = rw length_hard at l

pub room_soft : (i q : List Float) (n : ℕ) → n ≤ length (soft_recording i q) → (n ≤ length i) × (n ≤ length q)
room_soft i q n l = omega (arith, length_soft i q)

pub room_bytes : (bytes : List ℤ) (n : ℕ) → n ≤ length (byte_recording bytes) → n ≤ length bytes / 2
room_bytes bytes n l = rw length_bytes at l

module _ (r : Rate) (rec : List Taken) (at m : ℕ) where
  pub barker_numbers : (r ≡ One) ⊎ (r ≡ Two) → (ns : List ℕ) → DecidedAt One rec at m ns → DecidedAt r rec at m ns
  barker_numbers (inl e) ns d = rw e d
  barker_numbers (inr e) ns d = rw e (decided_two rec at m ns d)

  pub barker_leads : (r ≡ One) ⊎ (r ≡ Two) → (ls : List ℕ) → LeadsAt One rec at m ls → LeadsAt r rec at m ls
  barker_leads (inl e) ls d = rw e d
  barker_leads (inr e) ls d = rw e (leads_two rec at m ls d)
