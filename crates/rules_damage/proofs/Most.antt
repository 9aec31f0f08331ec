-- On the clean chips of an 11 Mbit/s word no other word scores above 4 full chips (RULES 3.10): its own score is 8 of
-- them, and the lead of a clean word is 4. Assumes nothing.
use mathlib.Core.Path.{◌≡◌, subst}
use mathlib.Core.List.{List}
use Prim.Native.Nat.{ℕ, ◌*◌, ◌<◌}
use native.Mathlib.Omega.{arith}
use lib.Dec.{lit<}
use lib.IntN.{pos}
use lib.Signed.{◌≤ℤ◌}
use Rattle.base.proofs.Whole.{add, up_pos, dn_pos, le_of, of_le}
use Rattle.rules_rates.specs.declared.Rate.TheVariants.{Eleven}
use Rattle.rules_chips.specs.declared.Counts.{Counts}
use Rattle.rules_symbols.specs.Words.{cck_of}
use Rattle.rules_symbols.specs.Choice.{decided}
use Rattle.rules_symbols.proofs.Words.{word_phases, word_length}
use Rattle.rules_symbols.proofs.Agreement.{clean}
use Rattle.rules_choosing.specs.Scores.{score_at, LeadsBy}
use Rattle.rules_choosing.proofs.Clean.{score_self, decided_clean}
use Rattle.rules_choosing.proofs.CleanLeads.{lead_clean}
use Rattle.rules_choosing.proofs.Leads.{leads_by}

-- a clean word leads by just 4 full chips
eleven_leads : (w : ℕ) → w < 256 → LeadsBy Eleven (clean 1024 (cck_of w)) w (4 * 1024)
eleven_leads w hw =
    subst (λ (v : ℕ). LeadsBy Eleven (clean 1024 (cck_of w)) v 4096) (decided_clean 1024 (lit< tt) Eleven w hw tt)
    (subst (λ (t : ℕ). LeadsBy Eleven (clean 1024 (cck_of w)) (decided Eleven (clean 1024 (cck_of w))) t)
    (lead_clean 1024 (lit< tt) Eleven w hw tt) (leads_by Eleven (clean 1024 (cck_of w))))

pub eleven_most : (n w : ℕ) → n < 256 → w < 256 → (n ≡ w → ⊥)
    → score_at Eleven (clean 1024 (cck_of w)) n ≤ℤ pos (4 * 1024)
eleven_most n w hn hw ne =
    le_of (score_at Eleven cs n) (pos 4096) (omega (
      arith,
      of_le _ _ ((eleven_leads w hw).behind n hn tt ne),
      add (score_at Eleven cs n) (pos 4096),
      up_pos 4096,
      dn_pos 4096,
      (score_self 1024 (cck_of w) (word_phases Eleven w)).is,
      word_length Eleven w,
    ))
  where
    cs : List Counts
    cs = clean 1024 (cck_of w)
