-- What is promised of long frames that were spoiled and are read as a guide of 1997 reads them (RULES 6.28, 6.30).
-- Definitions only. Assumes nothing.
use Rattle.std.specs.Prelude.{ℕ, ◌-◌, ◌≤◌, ◌≡◌, List, ◌++◌, length, take, replicate}
use Rattle.rules_rates.specs.Plain.{LengthOf}
use Rattle.rules_calls.specs.declared.Written.{Written}
use Rattle.rules_calls.specs.declared.Record.{Record}
use Rattle.rules_calls.specs.Plain.{Rate1997}
use Rattle.rules_damage.specs.Plain.{FrameStands}
use Rattle.promises.specs.Calls.{good, refused, Sent}
use Rattle.promises_1997.specs.Calls.{Read1997}

-- promise: A long frame that was written and recorded as phases and 4s, and whose symbols each keep their limit, read
-- with room as a guide of 1997 reads it, whatever follows it: at 10 and 20 without the clock bit the payload, rate,
-- LENGTH, n and chips used that were written, and a lead of at least one full chip; at 10 and 20 with the clock bit it
-- answers 14, at 55 and 110 13, each with the true LENGTH and all else 0
-- rule: 6.28, 6.30
-- code: dsss_write_2, dsss_read_1997
abbrev pub Spoiled1997 : Type 0
Spoiled1997 =
    (rate phase clock : ℕ) (payload : List ℕ) (w : Written) (chips : List ℕ)
    → Sent 0 rate phase clock payload w chips → (l : ℕ) → LengthOf rate (length payload) l
    → (rec tail : List ℕ) → FrameStands 0 rate (length payload) (take w.chips chips) rec
    → (room : ℕ) (a : Record) (left : List ℕ) → length payload ≤ room → Read1997 (rec ++ tail) room a left
    → (Rate1997 rate → clock ≡ 0
    → (a ≡ good rate l (length payload) w.chips 0 a.lead a.symbol)
    × (1024 ≤ a.lead)
    × (left ≡ payload ++ replicate (room - length payload) 0))
    × ((Rate1997 rate → ⊥) → a ≡ refused 13 l)
    × (Rate1997 rate → (clock ≡ 0 → ⊥) → a ≡ refused 14 l)
