-- What the inner functions answer. Definitions only. Assumes nothing.
-- working notion: of the code that reads a header; no promise needs it
use Rattle.std.specs.Prelude.{Option, None, Some, ℕ, cond, nat_abs}
use Rattle.rules_rates.specs.declared.Rate.{Rate}
use Rattle.rules_rates.specs.Rates.{octets_read, length_holds}

-- the octets that LENGTH and bit 7 tell, none where refusal 15 comes
unfoldable pub octets_told : Rate → ℕ → ℕ → Option ℕ
octets_told r l seven = cond (length_holds r l seven) (Some (nat_abs (octets_read r l seven))) None
