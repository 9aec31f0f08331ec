-- What is known of a line once octets of a recording were heard on it, and of their leads. Definitions only. Assumes
-- nothing.
-- working notion: of the code that hears octets; no promise needs it
use Rattle.std.specs.Prelude.{◌≡◌, List, ℕ, ◌*◌, ◌/◌, drop}
use Rattle.rules_rates.specs.declared.Rate.{Rate}
use Rattle.rules_rates.specs.Rates.{symbol_bits}
use Rattle.rules_chips.specs.Chips.{Taken}
use Rattle.common_lines.specs.declared.Line.{Line}
use Rattle.rules_calls.specs.declared.Least.{Least}
use Rattle.rules_reading.specs.Reading.{decided_words}
use Rattle.rules_reading.specs.Leads.{decided_leads, least_from}
use Rattle.hear_blocks.specs.Heard.{Heard, plain_octets}
use Rattle.hear_parts.specs.declared.Part.{Part}

-- the words of n octets from place `at` of a recording, and their leads
abbrev pub part_words : Rate → ℕ → ℕ → List Taken → List ℕ
part_words r at n rec = decided_words r (8 * n / symbol_bits r) (drop at rec)

abbrev pub part_leads : Rate → ℕ → ℕ → List Taken → List ℕ
part_leads r at n rec = decided_leads r (8 * n / symbol_bits r) (drop at rec)

-- n octets heard from place `at`, whose first symbol is number k of the frame, odd or even, and before which b was the
-- smallest lead
pub record PartHeard (r : Rate) (at n : ℕ) (rec : List Taken) (l : Line) (k : ℕ) (b : Least) (p : Part) (out : List ℕ)
    : Type 0 where
  pub line : Heard r k at l (part_words r at n rec) p.heard
  pub octets : out ≡ plain_octets r k n l (part_words r at n rec)
  pub least : p.least ≡ least_from k b (part_leads r at n rec)
