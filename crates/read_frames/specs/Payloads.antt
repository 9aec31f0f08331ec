-- What a payload heard leaves in the octet buffer, and what it comes to. Definitions only. Assumes nothing.
-- working notion: of the code that reads a payload; no promise needs it
use Rattle.rules_calls.specs.declared.Refusal.{Refusal}
use Rattle.std.specs.Prelude.{List, ◌++◌, ℕ, ◌-◌, replicate, Option, None, Some, Result, Ok, Err}
use Rattle.rules_rates.specs.declared.Rate.{Rate}
use Rattle.rules_chips.specs.Chips.{Taken}
use Rattle.rules_frame.specs.declared.Kind.{Kind}
use Rattle.rules_calls.specs.declared.Refusal.TheVariants.{OddGrowth}
use Rattle.rules_calls.specs.declared.Told.{Told}
use Rattle.rules_calls.specs.declared.Least.{Least}
use Rattle.rules_calls.specs.declared.Reading.{Reading}
use Rattle.rules_reading.specs.Reading.{or_else, payload_of}

-- what a payload leaves in room for so many octets: zeros where a symbol is grown by 1 or 3
abbrev pub octets_heard : Kind → Rate → ℕ → List Taken → ℕ → Option ℕ → List ℕ
octets_heard k r n rec room None = payload_of k r n rec ++ replicate (room - n) 0
octets_heard k r n rec room (Some place) = replicate room 0

-- what a payload of usable chips comes to: 10, or the whole answer
abbrev pub after_heard : Told → ℕ → Least → Option ℕ → Result Reading Refusal
after_heard t used least odd = or_else odd (λ place. Err (OddGrowth place t.length)) (Ok (record { told = t; used = used; least = least }))
