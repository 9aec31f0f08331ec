-- Reading as the guides of 1997 read (RULES 6.30): every front is long, so no kind is asked for, and a header is
-- accepted if such a guide accepts it. All else is reading itself (Reading.antt).
-- Definitions only. Assumes nothing.
use Rattle.rules_calls.specs.declared.Refusal.{Refusal}
use Rattle.std.specs.Prelude.{ℕ, List, Result}
use Rattle.rules_chips.specs.Chips.{Taken}
use Rattle.rules_frame.specs.declared.Kind.TheVariants.{Long}
use Rattle.rules_calls.specs.declared.Reading.{Reading}
use Rattle.rules_calls.specs.Headers.{of1997}
use Rattle.rules_reading.specs.Reading.{reading_by, octets_after}

-- what a recording comes to, with room for so many octets
unfoldable pub reading1997 : List Taken → ℕ → Result Reading Refusal
reading1997 rec room = reading_by of1997 Long rec room

-- and what is left in the octet buffer
unfoldable pub octets1997 : List Taken → ℕ → List ℕ
octets1997 rec room = octets_after Long rec room (reading1997 rec room)
