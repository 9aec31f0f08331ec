-- A complex number of a lane, as whole numbers.
-- Definitions only. Assumes nothing.
-- working notion: of the butterflies; no promise needs it
use Rattle.std.specs.Prelude.{ℤ}
use Rattle.rules_chips.specs.declared.Counts.{Counts}
use Rattle.rules_chips.specs.Chips.{pair}
use Rattle.choose_stages.specs.declared.Complex.{Complex}

abbrev pub whole : {N : Type 0} → (N → ℤ) → Complex N → Counts
whole value c = pair (value c.i) (value c.q)
