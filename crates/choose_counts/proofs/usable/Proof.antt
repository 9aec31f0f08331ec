-- `choose_counts::usable` meets its contract: `usable_is` says what the two comparisons find, with -8 and 8 by their
-- values, which the program has by their bit patterns.
-- Assumes nothing.
use mathlib.Core.Path.{sym, subst}
use lib.Dec.{T}
use lib.Ieee.{binary32, fits, of_bits, neg}
use Rattle.rules_chips.proofs.Steps.{usable_is}
use Rattle.choose_counts.proofs.usable.Statement.{statement}
use Rattle.choose_counts.proofs.usable.Tie as tie

-- what owning an `f32` tells: the format holds it
held : (c : tie.Start) → T (fits binary32 c.args.x)
held c = subst T (sym c.well_formed.0.1) tt

returns : tie.Need-returns
unfolding of_bits neg
returns c = sym (usable_is c.args.x (held c))

pub usable_spec : {M : Type 1} → statement M
usable_spec = tie.close (tie.spec
    returns)
