-- `choose_axes::hard_unit` meets its contract: the octets of 1 and of -1 are those of the axis.
-- Assumes nothing.
use mathlib.Core.Path.{ap, ◌∙◌}
use Prim.Native.Nat.{ℕ, ◌+◌, ◌≤◌}
use native.Mathlib.Omega.{arith}
use lib.Dec.{lit≤, eqb}
use borrow.Author.Rules.{rules}
use Rattle.choose_axes.specs.declared.Axis.{Axis}
use Rattle.choose_axes.specs.declared.Axis.TheVariants.{I, Q}
use Rattle.rules_chips.specs.Chips.{full_chip}
use Rattle.choose_axes.specs.Axes.{along, phase_on}
use Rattle.choose_axes.proofs.Axes.{made, unit_fits, unit_made}
use Rattle.choose_axes.proofs.hard_unit.Statement.{statement}
use Rattle.choose_axes.proofs.hard_unit.Tie as tie

few : (x : Axis) → phase_on x ≤ 1
few I = lit≤ tt
few Q = lit≤ tt

sub_result : tie.Need-overflow_sub-result
sub_result c =
    let octet = c.octet_of-x.result in
    unit_fits (eqb octet c.phase_on-plus.result) (eqb octet (c.phase_on-plus.result + 2))

returns : tie.Need-returns
returns c =
    let x = c.args.axis in
    ap (λ (p : ℕ). made c.octet_of-x.result p) c.phase_on-plus.ensures
    ∙ unit_made x c.octet_of-x.result
    ∙ ap (λ (p : ℕ). along x (full_chip 1 p)) c.octet_of-x.ensures

pub hard_unit_spec : {M : Type 1} → statement M
hard_unit_spec =
    tie.close
    (tie.spec
    (λ c κs. search rules) (λ c κs. search rules) (λ c. search rules)
    (λ c. omega (arith, c.phase_on-plus.ensures, few c.args.axis)) (λ c. search rules) sub_result returns)
