-- `choose_bytes::wide` meets its contract: every byte is a number of the wider width, from -128 to 127.
-- Assumes nothing.
use mathlib.Core.Path.{◌≡◌, ◌∙◌, subst⁻¹}
use native.Mathlib.Omega.{arith}
use mir.Syntax.{w8, w16}
use mir.Val.{SFits, to_z, of_z}
use mir.ValLaws.{to_z-of_z}
use Rattle.base.specs.Whole.{Within}
use Rattle.base.proofs.Whole.{byte_within}
use Rattle.choose_bytes.proofs.wide.Statement.{statement}
use Rattle.choose_bytes.proofs.wide.Tie as tie

-- the byte as it is read back
read : (c : tie.Start) → to_z w8 (of_z w8 c.args.b) ≡ c.args.b
read c = to_z-of_z w8 c.args.b (record { sfits = c.well_formed.0 })

cast_result : tie.Need-overflow_cast-result
cast_result c = subst⁻¹ (SFits w16) (read c) (record { sfits = omega (arith, c.well_formed.0) })

returns : tie.Need-returns
returns c =
    let e = to_z-of_z w16 _ (cast_result c) ∙ read c in (e, subst⁻¹ (Within 128) e (byte_within c.args.b c.well_formed.0))

pub wide_spec : {M : Type 1} → statement M
wide_spec = tie.close (tie.spec
    cast_result returns)
