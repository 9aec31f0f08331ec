-- `common_header::crc_right` meets its contract: octets with the same bits are the same, so two rows of bits are
-- compared by their octets. Assumes nothing.
use mathlib.Core.Path.{◌≡◌, ap, ap₂, ◌∙◌}
use mathlib.Core.List.{List, [], ◌∷◌}
use Prim.Native.Nat.{ℕ}
use lib.ListN.{length, get_or}
use mir.Syntax.{w8}
use mir.Val.{Fits}
use borrow.Author.Rules.{rules}
use Rattle.base.specs.Below.{Below}
use Rattle.rules_calls.proofs.Fields.{two_is, crc_other, crc_same}
use Rattle.common_header.proofs.crc_right.Statement.{statement}
use Rattle.common_header.proofs.crc_right.Tie as tie

-- the arrays are as long as their types say, of octets
six : (c : tie.Start) → length c.args.header ≡ 6
six c = search rules

fits : (c : tie.Start) (i : ℕ) → Fits w8 (get_or c.args.header i 0)
fits c i = search rules

octets : (c : tie.Start) → Below 256 c.args.header
octets c = record { at = λ i. (fits c i).fits }

crc_fits : (c : tie.After-crc_octets-crc) (i : ℕ) → Fits w8 (get_or c.crc_octets-crc.result i 0)
crc_fits c i = search rules

crcs : (c : tie.After-crc_octets-crc) → Below 256 c.crc_octets-crc.result
crcs c = record { at = λ i. (crc_fits c i).fits }

returns : tie.Need-returns-then-crc-header
returns c =
    crc_other _ (six c.before.before) (octets c.before.before) c.crc_octets-crc.result
    c.crc_octets-crc.ensures.1 (crcs c.before) c.crc_octets-crc.ensures.0
    (λ e. c.if-crc-header.true (ap (λ (l : List ℕ). get_or l 0 0) e))

returns_2 : tie.Need-returns-then-crc-header-2
returns_2 c =
    crc_other _ (six c.before.before.before) (octets c.before.before.before) c.crc_octets-crc.result
    c.crc_octets-crc.ensures.1 (crcs c.before.before) c.crc_octets-crc.ensures.0
    (λ e. c.if-crc-header-2.true (ap (λ (l : List ℕ). get_or l 1 0) e))

returns_3 : tie.Need-returns
returns_3 c =
    crc_same _ (six c.before.before.before) c.crc_octets-crc.result c.crc_octets-crc.ensures.0
    (two_is c.crc_octets-crc.result c.crc_octets-crc.ensures.1
    ∙ ap₂ {C = List ℕ} (λ x y. x ∷ y ∷ []) c.if-crc-header.false c.if-crc-header-2.false)

pub crc_right_spec : {M : Type 1} → statement M
crc_right_spec =
    tie.close
    (tie.spec
    (λ c. search rules) (λ c. search rules) (λ c. search rules) (λ c. search rules) (λ c κs. search rules)
    (λ c. search rules) (λ c. search rules) returns (λ c. search rules) (λ c. search rules) returns_2 returns_3)
