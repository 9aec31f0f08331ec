-- `common_header::octets_of` meets its contract: the four octets are the fields, lowest bit first, and the CRC's two
-- stand after them. Assumes nothing.
use mathlib.Core.Path.{refl, ◌∙◌}
use borrow.Author.Rules.{rules}
use Rattle.rules_calls.proofs.Fields.{with_crc, header_is}
use Rattle.common_header.proofs.octets_of.Statement.{statement}
use Rattle.common_header.proofs.octets_of.Tie as tie

returns : tie.Need-returns
returns c = (
  with_crc _ _ _ _ c.crc_octets-crc.result c.crc_octets-crc.ensures.1 c.crc_octets-crc.ensures.0
      ∙ header_is _ _ _,
  refl,
)

pub octets_of_spec : {M : Type 1} → statement M
octets_of_spec =
    tie.close (tie.spec
    (λ c. search rules) (λ c. search rules) (λ c κs. search rules) (λ c. search rules) (λ c. search rules) returns)
