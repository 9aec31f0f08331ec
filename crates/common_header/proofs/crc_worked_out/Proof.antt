-- `common_header::crc_worked_out` meets its contract: the CRC of a header's first four octets, whose bits are its first
-- 32. Assumes nothing.
use mathlib.Core.Path.{◌≡◌, sym, ap, ◌∙◌}
use lib.ListN.{length}
use borrow.Author.Rules.{rules}
use Rattle.rules_bits.specs.Bits.{highest_first, octet_bits}
use Rattle.rules_bits.specs.Crc.{crc_bits}
use Rattle.rules_calls.proofs.Fields.{two_is, first_four}
use Rattle.common_header.proofs.crc_worked_out.Statement.{statement}
use Rattle.common_header.proofs.crc_worked_out.Tie as tie

six : (c : tie.Start) → length c.args.header ≡ 6
six c = search rules

returns : tie.Need-returns
returns c =
    let crc = c.crc_octets-crc in
    c.highest_first.ensures
    ∙ ap highest_first
    (sym (ap octet_bits (two_is crc.result crc.ensures.1))
    ∙ crc.ensures.0
    ∙ sym (ap crc_bits (first_four _ (six c.before.before))))

pub crc_worked_out_spec : {M : Type 1} → statement M
crc_worked_out_spec =
    tie.close
    (tie.spec
    (λ c. search rules) (λ c. search rules) (λ c. search rules) (λ c. search rules) (λ c κs. search rules)
    (λ c. search rules) (λ c. search rules) (λ c κs. search rules) returns)
