-- `common_header::crc_read` meets its contract: the last 16 bits of a header are its last two octets'. Assumes nothing.
use mathlib.Core.Path.{◌≡◌, sym, ap, ◌∙◌}
use lib.ListN.{length}
use borrow.Author.Rules.{rules}
use Rattle.rules_bits.specs.Bits.{highest_first}
use Rattle.rules_calls.proofs.Fields.{last_two}
use Rattle.common_header.proofs.crc_read.Statement.{statement}
use Rattle.common_header.proofs.crc_read.Tie as tie

six : (c : tie.Start) → length c.args.header ≡ 6
six c = search rules

returns : tie.Need-returns
returns c = c.highest_first.ensures ∙ sym (ap highest_first (last_two _ (six c.before)))

pub crc_read_spec : {M : Type 1} → statement M
crc_read_spec = tie.close (tie.spec
    (λ c. search rules) (λ c. search rules) (λ c κs. search rules) returns)
