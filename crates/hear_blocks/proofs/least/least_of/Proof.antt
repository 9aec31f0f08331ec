-- `hear_blocks::least::least_of` meets its contract: it starts from the first lead. Assumes nothing.
use Rattle.std.proofs.Common.{◌∙◌, rules}
use Rattle.rules_reading.proofs.Lowest.{row_least}
use Rattle.hear_blocks.proofs.least.least_of.Statement.{statement}
use Rattle.hear_blocks.proofs.least.least_of.Tie as tie

returns : tie.Need-returns
returns c =
    c.least_after.ensures
    ∙ row_least c.args.leads.now c.args.m _ c.requires.0 c.wide-lead.ensures

pub least_of_spec : {M : Type 1} → statement M
least_of_spec =
    tie.close
    (tie.spec
    (λ c. search rules) (λ c κs. search rules) (λ c κs. search rules) returns)
