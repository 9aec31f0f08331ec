-- `hear_blocks::least::least_after` meets its contract: what the quick test passes has no smaller lead. Assumes
-- nothing.
use Rattle.std.proofs.Common.{sym, arith, rules}
use Rattle.rules_reading.proofs.Lowest.{row_kept}
use Rattle.hear_blocks.proofs.least.least_after.Statement.{statement}
use Rattle.hear_blocks.proofs.least.least_after.Tie as tie

returns : tie.Need-returns-then-not-any_lower
returns c =
    sym (row_kept c.args.symbol c.args.least c.args.leads.now c.args.m (omega arith)
    (c.any_lower.ensures (c.if-not-any_lower.true)))

pub least_after_spec : {M : Type 1} → statement M
least_after_spec =
    tie.close
    (tie.spec
    (λ c. search rules) (λ c κs. search rules) returns (λ c κs. search rules) (λ c. search rules))
