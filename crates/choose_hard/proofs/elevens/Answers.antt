use Rattle.std.proofs.Common.{◌≡◌, ℕ, ◌+◌, ◌*◌, ◌<◌, List, ap, ◌∙◌, arith}
use Rattle.rules_rates.specs.declared.Rate.TheVariants.{Eleven}
use Rattle.rules_chips.specs.declared.Counts.{Counts}
use Rattle.rules_symbols.specs.Choice.{decided, lead_of}
use Rattle.choose_sums.specs.Sums.{rows, every_row}
use Rattle.choose_recorded.proofs.Firsts.{firsts_sixteen}
use Rattle.choose_recorded.proofs.HardLeads.{units_at, number_hard, lead_hard}
use Rattle.choose_recorded.proofs.Columns.{hard_column_lem}
use Rattle.choose_hard.proofs.elevens.Goals as goal

pub loop-l-preserved : goal.loop-l-preserved
loop-l-preserved c =
    let octets = c.args.octets.now in
    let row = c.columns.new.row in
    let l = c.loop-l.l in
    let n = c.at_most_16-count.result in
    let units : (j : ℕ) → j < 16 → l + j < c.args.m
    → rows (every_row row j 8) (every_row row (16 + j) 8) ≡ units_at Eleven octets c.args.at (l + j) =
    λ j few there. hard_column_lem c.args.at l n j (omega (arith, c.at_most_16-count.ensures)) octets
    c.columns.ensures.row in (
      firsts_sixteen _ _ _ c.loop-l.invariant.0 c.sixteen.ensures.numbers
          (λ j few there. ap (decided Eleven) (units j few there)
          ∙ number_hard Eleven octets c.args.at c.args.m c.requires.1 (l + j) there),
      firsts_sixteen _ _ _ c.loop-l.invariant.1 c.sixteen.ensures.leads
          (λ j few there. ap (λ (cs : List Counts). 1024 * lead_of Eleven cs) (units j few there)
          ∙ lead_hard Eleven octets c.args.at c.args.m c.requires.1 (l + j) there),
      omega (arith, c.loop-l.invariant.2),
      c.columns.ensures.row.long,
      c.sixteen.ensures.lengths.0,
      c.sixteen.ensures.lengths.1,
    )
