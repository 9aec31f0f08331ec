use Rattle.std.proofs.Common.{◌≡◌, ℕ, ◌+◌, ◌*◌, ◌<◌, List, ap, ◌∙◌, arith, rules}
use Rattle.rules_rates.specs.declared.Rate.TheVariants.{Eleven}
use Rattle.rules_chips.specs.declared.Counts.{Counts}
use Rattle.rules_symbols.specs.Choice.{decided, lead_of}
use Rattle.choose_recorded.proofs.Firsts.{firsts_sixteen}
use Rattle.choose_bytes.specs.Rows.{five_at, five_bytes}
use Rattle.choose_bytes.proofs.Units.{eight_units}
use Rattle.choose_bytes.proofs.Groups.{five_group}
use Rattle.choose_bytes.proofs.elevens.Goals as goal

pub loop-l-preserved : goal.loop-l-preserved
loop-l-preserved c =
    let l = c.loop-l.l in
    let h = c.loop-l-test.true in
    let row = c.turn.new.row in
    let group : (j : ℕ) → j < 16 → l + j < c.args.m
    → five_at row j ≡ five_bytes c.args.bytes.now (c.args.at + 8 * (l + j)) =
    λ j few there. five_group c.args.bytes.now c.take_in.new.row row c.args.at l
    c.at_most_16-count.result j c.turn.ensures.row few (omega (arith, c.at_most_16-count.ensures))
    (search rules) c.take_in.ensures.row in (
      firsts_sixteen _ _ _ c.loop-l.invariant.0 c.sixteen.ensures.numbers
          (λ j few there. ap (decided Eleven) (group j few there)
          ∙ (eight_units Eleven c.args.bytes.now (c.args.at + 8 * (l + j)) (omega (arith, c.requires.1))).0),
      firsts_sixteen _ _ _ c.loop-l.invariant.1 c.sixteen.ensures.leads
          (λ j few there. ap (λ (cs : List Counts). 16 * lead_of Eleven cs) (group j few there)
          ∙ (eight_units Eleven c.args.bytes.now (c.args.at + 8 * (l + j)) (omega (arith, c.requires.1))).1),
      omega (arith, c.loop-l.invariant.2),
      search rules,
      search rules,
      c.sixteen.ensures.lengths.0,
      c.sixteen.ensures.lengths.1,
    )
