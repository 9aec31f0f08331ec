use Rattle.std.proofs.Common.{◌*◌, List, map, ap, ◌∙◌, arith}
use Rattle.base.proofs.Tables.{map_tabulate}
use Rattle.rules_rates.specs.declared.Rate.TheVariants.{One}
use Rattle.rules_chips.specs.declared.Chip.{Chip}
use Rattle.rules_chips.specs.Chips.{hard_recording}
use Rattle.choose_axes.specs.Axes.{unit_of}
use Rattle.rules_symbols.specs.Choice.{decided, lead_of}
use Rattle.choose_recorded.proofs.Firsts.{firsts_more, leads_times}
use Rattle.choose_recorded.proofs.HardLeads.{number_hard, lead_hard}
use Rattle.choose_hard.proofs.barkers.Goals as goal

pub loop-l-preserved : goal.loop-l-preserved
loop-l-preserved c =
    let chips = c.symbol.ensures.answer in
    let chosen = c.decide_barker-c.ensures.answer in (
      firsts_more _ _ _ (omega (arith, c.requires.0))
          (chosen.0 ∙ ap (λ (x : List Chip). decided One (map unit_of x)) chips
          ∙ number_hard One c.args.octets.now c.args.at c.args.m c.requires.1 c.loop-l.l c.loop-l-test.true)
          c.loop-l.invariant.0,
      firsts_more _ _ _ (omega (arith, c.requires.0))
          (chosen.1 ∙ ap (λ (x : List Chip). lead_of One (map unit_of x)) chips) c.loop-l.invariant.1,
    )

pub returns-clause-leads : goal.returns-clause-leads
returns-clause-leads c =
    leads_times One (hard_recording c.args.octets.now) c.args.at 1024 c.loop-l.invariant.1 c.loop-l-test.false
    c.requires.0
    (c.in_counts.ensures.leads ∙ map_tabulate (λ x. 1024 * x) c.loop-l.full 64 0 c.loop-l.invariant.1.long) (lead_hard One c.args.octets.now c.args.at c.args.m c.requires.1)
