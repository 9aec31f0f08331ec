use Rattle.std.proofs.Common.{◌≡◌, ℕ, ◌+◌, ◌*◌, ◌<◌, refl, ap, ◌∙◌, arith, rules}
use Rattle.base.proofs.Tables.{map_tabulate}
use Rattle.rules_rates.specs.declared.Rate.TheVariants.{One}
use Rattle.rules_chips.specs.Chips.{byte_recording}
use Rattle.rules_symbols.specs.Choice.{decided, lead_of}
use Rattle.choose_recorded.proofs.Firsts.{firsts_none, firsts_sixteen, leads_times}
use Rattle.choose_bytes.specs.Rows.{barker_at, barker_bytes}
use Rattle.choose_bytes.proofs.Units.{barker_units}
use Rattle.choose_bytes.proofs.Groups.{barker_group}
use Rattle.choose_bytes.proofs.barkers.Goals as goal

pub loop-l-init : goal.loop-l-init
loop-l-init c = (firsts_none _ _ _ c.requires.2, firsts_none _ _ _ (search rules), refl, refl, refl)

pub take_in-requires : goal.take_in-requires
take_in-requires c =
    let few = c.at_most_16-count.ensures.answer in
    (omega (arith, few, c.requires.1), omega (arith, few, c.loop-l.invariant.3))

pub sixteen_barkers-requires : goal.sixteen_barkers-requires
sixteen_barkers-requires c =
    let h = c.loop-l-test.true in (
      search rules,
      omega (arith, c.loop-l.invariant.2, c.requires.0),
      c.loop-l.invariant.0.long,
      c.loop-l.invariant.1.long,
    )

pub loop-l-preserved : goal.loop-l-preserved
loop-l-preserved c =
    let l = c.loop-l.l in
    let h = c.loop-l-test.true in
    let row = c.turn.new.row in
    let group : (j : ℕ) → j < 16 → l + j < c.args.m
    → barker_at row j ≡ barker_bytes c.args.bytes.now (c.args.at + 11 * (l + j)) =
    λ j few there. barker_group c.args.bytes.now c.take_in.new.row row c.args.at l
    c.at_most_16-count.result j c.turn.ensures.row few (omega (arith, c.at_most_16-count.ensures.answer))
    (search rules) c.take_in.ensures.row in (
      firsts_sixteen _ _ _ c.loop-l.invariant.0 c.sixteen_barkers.ensures.numbers
          (λ j few there. ap (decided One) (group j few there)
          ∙ (barker_units c.args.bytes.now (c.args.at + 11 * (l + j)) (omega (arith, c.requires.1))).0),
      firsts_sixteen _ _ _ c.loop-l.invariant.1 c.sixteen_barkers.ensures.raw
          (λ j few there. ap (lead_of One) (group j few there)),
      omega (arith, c.loop-l.invariant.2),
      search rules,
      search rules,
    )

pub returns-clause-leads : goal.returns-clause-leads
returns-clause-leads c =
    leads_times One (byte_recording c.args.bytes.now) c.args.at 16 c.loop-l.invariant.1 c.loop-l-test.false c.requires.0
    (c.in_counts.ensures.leads ∙ map_tabulate (λ x. 16 * x) c.loop-l.raw 64 0 c.loop-l.invariant.1.long)
    (λ j b. (barker_units c.args.bytes.now (c.args.at + 11 * j) (omega (arith, c.requires.1))).1)
