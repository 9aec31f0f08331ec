use Rattle.std.proofs.Common.{◌≡◌, ◌+◌, ◌*◌, map, ap, ◌∙◌, arith}
use Rattle.rules_rates.specs.declared.Rate.TheVariants.{One}
use Rattle.rules_chips.specs.Chips.{counts_of, soft_recording}
use Rattle.rules_symbols.specs.Choice.{decided, lead_of}
use Rattle.choose_recorded.specs.Recorded.{symbol_at}
use Rattle.choose_recorded.proofs.Search.{usable_part}
use Rattle.choose_recorded.proofs.Gathered.{gathered_soft, usable_soft}
use Rattle.choose_recorded.proofs.Firsts.{firsts_more}
use Rattle.choose_soft.proofs.barkers.Goals as goal

pub decide_barker-c-requires : goal.decide_barker-c-requires
decide_barker-c-requires c =
    let l = c.loop-l.l in
    let h = c.loop-l-test.true in
    rw c.symbol.ensures.answer
    (usable_soft 11 c.args.i.now c.args.q.now (c.args.at + 11 * l)
    (omega (arith, c.requires.1), omega (arith, c.requires.2))
    (usable_part (11 * l) 11 c.requires.3 (omega arith)))

pub loop-l-preserved : goal.loop-l-preserved
loop-l-preserved c =
    let l = c.loop-l.l in
    let h = c.loop-l-test.true in
    let chosen = c.decide_barker-c.ensures.answer in
    let symbol : map counts_of c.symbol.result ≡ symbol_at One (soft_recording c.args.i.now c.args.q.now) (c.args.at + 11 * l) =
    ap (map counts_of) c.symbol.ensures.answer
    ∙ gathered_soft 11 c.args.i.now c.args.q.now (c.args.at + 11 * l)
    (omega (arith, c.requires.1), omega (arith, c.requires.2)) in (
      firsts_more _ _ _ (omega (arith, c.requires.0)) (chosen.0 ∙ ap (decided One) symbol) c.loop-l.invariant.0,
      firsts_more _ _ _ (omega (arith, c.requires.0)) (chosen.1 ∙ ap (lead_of One) symbol) c.loop-l.invariant.1,
    )
