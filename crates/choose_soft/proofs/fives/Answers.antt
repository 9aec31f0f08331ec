use Rattle.std.proofs.Common.{◌≡◌, ◌+◌, ◌*◌, map, ap, ◌∙◌, arith}
use Rattle.rules_rates.specs.declared.Rate.TheVariants.{Five}
use Rattle.rules_chips.specs.Chips.{counts_of, soft_recording}
use Rattle.rules_symbols.specs.Choice.{decided, lead_of}
use Rattle.choose_recorded.specs.Recorded.{symbol_at}
use Rattle.choose_recorded.proofs.Search.{usable_part}
use Rattle.choose_recorded.proofs.Gathered.{gathered_soft, usable_soft}
use Rattle.choose_recorded.proofs.Firsts.{firsts_more}
use Rattle.choose_soft.proofs.fives.Goals as goal

pub decide_five-c-requires : goal.decide_five-c-requires
decide_five-c-requires c =
    let l = c.loop-l.l in
    let h = c.loop-l-test.true in
    rw c.symbol.ensures.answer
    (usable_soft 8 c.args.i.now c.args.q.now (c.args.at + 8 * l)
    (omega (arith, c.requires.1), omega (arith, c.requires.2))
    (usable_part (8 * l) 8 c.requires.3 (omega arith)))

pub loop-l-preserved : goal.loop-l-preserved
loop-l-preserved c =
    let l = c.loop-l.l in
    let h = c.loop-l-test.true in
    let chosen = c.decide_five-c.ensures.answer in
    let symbol : map counts_of c.symbol.result ≡ symbol_at Five (soft_recording c.args.i.now c.args.q.now) (c.args.at + 8 * l) =
    ap (map counts_of) c.symbol.ensures.answer
    ∙ gathered_soft 8 c.args.i.now c.args.q.now (c.args.at + 8 * l)
    (omega (arith, c.requires.1), omega (arith, c.requires.2)) in (
      firsts_more _ _ _ (omega (arith, c.requires.0)) (chosen.0 ∙ ap (decided Five) symbol) c.loop-l.invariant.0,
      firsts_more _ _ _ (omega (arith, c.requires.0)) (chosen.1 ∙ ap (lead_of Five) symbol) c.loop-l.invariant.1,
    )
