use Rattle.std.proofs.Common.{◌≡◌, map, ap, ◌∙◌, arith}
use Rattle.rules_rates.specs.declared.Rate.TheVariants.{One}
use Rattle.rules_symbols.specs.Choice.{decided, lead_of}
use Rattle.choose_sums.specs.Sums.{by_signs, as_chip}
use Rattle.choose_bytes.specs.Rows.{barker_at}
use Rattle.choose_recorded.proofs.Sixteen.{put_none, put_more}
use Rattle.choose_words.proofs.Numbers.{whole_row}
use Rattle.choose_bytes.proofs.sixteen_barkers.Goals as goal

pub loop-s-init : goal.loop-s-init
loop-s-init c = (put_none _ c.requires.2, put_none _ c.requires.3)

pub loop-s-preserved : goal.loop-s-preserved
loop-s-preserved c =
    let i = whole_row c.symbol.ensures.answer in
    let q = whole_row c.symbol-in-loop-s.ensures.answer in
    let symbol : as_chip (by_signs (map (λ z. z) c.symbol.result)) (by_signs (map (λ z. z) c.symbol-in-loop-s.result)) ≡ barker_at c.args.row.now c.loop-s.s =
    λ k. as_chip (by_signs (i k)) (by_signs (q k)) in
    let chosen = c.barker-c.ensures in (
      put_more _ (omega (arith, c.requires.1)) (chosen.0 ∙ ap (decided One) symbol) c.loop-s.invariant.0,
      put_more _ (omega (arith, c.requires.1)) (chosen.1 ∙ ap (lead_of One) symbol) c.loop-s.invariant.1,
    )
