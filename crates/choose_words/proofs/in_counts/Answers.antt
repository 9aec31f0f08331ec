use Rattle.std.proofs.Common.{map, sym, ◌∙◌, arith}
use Rattle.std.proofs.lemmas.List.{get_or-map, length-map}
use Rattle.base.proofs.Tables.{filled_none, filled_more, filled_all, as_table}
use Rattle.choose_words.proofs.in_counts.Goals as goal

pub loop-l-init : goal.loop-l-init
loop-l-init g c = filled_none _ 64 _ c.told-leads

pub loop-l-preserved : goal.loop-l-preserved
loop-l-preserved g c =
    let h = c.loop-l-test.true in
    filled_more _ c.loop-l.invariant h
    (c.in_counts.ensures
    ∙ sym (get_or-map g.L.Told.counts c.args.told.now c.loop-l.l _ 0 (omega (arith, c.told-told))))

pub returns : goal.returns
returns g c =
    let counts = g.L.Told.counts in
    let told = c.args.told.now in
    record {
      leads = filled_all c.loop-l.invariant c.loop-l-test.false
          ∙ sym (as_table (map counts told) 64 0 (length-map told counts ∙ c.told-told));
    }
