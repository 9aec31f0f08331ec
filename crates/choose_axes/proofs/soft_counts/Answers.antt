use Rattle.std.proofs.Common.{sym, ◌∙◌, rules}
use Rattle.std.proofs.lemmas.List.{length-replicate}
use Rattle.base.proofs.Tables.{filled_none, filled_more, filled_all, map_tabulate}
use Rattle.rules_chips.specs.declared.Chip.TheVariants.{Lost}
use Rattle.rules_chips.specs.Chips.{counts_of}
use Rattle.choose_axes.specs.Axes.{along}
use Rattle.choose_axes.proofs.soft_counts.Goals as goal

pub loop-k-init : goal.loop-k-init
loop-k-init g c = filled_none _ g.row.N _ (length-replicate g.row.N _)

pub loop-k-preserved : goal.loop-k-preserved
loop-k-preserved g c = filled_more _ c.loop-k.invariant c.loop-k-test.true (search rules)

pub returns : goal.returns
returns g c =
    record {
      answer = filled_all c.loop-k.invariant c.loop-k-test.false
          ∙ sym (map_tabulate (λ d. along c.args.axis (counts_of d)) c.args.chips g.row.N Lost (search rules));
    }
