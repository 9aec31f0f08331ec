use Rattle.std.proofs.Common.{◌≡◌, ℕ, ◌+◌, ◌*◌, ◌<◌, ◌≤◌, List, length, pos, sym, ap, ◌∙◌, subst, arith, rules}
use Rattle.choose_axes.specs.declared.Axis.TheVariants.{I, Q}
use Rattle.std.specs.Prelude.{Float}
use Rattle.rules_chips.specs.declared.Chip.{Chip}
use Rattle.rules_chips.specs.Chips.{soft_recording}
use Rattle.choose_axes.specs.Axes.{counts_along, AllSoft}
use Rattle.rules_choosing.specs.Scores.{RowWithin}
use Rattle.choose_sums.proofs.Apart.{counts_small}
use Rattle.choose_recorded.specs.Recorded.{soft_part, AllUsable}
use Rattle.choose_recorded.proofs.Search.{usable_part}
use Rattle.choose_recorded.proofs.Gathered.{usable_soft}
use Rattle.choose_recorded.proofs.Columns.{columns_none, columns_more, column_within}
use Rattle.choose_soft.proofs.columns.Goals as goal

pub loop-l-init : goal.loop-l-init
loop-l-init c = (columns_none _ _ _ c.requires.4, c.requires.5)

-- the chips of symbol l are usable
usable : (i q : List Float) {at count l : ℕ} {chips : List Chip} → chips ≡ soft_part i q (at + 8 * l) 8 → l < count
    → at + 8 * count ≤ length i → at + 8 * count ≤ length q → AllUsable (soft_recording i q) at (8 * count)
    → AllSoft 8 chips
usable i q {at} {count} {l} e h in_i in_q all =
    rw e
    (usable_soft 8 i q (at + 8 * l) (omega arith, omega arith) (usable_part (8 * l) 8 all (omega arith)))

pub soft_counts-requires : goal.soft_counts-requires
soft_counts-requires c =
    let r = c.requires in
    (omega arith, (omega arith, usable c.args.i.now c.args.q.now c.symbol-chips.ensures.answer c.loop-l-test.true r.1 r.2 r.3))

pub soft_counts-requires-in-loop-l : goal.soft_counts-requires-in-loop-l
soft_counts-requires-in-loop-l c =
    let r = c.requires in
    (omega arith, (omega arith, usable c.args.i.now c.args.q.now c.symbol-chips.ensures.answer c.loop-l-test.true r.1 r.2 r.3))

pub loop-l-preserved : goal.loop-l-preserved
loop-l-preserved c =
    let chips = c.symbol-chips.ensures.answer in
    let i = c.soft_counts.ensures.answer in
    let q = c.soft_counts-in-loop-l.ensures.answer in
    let long_i : length c.soft_counts.result ≡ 8 = search rules in
    let long_q : length c.soft_counts-in-loop-l.result ≡ 8 = search rules in (
      columns_more c.loop-l.invariant.0 (omega (arith, c.requires.0)) (c.put_column.ensures.row (pos 0)) long_i long_q
          (i ∙ ap (counts_along I) chips) (q ∙ ap (counts_along Q) chips),
      column_within c.loop-l.invariant.0.long (c.put_column.ensures.row (pos 0))
          (subst (RowWithin 8192) (sym i) (counts_small I c.symbol-chips.result))
          (subst (RowWithin 8192) (sym q) (counts_small Q c.symbol-chips.result)) c.loop-l.invariant.1,
    )
