use Rattle.std.proofs.Common.{◌≡◌, ℕ, ◌+◌, ◌*◌, ◌≤◌, ◌<◌, ap, refl, ◌∙◌, arith}
use native.Mathlib.Nat.{one-mul}
use Rattle.rules_rates.specs.declared.Rate.TheVariants.{Eleven}
use Rattle.rules_chips.specs.Chips.{soft_recording}
use Rattle.rules_symbols.specs.Choice.{decided, lead_of}
use Rattle.choose_sums.specs.Sums.{rows, every_row}
use Rattle.choose_recorded.specs.Recorded.{symbol_at}
use Rattle.choose_recorded.proofs.Search.{usable_part}
use Rattle.choose_recorded.proofs.Firsts.{firsts_none, firsts_sixteen}
use Rattle.choose_recorded.proofs.Columns.{zeros_within, soft_column_lem}
use Rattle.choose_soft.proofs.elevens.Goals as goal

pub loop-l-init : goal.loop-l-init
loop-l-init c = (
  firsts_none _ _ _ c.requires.4,
  firsts_none _ _ _ c.requires.5,
  refl,
  refl,
  refl,
  refl,
  zeros_within 8192 256,
)

pub columns-requires : goal.columns-requires
columns-requires c =
    let l = c.loop-l.l in
    let n = c.at_most_16-count.result in
    let h = c.loop-l-test.true in
    let few : l + n ≤ c.args.m = omega (arith, c.at_most_16-count.ensures) in (
      omega (arith, c.at_most_16-count.ensures),
      omega (arith, c.requires.1),
      omega (arith, c.requires.2),
      usable_part (8 * l) (8 * n) c.requires.3 (omega arith),
      c.loop-l.invariant.3,
      c.loop-l.invariant.6,
    )

pub loop-l-preserved : goal.loop-l-preserved
loop-l-preserved c =
    let i = c.args.i.now in
    let q = c.args.q.now in
    let row = c.columns.new.row in
    let l = c.loop-l.l in
    let n = c.at_most_16-count.result in
    let h = c.loop-l-test.true in
    let few : l + n ≤ c.args.m = omega (arith, c.at_most_16-count.ensures) in
    let column : (j : ℕ) → j < 16 → l + j < c.args.m
    → rows (every_row row j 8) (every_row row (16 + j) 8)
    ≡ symbol_at Eleven (soft_recording i q) (c.args.at + 8 * (l + j)) =
    λ j small there. soft_column_lem c.args.at l n j (omega (arith, c.at_most_16-count.ensures)) i q
    c.columns.ensures.row (omega (arith, c.requires.1)) (omega (arith, c.requires.2)) in (
      firsts_sixteen _ _ _ c.loop-l.invariant.0 c.sixteen.ensures.numbers
          (λ j small there. ap (decided Eleven) (column j small there)),
      firsts_sixteen _ _ _ c.loop-l.invariant.1 c.sixteen.ensures.leads
          (λ j small there. one-mul _ ∙ ap (lead_of Eleven) (column j small there)),
      omega (arith, c.loop-l.invariant.2),
      c.columns.ensures.row.long,
      c.sixteen.ensures.lengths.0,
      c.sixteen.ensures.lengths.1,
      c.columns.ensures.small,
    )
