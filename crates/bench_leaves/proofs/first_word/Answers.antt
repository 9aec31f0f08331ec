-- `first_word`: a search that found nothing leaves usable chips, and those are decided.
use mathlib.Core.Path.{◌≡◌, ap, ◌∙◌}
use mathlib.Core.List.{List, map}
use Prim.Native.Nat.{ℕ, ◌+◌, ◌*◌, ◌-◌, ◌≤◌}
use native.Mathlib.Omega.{arith}
use borrow.Author.Rules.{rules}
use lib.Dec.{lit<}
use lib.ListN.{length, get_or, take, drop}
use Rattle.rules_rates.specs.declared.Rate.{Rate}
use Rattle.rules_rates.specs.Rates.{symbol_chips}
use Rattle.rules_chips.specs.Chips.{Taken, taken_counts, soft_recording}
use Rattle.rules_symbols.specs.Choice.{decided}
use Rattle.rules_reading.specs.Reading.{first_unusable}
use Rattle.choose_recorded.specs.Recorded.{AllUsable, DecidedAt}
use Rattle.bench_leaves.specs.Leaves.{first_word}
use Rattle.choose_recorded.proofs.Searched.{bad, good, usable}
use Rattle.std.specs.Prelude.{Option, None, Some}
use Rattle.bench_leaves.proofs.first_word.Goals as goal

module _ (r : Rate) (rec : List Taken) (n : ℕ) (f : Option ℕ) (e : n ≡ symbol_chips r)
    (g : f ≡ first_unusable 0 (take (n - 0) (drop 0 rec))) where
  of_symbol : f ≡ first_unusable 0 (take (symbol_chips r - 0) (drop 0 rec))
  of_symbol = g ∙ ap (λ (m : ℕ). first_unusable 0 (take (m - 0) rec)) e

  none : (place : ℕ) → f ≡ Some place → 0 ≡ first_word r rec
  unfolding first_word
  none place h = bad rec (symbol_chips r) f of_symbol _ place h

  clean : f ≡ None → symbol_chips r ≤ length rec → AllUsable rec 0 (symbol_chips r * 1)
  clean h l = let k : symbol_chips r * 1 ≡ symbol_chips r = omega arith in
      rw k (usable rec (symbol_chips r) f of_symbol h l)

  word : f ≡ None → (ns : List ℕ) → DecidedAt r rec 0 1 ns → get_or ns 0 0 ≡ first_word r rec
  unfolding first_word
  word h ns d =
      let k : 0 + symbol_chips r * 0 ≡ 0 = omega arith in
      d.number 0 (lit< tt)
      ∙ ap (λ (m : ℕ). decided r (map taken_counts (take (symbol_chips r) (drop m rec)))) k
      ∙ good rec (symbol_chips r) f of_symbol _ h

pub returns-in-Some : goal.returns-in-Some
returns-in-Some c = record {
  answer = none c.args.r (soft_recording c.args.i.now c.args.q.now) _ _ c.symbol_chips.ensures.answer
      c.first_unusable.ensures.answer _ c.in-Some.is;
}

pub decide-requires : goal.decide-requires
decide-requires c = (
  omega arith,
  omega (arith, c.requires),
  clean c.args.r (soft_recording c.args.i.now c.args.q.now) _ _ c.symbol_chips.ensures.answer
      c.first_unusable.ensures.answer c.in_default.is c.requires,
  search rules,
  search rules,
)

pub returns : goal.returns
returns c = record {
  answer = c.from.ensures ∙ word c.args.r (soft_recording c.args.i.now c.args.q.now) _ _ c.symbol_chips.ensures.answer
      c.first_unusable.ensures.answer c.in_default.is _ c.decide.ensures.numbers;
}
