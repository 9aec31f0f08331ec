-- `odd::block`: the numbers decided are the words of the octets.
use mathlib.Core.Path.{ap, ◌∙◌}
use mathlib.Core.List.{List}
use Prim.Native.Nat.{ℕ}
use native.Mathlib.Omega.{arith}
use Rattle.rules_rates.specs.declared.Rate.TheVariants.{One}
use Rattle.rules_bits.specs.Growths.{growths_of}
use Rattle.rules_reading.specs.Reading.{first_odd}
use Rattle.small_calls.proofs.Blocks.{row_is, row_words, block_last, block_small}
use Rattle.small_calls.proofs.odd.block.Goals as goal

pub odd_growth-requires : goal.odd_growth-requires
odd_growth-requires c =
    let r = c.requires in
    let d = c.decide.ensures.numbers in (
      omega (arith, r.1),
      omega (arith, r.2, c.well_formed.0.0),
      r.3,
      d.long,
      row_words _ c.args.place c.args.count _ d r.0 r.1,
    )

pub returns : goal.returns
returns c =
    let a = c.args in
    let r = c.requires in
    let d = c.decide.ensures.numbers in
    record {
      answer = record {
        odd = c.odd_growth.ensures.answer
            ∙ ap (λ (ws : List ℕ). first_odd a.place (growths_of One a.before ws)) (row_is _ a.place a.count _ d r.0 r.1);
        last = block_last _ a.place a.count _ d r.0 r.1 a.before;
        small = block_small _ a.place a.count _ d r.0 r.1;
      };
    }
