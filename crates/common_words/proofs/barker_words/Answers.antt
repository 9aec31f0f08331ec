-- The words of four phases.
use Rattle.std.proofs.Common.{rules, refl}
use Rattle.base.specs.Tables.{tabulate}
use Rattle.rules_symbols.specs.Words.{barker_word}
use Rattle.base.proofs.Arrays.{mapped}
use Rattle.common_words.proofs.barker_words.Goals as goal

pub returns : goal.returns
unfolding tabulate
returns c = record {
  answer = mapped _ barker_word 0 _ _ _ 4 (λ p q x y k. search rules) refl c.map.ensures.items;
}
