-- `common_words::barker_word` meets its contract: after k chips the first k are the table's, turned by p.
-- Assumes nothing.
use mathlib.Core.Path.{refl, ◌∙◌}
use Prim.Native.Nat.{◌-◌}
use native.Mathlib.Omega.{arith}
use borrow.Author.Rules.{rules}
use Rattle.base.specs.Tables.{Filled}
use Rattle.base.proofs.Tables.{filled_none, filled_more, filled_all}
use Rattle.rules_symbols.proofs.Words.{barker_turns, turned_at, turn_mod, barker_filled, barker_turns_phases}
use Rattle.common_words.proofs.barker_word.Statement.{statement}
use Rattle.common_words.proofs.barker_word.Tie as tie

abbrev invariant_loop : tie.invariant-loop-k
invariant_loop p word₀ k₀ word k = Filled (turned_at p barker_turns) 11 word k

abbrev decreases_loop : tie.decreases-loop-k
decreases_loop p word₀ k₀ word k = 11 - k

loop_holds : tie.Need-loop-k-init invariant_loop decreases_loop
loop_holds c = filled_none _ 11 _ refl

loop_again : tie.Need-loop-k-preserved invariant_loop decreases_loop
loop_again c = filled_more _ c.loop-k.invariant c.loop-k-test.true (turn_mod _ _)

add_word : tie.Need-overflow_add-word invariant_loop decreases_loop
add_word c = omega (arith, barker_turns_phases.at c.loop-k.k)

returns : tie.Need-returns invariant_loop decreases_loop
returns c = filled_all c.loop-k.invariant c.loop-k-test.false ∙ barker_filled _

pub barker_word_spec : {M : Type 1} → statement M
barker_word_spec =
    tie.close
    (tie.spec
    invariant_loop decreases_loop loop_holds (λ c. search rules) add_word (λ c. search rules) (λ c. search rules)
    (λ c. search rules) loop_again returns)
