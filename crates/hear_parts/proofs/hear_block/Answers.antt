-- `hear_block`: the numbers decided are the words of the octets, and the leads theirs.
use mathlib.Core.Path.{ap, subst, ◌∙◌}
use mathlib.Core.List.{List}
use Prim.Native.Nat.{ℕ}
use native.Mathlib.Omega.{arith}
use Rattle.base.specs.Over.{over}
use Rattle.rules_reading.specs.Leads.{least_from}
use Rattle.choose_recorders.specs.Rows.{taken_of}
use Rattle.hear_blocks.specs.Heard.{plain_octets, Heard}
use Rattle.hear_parts.proofs.Parts.{block_words, block_are_words, block_leads}
use Rattle.hear_parts.proofs.hear_block.Goals as goal

pub hear-heard-requires : goal.hear-heard-requires
hear-heard-requires c =
    let a = c.args in
    let d = c.decide.ensures.numbers in (
      c.requires.0,
      c.requires.1,
      omega (arith, c.requires.2, c.is_countable.ensures.few),
      c.requires.4,
      d.long,
      block_are_words a.rate _ a.count c.octet_symbols-symbols.ensures.answer (taken_of a.rec) a.place _ d c.requires.0,
    )

pub returns-clause-answer : goal.returns-clause-answer
returns-clause-answer c =
    let a = c.args in
    subst (λ (ws : List ℕ). Heard a.rate a.symbol a.place a.line ws c.hear-heard.result)
    (block_words a.rate _ a.count c.octet_symbols-symbols.ensures.answer (taken_of a.rec) a.place _ c.decide.ensures.numbers
    c.requires.0)
    c.hear-heard.ensures.answer

pub returns-clause-least : goal.returns-clause-least
returns-clause-least c =
    let a = c.args in
    c.least_after-least.ensures.answer
    ∙ ap (least_from a.symbol a.least)
    (block_leads a.rate _ a.count c.octet_symbols-symbols.ensures.answer (taken_of a.rec) a.place _ c.decide.ensures.leads
    c.requires.0)

pub returns-clause-out : goal.returns-clause-out
returns-clause-out c =
    let a = c.args in
    c.hear-heard.ensures.out
    ∙ ap (λ (ws : List ℕ). over (plain_octets a.rate a.symbol a.count a.line ws) a.out.now)
    (block_words a.rate _ a.count c.octet_symbols-symbols.ensures.answer (taken_of a.rec) a.place _ c.decide.ensures.numbers
    c.requires.0)
