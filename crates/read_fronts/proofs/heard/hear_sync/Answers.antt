-- `heard::hear_sync`: the first block and the rest are heard one after the other on one line.
use mathlib.Core.Path.{refl, ◌∙◌}
use native.Mathlib.Omega.{arith}
use Rattle.rules_rates.specs.declared.Rate.TheVariants.{One}
use Rattle.choose_recorders.specs.Rows.{taken_of}
use Rattle.hear_parts.proofs.Parts.{block_are_words}
use Rattle.read_fronts.proofs.Preambles.{sync_heard, rest_lent, decided_small}
use Rattle.read_fronts.proofs.heard.hear_sync.Goals as goal

pub hear-first-requires : goal.hear-first-requires
hear-first-requires c =
    let d = c.decide.ensures.numbers in (
      omega arith,
      omega (arith, c.requires.2),
      omega arith,
      rw c.first_line-line.ensures.answer.at_phase (decided_small _ _ d _ (omega arith)),
      d.long,
      block_are_words One 8 8 refl (taken_of c.args.rec) 0 _ d (omega arith),
    )

pub returns : goal.returns
returns c =
    let a = c.args in
    let count = c.preamble_octets-count.ensures.answer in
    let d = c.decide.ensures in
    let j = c.joined.ensures in
    let h = sync_heard a.kind (taken_of a.rec) _ _ _ _ _ _ _ _ _ _ _ _ d.numbers d.leads c.least_of-least.ensures.answer
    c.first_line-line.ensures.answer c.hear-first.ensures.answer c.hear-first.ensures.out
    (rest_lent a.kind c.hear-first.new.out _ (c.hear-first.auto.out ∙ c.requires.2) count) count
    c.hear_octets-rest.ensures.answer (j.line, (j.odd, j.least)) in
    record { answer = h.0; least = h.1.0; octets = h.1.1 }
