-- `compare::compare`: what two reads leave in their buffers is what is compared.
use mathlib.Core.Path.{ap, ◌∙◌}
use lib.ListN.{length}
use Rattle.rules_compare.specs.Differences.{laid}
use Rattle.rules_compare.proofs.Octets.{lengths_are, lengths_fit, list_is, answer_is}
use Rattle.small_calls.proofs.compare.compare.Goals as goal

pub list_payloads-octets_differ-requires : goal.list_payloads-octets_differ-requires
list_payloads-octets_differ-requires c =
    let a = c.read_hard-read_a.ensures in
    let b = c.read_hard-read_b.ensures in
    let lengths = lengths_are _ _ _ _ _ _ _ _ _ a.answer b.answer c.if_both-n_a.ensures.answer c.if_both-n_b.ensures.answer in
    lengths_fit _ _ _ _ _ _ _ _ _ lengths.0 lengths.1 a.octets b.octets

pub returns-clause-answer : goal.returns-clause-answer
returns-clause-answer c =
    let a = c.read_hard-read_a.ensures in
    let b = c.read_hard-read_b.ensures in
    let lengths = lengths_are _ _ _ _ _ _ _ _ _ a.answer b.answer c.if_both-n_a.ensures.answer c.if_both-n_b.ensures.answer in
    answer_is _ _ _ _ _ _ _ _ _ _ _ a.answer b.answer lengths.0 lengths.1 c.list-chips_differ.ensures.answer
    (c.list_payloads-octets_differ.ensures.answer
    ∙ ap length (list_is _ _ _ _ _ _ _ _ _ lengths.0 lengths.1 a.octets b.octets))

pub returns-clause-octets : goal.returns-clause-octets
returns-clause-octets c =
    let a = c.read_hard-read_a.ensures in
    let b = c.read_hard-read_b.ensures in
    let lengths = lengths_are _ _ _ _ _ _ _ _ _ a.answer b.answer c.if_both-n_a.ensures.answer c.if_both-n_b.ensures.answer in
    c.list_payloads-octets_differ.ensures.row
    ∙ ap (laid (length c.args.octets.now)) (list_is _ _ _ _ _ _ _ _ _ lengths.0 lengths.1 a.octets b.octets)
