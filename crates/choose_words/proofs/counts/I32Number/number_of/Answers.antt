use Rattle.std.proofs.Common.{ℕ, ◌-◌, ◌*◌, ◌%◌, ap, ◌∙◌}
use Rattle.choose_words.proofs.Floats.{asked, key_back}
use Rattle.choose_words.proofs.counts.I32Number.number_of.Goals as goal

pub key_of-requires : goal.key_of-requires
key_of-requires c = asked c.requires.2.1

pub returns : goal.returns
returns c = λ x h.
    let w = c.args.w in
    c.number_of.ensures ∙ ap (λ (n : ℕ). 4 * w - 1 - n % (4 * w)) (c.key_of.ensures ∙ key_back h)
