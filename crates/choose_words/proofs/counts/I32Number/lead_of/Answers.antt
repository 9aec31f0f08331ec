use Rattle.std.proofs.Common.{◌/◌, ◌*◌, ◌-◌, ◌∙◌}
use Rattle.choose_words.proofs.Floats.{asked, key_back}
use Rattle.choose_words.proofs.counts.I32Number.lead_of.Goals as goal

pub key_of-requires : goal.key_of-requires
key_of-requires c = asked c.requires.2.2

pub key_of-requires-2 : goal.key_of-requires-2
key_of-requires-2 c = asked c.requires.2.3

pub lead_of-requires : goal.lead_of-requires
lead_of-requires c =
    let held = c.requires.2 in (
      c.requires.0,
      c.requires.1,
      rw (c.key_of.ensures ∙ key_back held.2) (rw (c.key_of-2.ensures ∙ key_back held.3) held.4),
    )

pub returns : goal.returns
returns c = λ x y h k.
    let m = 4 * c.args.w in
    c.lead_of.ensures ∙ (λ i. (c.key_of.ensures ∙ key_back h) i / m - (c.key_of-2.ensures ∙ key_back k) i / m)
