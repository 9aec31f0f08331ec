use Rattle.std.proofs.Common.{ap, ◌∙◌, rules}
use Rattle.rules_choosing.specs.Scores.{number5}
use Rattle.choose_sums.proofs.Eight.{eight_by, eight_within}
use Rattle.choose_words.proofs.five.Goals as goal

pub two_largest-top-requires : goal.two_largest-top-requires
two_largest-top-requires g c = (search rules, eight_within _ _ _ _ c.halves.ensures c.requires.0 c.requires.1)

pub returns : goal.returns
returns g c =
    let top = c.two_largest-top.ensures in
    let chosen = eight_by _ _ c.halves.ensures top.two in (
      c.allowed_number.ensures ∙ ap number5 (c.number_of.ensures _ top.is_x) ∙ chosen.0,
      c.lead_of.ensures _ _ top.is_x top.is_y ∙ chosen.1,
    )
