use Rattle.std.proofs.Common.{map, ◌∙◌, rules}
use Rattle.choose_sums.proofs.Crossed.{eight_scores}
use Rattle.choose_words.proofs.Numbers.{four_read}
use Rattle.choose_words.proofs.halves.Goals as goal

pub returns : goal.returns
returns g c =
    let w = g.T.Number.whole in
    four_read w c.crossed-m.result c.crossed-n.result _ _ _ _ _ _ _ _ (search rules) (search rules)
    ∙ eight_scores _ _ (map w c.args.i) (map w c.args.q) c.crossed-m.ensures c.crossed-n.ensures
