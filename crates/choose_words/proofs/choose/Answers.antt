use Rattle.std.proofs.Common.{◌∙◌}
use Rattle.choose_sums.proofs.Four.{sum_key, phase_by}
use Rattle.choose_sums.proofs.KeyTops.{two_of_lem}
use Rattle.choose_words.proofs.choose.Goals as goal

pub returns : goal.returns
returns g c =
    let w = g.T.Number.whole in
    let top = c.two_keys-top.ensures in
    let chosen = phase_by (w c.args.i) (w c.args.q) (two_of_lem (sum_key (w c.args.i) (w c.args.q)) 0) in
    (c.number_of.ensures _ top.first ∙ chosen.0, c.lead_of.ensures _ _ top.first top.second ∙ chosen.1)
