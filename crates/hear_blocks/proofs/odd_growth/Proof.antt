-- `hear_blocks::odd_growth` meets its contract: the rows of phases and growths by their rules, and the first odd one of
-- them. No octet is heard, so the line that they are on has any past. Assumes nothing.
use Rattle.std.proofs.Common.{◌∙◌, rules}
use Rattle.rules_rates.specs.declared.Rate.TheVariants.{One}
use Rattle.common_lines.specs.declared.Line.{Line}
use Rattle.hear_blocks.proofs.Hears.{phases_low, block_odd}
use Rattle.hear_blocks.proofs.odd_growth.Statement.{statement}
use Rattle.hear_blocks.proofs.odd_growth.Tie as tie

growths_requires : tie.Need-growths-g-requires
growths_requires c κs =
    phases_low One c.args.before c.args.numbers c.requires.2 _ c.phases-ps.ensures

returns : tie.Need-returns
returns c =
    let line : Line = record { past = 0; phase = c.args.before } in
    c.odd_in.ensures
    ∙ block_odd One 0 line c.args.m c.args.numbers _ _ c.requires.0 c.requires.3 c.requires.4
    c.phases-ps.ensures c.growths-g.ensures c.args.place

pub odd_growth_spec : {M : Type 1} → statement M
odd_growth_spec =
    tie.close (tie.spec
    (λ c κs. search rules) growths_requires (λ c κs. search rules) returns)
