use Rattle.std.proofs.Common.{◌≡◌, ℤ, ◌+◌, ◌-◌, ◌*◌, ◌%◌, ◌<◌, pos, negsuc, nat_abs, refl, ap, ◌∙◌, to_z-of_z, arith}
use Rattle.choose_walsh.specs.Search.{group_of}
use Rattle.choose_stages.proofs.wide.I32Lane.word.Goals as goal

natural : (z : ℤ) → group_of z < 16 → nat_abs z ≡ group_of z
natural (pos n) h = refl
natural (negsuc n) h = absurd (omega (arith, h))

pub returns : goal.returns
returns c =
    let group = ap nat_abs (to_z-of_z c.ranges.group) ∙ natural c.args.group c.requires.1 in
    record {
      answer = λ i. 16 * (15 - (nat_abs (to_z-of_z c.ranges.self i) % 16 + 11) % 16) + group i;
    }
