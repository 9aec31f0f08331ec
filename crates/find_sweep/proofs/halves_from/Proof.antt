-- `find_sweep::halves_from` meets its contract: eleven chips decide by their sides as they do by their counts. Assumes
-- nothing.
use Prim.Native.Nat.{◌+◌}
use native.Mathlib.Omega.{arith}
use borrow.Author.Rules.{rules}
use Rattle.find_sweep.proofs.Rows.{added_as}
use Rattle.find_sweep.proofs.Halves.{half_there, sides_most}
use Rattle.find_sweep.proofs.halves_from.Statement.{statement}
use Rattle.find_sweep.proofs.halves_from.Tie as tie

fill_requires : tie.Need-fill-requires
fill_requires c κs =
    let made = c.sides.ensures in
    let most = sides_most c.args.octets.now c.args.at (c.args.count + 16) made.0 made.1 in (
      c.requires.0,
      c.requires.1,
      made.0.long,
      made.1.long,
      c.requires.3,
      λ j h. most _ made.0 j (omega arith),
      λ j h. most _ made.1 j (omega arith),
    )

returns : tie.Need-returns
returns c =
    let made = c.sides.ensures in
    added_as
    (λ j h. half_there c.args.octets.now c.args.at (c.args.count + 16) made.0 made.1 j (omega arith)
    (omega (arith, c.requires.2)))
    c.fill.ensures

pub halves_from_spec : {M : Type 1} → statement M
halves_from_spec =
    tie.close (tie.spec
    (λ c. search rules) (λ c κs. search rules) fill_requires returns)
