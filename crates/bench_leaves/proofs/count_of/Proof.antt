-- `bench_leaves::count_of` meets its contract: what is not usable counts 0.
-- Assumes nothing.
use mathlib.Core.Path.{◌≡◌, sym, ◌∙◌, subst}
use lib.Dec.{T}
use mir.Syntax.{w32}
use mir.Val.{to_z, of_z}
use borrow.Author.Rules.{rules}
use Rattle.rules_chips.specs.Floats.{count_of}
use Rattle.bench_leaves.proofs.count_of.Statement.{statement}
use Rattle.bench_leaves.proofs.count_of.Tie as tie

count_requires : tie.Need-count-requires
count_requires c κs = subst T (sym c.if-usable.true ∙ c.usable.ensures) tt

returns : tie.Need-returns-then-usable
returns c =
    let read : to_z w32 (of_z w32 c.count.result) ≡ c.count.result = search rules in
    read ∙ c.count.ensures

returns_2 : tie.Need-returns-else-usable
unfolding count_of
returns_2 c = rw (sym c.usable.ensures ∙ c.if-usable.false)

pub count_of_spec : {M : Type 1} → statement M
count_of_spec = tie.close (tie.spec
    (λ c κs. search rules) count_requires returns returns_2)
