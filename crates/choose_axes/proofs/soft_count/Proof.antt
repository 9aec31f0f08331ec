-- `choose_axes::soft_count` meets its contract: each arm counts its field.
-- Assumes nothing.
use mathlib.Core.Path.{◌≡◌, sym, ap, ◌∙◌}
use borrow.Author.Rules.{rules}
use mir.Syntax.{w32}
use mir.Val.{to_z, of_z}
use Rattle.rules_chips.specs.declared.Counts.{Counts}
use Rattle.choose_axes.proofs.Axes.{usable_i, usable_q, soft_counts}
use Rattle.choose_axes.proofs.soft_count.Statement.{statement}
use Rattle.choose_axes.proofs.soft_count.Tie as tie

count_requires : tie.Need-count-requires
count_requires c κs = usable_i c.sample_of-s.ensures c.requires

count_requires_2 : tie.Need-count-requires-in-Q
count_requires_2 c κs = usable_q c.sample_of-s.ensures c.requires

returns : tie.Need-returns-in-I
returns c =
    let read : to_z w32 (of_z w32 c.count.result) ≡ c.count.result = search rules in
    rw c.in-I.is
    (read ∙ c.count.ensures
    ∙ sym (ap (λ (k : Counts). k.i) (soft_counts c.sample_of-s.ensures c.requires)))

returns_2 : tie.Need-returns-in-Q
returns_2 c =
    let read : to_z w32 (of_z w32 c.count-in-Q.result) ≡ c.count-in-Q.result = search rules in
    rw c.in-Q.is
    (read ∙ c.count-in-Q.ensures
    ∙ sym (ap (λ (k : Counts). k.q) (soft_counts c.sample_of-s.ensures c.requires)))

pub soft_count_spec : {M : Type 1} → statement M
soft_count_spec =
    tie.close
    (tie.spec
    (λ c κs. search rules) (λ c. search rules) count_requires (λ c. search rules) count_requires_2 returns returns_2)
