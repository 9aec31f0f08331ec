-- `choose_axes::sample_of` meets its contract: of the three only a soft chip is asked.
-- Assumes nothing.
use mathlib.Core.Path.{subst}
use lib.Dec.{T}
use borrow.Author.Rules.{rules}
use Rattle.rules_chips.specs.declared.Chip.{Chip}
use Rattle.choose_axes.specs.Axes.{soft_usable}
use Rattle.choose_axes.proofs.sample_of.Statement.{statement}
use Rattle.choose_axes.proofs.sample_of.Tie as tie

returns : tie.Need-returns-in-Lost
returns c =
    absurd (subst (λ (d : Chip). T (soft_usable d)) c.in-Lost.is c.requires)

returns_2 : tie.Need-returns-in-Hard
returns_2 c =
    absurd (subst (λ (d : Chip). T (soft_usable d)) c.in-Hard.is c.requires)

pub sample_of_spec : {M : Type 1} → statement M
sample_of_spec = tie.close (tie.spec
    (λ c. search rules) (λ c. search rules) (λ c. search rules) returns returns_2 (λ c. search rules))
