-- `Recording::first_unusable`: the first chip that is not usable ends the search, and past one that is it goes on.
use mathlib.Core.Path.{sym, ◌∙◌}
use native.Mathlib.Omega.{arith}
use borrow.Author.Tests.{not-true, not-false}
use Rattle.rules_chips.specs.Chips.{unusable}
use Rattle.choose_recorders.specs.Rows.{taken_of}
use Rattle.choose_recorded.proofs.Search.{search_on, search_here, search_over}
use Rattle.choose_recorders.proofs.Recording.first_unusable.Goals as goal

pub returns-then-not-usable_at : goal.returns-then-not-usable_at
returns-then-not-usable_at c = record {
  answer = sym
      (c.loop-at.invariant
      ∙ search_here (taken_of c.args.self) c.loop-at.at c.args.to unusable c.loop-at-test.true c.requires
      (not-false _ (sym c.usable_at.ensures.answer ∙ c.if-not-usable_at.true)));
}

pub loop-at-preserved : goal.loop-at-preserved
loop-at-preserved c =
    c.loop-at.invariant
    ∙ search_on (taken_of c.args.self) c.loop-at.at c.args.to unusable c.loop-at-test.true c.requires
    (not-true _ (sym c.usable_at.ensures.answer ∙ c.if-not-usable_at.false))

pub returns : goal.returns
returns c = record { answer = sym (c.loop-at.invariant ∙ search_over _ c.loop-at.at _ (omega (arith, c.loop-at-test.false))) }
