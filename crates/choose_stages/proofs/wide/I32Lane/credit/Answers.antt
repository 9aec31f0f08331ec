-- The complement and its sign add up to it.
use Rattle.std.proofs.Common.{◌≡◌, refl, ap, ◌∙◌, to_z, of_z, w32, ◌+ℤ◌, rules}
use lib.Dec.{lit<}
use Rattle.base.proofs.Adding.{Reads, made_fits, made, reads_of}
use Rattle.choose_walsh.specs.Turns.{credit}
use Rattle.choose_walsh.proofs.Machine.{reads_credit, credit_by}
use Rattle.choose_stages.proofs.wide.I32Lane.credit.Goals.{After-sign}
use Rattle.choose_stages.proofs.wide.I32Lane.credit.Goals as goal

module _ (c : After-sign) where
  u : Reads w32 524304 (of_z w32 c.args.self) c.args.self
  u = reads_of (lit< tt) c.requires

  small : Reads w32 524306 (of_z w32 (credit (to_z w32 (of_z w32 c.args.self)))) (credit c.args.self)
  small = reads_credit (lit< tt) u refl

  ones : to_z w32 (of_z w32 c.ones.result) ≡ c.ones.result
  ones = search rules

  sign : to_z w32 (of_z w32 c.sign.result) ≡ c.sign.result
  sign = search rules

  sum : to_z w32 (of_z w32 c.ones.result) +ℤ to_z w32 (of_z w32 c.sign.result) ≡ credit c.args.self
  sum =
      (λ i. (ones ∙ c.ones.ensures.answer) i +ℤ (sign ∙ c.sign.ensures.answer) i)
      ∙ credit_by (to_z w32 (of_z w32 c.args.self)) ∙ ap credit u.is

pub overflow_add-result : goal.overflow_add-result
overflow_add-result c = made_fits (sum c) (small c).within (lit< tt)

pub returns : goal.returns
returns c = record { answer = (made {w = w32} (sum c) (small c).within (lit< tt)).is }
