-- The sum fits, and what the larger leaves of it is the smaller.
use Rattle.std.proofs.Common.{◌≡◌, refl, ◌∙◌, to_z, of_z, w32, ◌+ℤ◌, ◌-ℤ◌, rules}
use lib.Dec.{lit<}
use Rattle.rules_choosing.specs.Keys.{smaller}
use Rattle.base.proofs.Adding.{Reads, made_fits, made, reads_of, reads_fits, reads_add}
use Rattle.choose_walsh.proofs.Machine.{reads_smaller, left_over}
use Rattle.choose_stages.proofs.wide.I32Lane.lower.Goals.{Start}
use Rattle.choose_stages.proofs.wide.I32Lane.lower.Goals as goal

module _ (c : Start) where
  a : Reads w32 1073741823 (of_z w32 c.args.self) c.args.self
  a = reads_of (lit< tt) c.requires.0

  b : Reads w32 1073741823 (of_z w32 c.args.other) c.args.other
  b = reads_of (lit< tt) c.requires.1

  least : Reads w32 1073741823 (of_z w32 (smaller (to_z w32 (of_z w32 c.args.self)) (to_z w32 (of_z w32 c.args.other))))
      (smaller c.args.self c.args.other)
  least = reads_smaller (lit< tt) a b refl

  left : to_z w32 (of_z w32 (to_z w32 (of_z w32 c.args.self) +ℤ to_z w32 (of_z w32 c.args.other)))
      -ℤ to_z w32 (of_z w32 c.args.top)
      ≡ smaller c.args.self c.args.other
  left =
      let top : to_z w32 (of_z w32 c.args.top) ≡ c.args.top = search rules in
      (λ i. (reads_add a b (lit< tt)).is i -ℤ (top ∙ c.requires.2) i) ∙ left_over c.args.self c.args.other

pub overflow_add-result : goal.overflow_add-result
overflow_add-result c = reads_fits (a c) (b c) (lit< tt)

pub overflow_sub-result : goal.overflow_sub-result
overflow_sub-result c = made_fits (left c) (least c).within (lit< tt)

pub returns : goal.returns
returns c = record { answer = (made {w = w32} (left c) (least c).within (lit< tt)).is }
