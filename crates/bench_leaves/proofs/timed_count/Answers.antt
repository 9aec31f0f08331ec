-- `timed_count`: a turn sets one count.
use Prim.Native.Nat.{ℕ}
use mathlib.Core.Path.{◌≡◌, ◌∙◌}
use native.Mathlib.Nat.{ne_of_lt}
use native.Mathlib.Omega.{arith}
use mir.Syntax.{w32}
use mir.Val.{to_z, of_z}
use mir.ValLaws.{to_z-of_z}
use lib.Seq.{get_or-set_same, get_or-set_other}
use lib.ListN.{get_or, set, length-set}
use lib.IntN.{pos}
use lib.Ieee.{nan}
use borrow.Author.Count.{below_more}
use Rattle.rules_chips.specs.Floats.{count_of}
use Rattle.bench_leaves.proofs.timed_count.Goals as goal

pub loop-k-preserved : goal.loop-k-preserved
loop-k-preserved c =
    let counts = c.loop-k.counts in
    let k = c.loop-k.k in
    let xs = c.args.xs.now in
    let v = to_z w32 (of_z w32 c.count_of.result) in
    let e : v ≡ count_of (get_or xs k nan) =
    to_z-of_z w32 c.count_of.result (record { sfits = c.count_of.type_inv }) ∙ c.count_of.ensures.answer in (
      simp length-set c.loop-k.invariant.0,
      below_more (λ (j : ℕ). get_or (set counts k v) j (pos 0) ≡ count_of (get_or xs j nan)) k
          (λ j h. get_or-set_other counts k j v (pos 0) (ne_of_lt h) ∙ c.loop-k.invariant.1 j h)
          (get_or-set_same counts k v (pos 0) (omega arith) ∙ e),
      λ j h. get_or-set_other counts k j v (pos 0) (omega arith) ∙ c.loop-k.invariant.2 j (omega arith),
    )

pub returns : goal.returns
returns c =
    let i = c.loop-k.invariant in
    record { counts = record { as_long = i.0; counted = λ k h l. i.1 k (omega arith); kept = λ k h. i.2 k (omega arith) } }
