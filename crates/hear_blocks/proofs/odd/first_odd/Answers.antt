-- `odd::first_odd`: where the loop ends early the growth is the first odd one; at its end there is none.
use Rattle.std.proofs.Common.{◌≡◌, ℕ, ◌%◌, sym, arith, below_more}
use Rattle.rules_reading.proofs.FirstOdd.{row_none, row_first}
use Rattle.hear_blocks.proofs.odd.first_odd.Goals as goal

even : (x : ℕ) → (x % 2 ≡ 1 → ⊥) → x % 2 ≡ 0
even x n = omega arith

pub returns-then-g-l-eq1 : goal.returns-then-g-l-eq1
returns-then-g-l-eq1 c = record {
  answer = sym
      (row_first c.args.place c.args.g c.args.m (omega arith) c.loop-l.l (omega arith) c.loop-l.invariant
      c.if-g-l-eq1.true);
}

pub loop-l-preserved : goal.loop-l-preserved
loop-l-preserved c = below_more _ _ c.loop-l.invariant (even _ c.if-g-l-eq1.false)

pub returns : goal.returns
returns c = record {
  answer = sym (row_none c.args.place c.args.g c.args.m (omega arith) (λ j h. c.loop-l.invariant j (omega arith)));
}
