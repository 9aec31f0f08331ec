-- One octet more differs or is alike. Assumes nothing.
use Rattle.std.proofs.Common.{◌+◌, arith}
use Rattle.compare_rows.proofs.Left.{between_same, between_other}
use Rattle.compare_rows.proofs.in_part.Goals as goal
use Rattle.compare_rows.proofs.in_part.Goals.{then-a-i, else-a-i}

pub loop-i-preserved : goal.loop-i-preserved
loop-i-preserved c =
    let a = c.args.a.now in
    let b = c.args.b.now in
    let i = c.loop-i.i in
    elim c.if-a-i.branch [
      | then-a-i w ↦ (
        omega arith,
        between_other a b c.args.from i (i + 1) _ c.loop-i.n (omega arith) (omega arith)
            w.if-a-i.true (omega arith) w.n-is c.loop-i.invariant.1,
      )
      | else-a-i w ↦ (
        omega arith,
        between_same a b c.args.from i (i + 1) _ c.loop-i.n (omega arith) (omega arith)
            w.if-a-i.false (omega arith) w.n-is c.loop-i.invariant.1,
      )
    ]
