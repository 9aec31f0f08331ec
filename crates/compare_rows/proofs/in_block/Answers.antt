-- One octet more differs or is alike. Assumes nothing.
use Rattle.std.proofs.Common.{◌+◌, arith}
use Rattle.compare_rows.proofs.Left.{between_same, between_other}
use Rattle.compare_rows.proofs.in_block.Goals as goal
use Rattle.compare_rows.proofs.in_block.Goals.{then-a-at, else-a-at}

pub loop-k-preserved : goal.loop-k-preserved
loop-k-preserved c =
    let a = c.args.a.now in
    let b = c.args.b.now in
    let at = c.args.at in
    let k = c.loop-k.k in
    elim c.if-a-at.branch [
      | then-a-at w ↦ (
        omega arith,
        between_other a b at (at + k) (at + (k + 1)) _ c.loop-k.n (omega arith) (omega arith)
            w.if-a-at.true (omega arith) w.n-is c.loop-k.invariant.1,
      )
      | else-a-at w ↦ (
        omega arith,
        between_same a b at (at + k) (at + (k + 1)) _ c.loop-k.n (omega arith) (omega arith)
            w.if-a-at.false (omega arith) w.n-is c.loop-k.invariant.1,
      )
    ]
