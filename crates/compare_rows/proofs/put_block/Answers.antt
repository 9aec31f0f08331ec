-- Where none of the octets differ, as much is left behind them. Assumes nothing.
use Rattle.std.proofs.Common.{arith}
use Rattle.compare_rows.proofs.Left.{put_skip}
use Rattle.compare_rows.proofs.put_block.Goals as goal

pub returns-then-n-eq0 : goal.returns-then-n-eq0
returns-then-n-eq0 c =
    let args = c.args in
    record {
      answer = put_skip args.a.now args.b.now 64 args.at args.row.now args.p args.n (omega arith) (omega arith)
          (omega arith) c.requires.2;
    }
