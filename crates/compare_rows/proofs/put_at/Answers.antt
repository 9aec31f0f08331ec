-- Nothing is put where the octets are alike, else three numbers. Assumes nothing.
use Rattle.std.proofs.Common.{◌≡◌, get_or, arith, rules}
use lib.ListN.{length-set}
use Rattle.compare_rows.proofs.Left.{put_same, put_room, put_entry}
use Rattle.compare_rows.proofs.put_at.Goals as goal

pub returns-then-x-y : goal.returns-then-x-y
returns-then-x-y c =
    let args = c.args in
    record {
      answer = put_same args.a.now args.b.now args.i args.row.now args.p (omega arith) (omega arith) (omega arith);
    }

pub bounds-row-p : goal.bounds-row-p
bounds-row-p c =
    let args = c.args in
    let room =
    put_room args.a.now args.b.now args.i args.row.now args.p (omega arith) (omega arith) (λ e. omega arith)
    (omega arith) in
    omega (arith, room)

pub bounds-row-p-2 : goal.bounds-row-p-2
bounds-row-p-2 c =
    let args = c.args in
    let room =
    put_room args.a.now args.b.now args.i args.row.now args.p (omega arith) (omega arith) (λ e. omega arith)
    (omega arith) in
    simp length-set (omega (arith, room))

pub bounds-row-p-3 : goal.bounds-row-p-3
bounds-row-p-3 c =
    let args = c.args in
    simp length-set
    (put_room args.a.now args.b.now args.i args.row.now args.p (omega arith) (omega arith) (λ e. omega arith)
    (omega arith))

pub returns : goal.returns
returns c =
    let args = c.args in
    let x : c.from.result ≡ get_or args.a.now args.i 0 = search rules in
    let y : c.from-2.result ≡ get_or args.b.now args.i 0 = search rules in
    record {
      answer = rw (x, y)
          (put_entry args.a.now args.b.now args.i args.row.now args.p (omega arith) (omega arith) (λ e. omega arith)
          (omega arith));
    }
