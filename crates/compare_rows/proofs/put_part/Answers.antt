-- Room for the part is room for its next index. Assumes nothing.
use Rattle.std.proofs.Common.{arith}
use Rattle.compare_rows.proofs.Left.{put_room_so_far, next_room}
use Rattle.compare_rows.proofs.put_part.Goals as goal

pub put_at-q-requires : goal.put_at-q-requires
put_at-q-requires c =
    let args = c.args in
    let loop = c.loop-i in
    let so_far =
    put_room_so_far args.a.now args.b.now args.from loop.i args.to args.row.now loop.row args.p loop.q c.requires.3
    loop.invariant c.requires.1 c.requires.2 (omega arith) in
    let next =
    next_room args.a.now args.b.now args.from loop.i args.to args.row.now loop.row args.p loop.q c.requires.3
    loop.invariant c.requires.1 c.requires.2 (omega arith) in
    (omega arith, omega arith, so_far, next)
