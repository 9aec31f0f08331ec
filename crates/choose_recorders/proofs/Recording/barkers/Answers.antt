-- `Recording::barkers`: each recorder's own loop meets the contract.
use Prim.Native.Nat.{◌+◌, ◌*◌}
use Rattle.choose_recorders.proofs.Rows.{room_hard, room_soft, room_bytes}
use Rattle.choose_recorders.proofs.Recording.barkers.Goals as goal

pub barkers-requires : goal.barkers-requires
barkers-requires c =
    let r = rw c.in-Hard.is at c.requires in
    (r.0, room_hard _ (c.args.at + 11 * c.args.m) r.1, r.3, r.4)

pub barkers-requires-in-Soft : goal.barkers-requires-in-Soft
barkers-requires-in-Soft c =
    let r = rw c.in-Soft.is at c.requires in
    let room = room_soft _ _ (c.args.at + 11 * c.args.m) r.1 in
    (r.0, room.0, room.1, r.2, r.3, r.4)

pub barkers-requires-in-Bytes : goal.barkers-requires-in-Bytes
barkers-requires-in-Bytes c =
    let r = rw c.in-Bytes.is at c.requires in
    (r.0, room_bytes _ (c.args.at + 11 * c.args.m) r.1, r.3, r.4)
