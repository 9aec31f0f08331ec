-- `Recording::elevens`: each recorder's own loop meets the contract.
use Prim.Native.Nat.{◌+◌, ◌*◌}
use Rattle.choose_recorders.proofs.Rows.{room_hard, room_soft, room_bytes}
use Rattle.choose_recorders.proofs.Recording.elevens.Goals as goal

pub elevens-requires : goal.elevens-requires
elevens-requires c =
    let r = rw c.in-Hard.is at c.requires in
    (r.0, room_hard _ (c.args.at + 8 * c.args.m) r.1, r.3, r.4)

pub elevens-requires-in-Soft : goal.elevens-requires-in-Soft
elevens-requires-in-Soft c =
    let r = rw c.in-Soft.is at c.requires in
    let room = room_soft _ _ (c.args.at + 8 * c.args.m) r.1 in
    (r.0, room.0, room.1, r.2, r.3, r.4)

pub elevens-requires-in-Bytes : goal.elevens-requires-in-Bytes
elevens-requires-in-Bytes c =
    let r = rw c.in-Bytes.is at c.requires in
    (r.0, room_bytes _ (c.args.at + 8 * c.args.m) r.1, r.3, r.4)
