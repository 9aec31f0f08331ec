-- `Recording::fives`: each recorder's own loop meets the contract.
use Prim.Native.Nat.{◌+◌, ◌*◌}
use Rattle.choose_recorders.proofs.Rows.{room_hard, room_soft, room_bytes}
use Rattle.choose_recorders.proofs.Recording.fives.Goals as goal

pub fives-requires : goal.fives-requires
fives-requires c =
    let r = rw c.in-Hard.is at c.requires in
    (r.0, room_hard _ (c.args.at + 8 * c.args.m) r.1, r.3, r.4)

pub fives-requires-in-Soft : goal.fives-requires-in-Soft
fives-requires-in-Soft c =
    let r = rw c.in-Soft.is at c.requires in
    let room = room_soft _ _ (c.args.at + 8 * c.args.m) r.1 in
    (r.0, room.0, room.1, r.2, r.3, r.4)

pub fives-requires-in-Bytes : goal.fives-requires-in-Bytes
fives-requires-in-Bytes c =
    let r = rw c.in-Bytes.is at c.requires in
    (r.0, room_bytes _ (c.args.at + 8 * c.args.m) r.1, r.3, r.4)
