-- `Recording::usable_at`: each recorder's own test meets the contract, and every byte is usable.
use mathlib.Core.Path.{refl}
use Prim.Native.Nat.{suc}
use Rattle.rules_chips.proofs.Bytes.{bytes_usable}
use Rattle.choose_recorders.proofs.Rows.{room_hard, room_soft, room_bytes}
use Rattle.choose_recorders.proofs.Recording.usable_at.Goals as goal

pub usable_at-requires : goal.usable_at-requires
usable_at-requires c = room_hard _ (suc c.args.at) (rw c.in-Hard.is at c.requires)

pub usable_at-requires-in-Soft : goal.usable_at-requires-in-Soft
usable_at-requires-in-Soft c = room_soft _ _ (suc c.args.at) (rw c.in-Soft.is at c.requires)

pub returns-in-Bytes : goal.returns-in-Bytes
returns-in-Bytes c =
    let room = room_bytes _ (suc c.args.at) (rw c.in-Bytes.is at c.requires) in
    record { answer = rw (c.in-Bytes.is, bytes_usable _ c.args.at room) refl }
