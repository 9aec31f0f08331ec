-- `Recording::clean`: each recorder's own test meets the contract, and every byte is usable.
use Prim.Native.Nat.{◌+◌}
use native.Mathlib.Omega.{arith}
use Rattle.rules_chips.proofs.Bytes.{bytes_usable}
use Rattle.choose_recorders.proofs.Rows.{room_hard, room_soft, room_bytes}
use Rattle.choose_recorders.proofs.Recording.clean.Goals as goal

pub clean-requires : goal.clean-requires
clean-requires c = room_hard _ (c.args.at + 64) (rw c.in-Hard.is at c.requires)

pub clean-requires-in-Soft : goal.clean-requires-in-Soft
clean-requires-in-Soft c = room_soft _ _ (c.args.at + 64) (rw c.in-Soft.is at c.requires)

pub returns-in-Bytes : goal.returns-in-Bytes
returns-in-Bytes c =
    let room = room_bytes _ (c.args.at + 64) (rw c.in-Bytes.is at c.requires) in
    record { answer = λ yes. rw c.in-Bytes.is (record { each = λ k h. bytes_usable _ (c.args.at + k) (omega (arith, room)) }) }
