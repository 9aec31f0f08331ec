-- Calls of a receiver one after the other.
--     runs_long, runs_receive    the buffer keeps its length, and the receiver is that of all chips fed
--     runs_buffer                the buffer holds every octet whose chips have all been fed, or zeros
--     runs_answer                each feed answers 0
--     runs_feed_other, runs_close_other     a buffer of another length is refused with 20, and nothing changes
--     runs_close                 close answers and leaves the reading of all batches joined
--     runs_shut                  and it was taken
--     shut_feed, shut_close      a receiver that is not open refuses with 20, and nothing changes
--     number_taken               a close that answers another number than 20 was taken
-- Assumes nothing.
use mathlib.Core.Path.{◌≡◌, refl, sym, ap, subst, ◌∙◌}
use mathlib.Core.Bool.{Bool, true, false}
use mathlib.Core.List.{List, [], ◌++◌}
use Prim.Native.Nat.{ℕ, zero, suc}
use lib.ListN.{length, replicate}
use Rattle.rules_chips.specs.Chips.{hard_recording}
use Rattle.rules_calls.specs.declared.Record.{Record}
use Rattle.rules_receiving.specs.declared.Receiver.{Receiver}
use Rattle.rules_receiving.specs.Yet.{zeros, buffer_yet}
use Rattle.rules_receiving.specs.Receivers.{Receives}
use Rattle.rules_receiving.specs.Calls.{takes, opened, ReceiverFeeds, ReceiverCloses, not_open, shut, ReadsAll}
use Rattle.rules_receiving.specs.Histories.{
  Runs,
  opens,
  feeds,
  feeds_other,
  closes_other,
  Shut,
  never_opened,
  closes,
  feeds_shut,
  closes_shut,
}
use Rattle.rules_receiving.proofs.Takes.{takes_room, shut_takes}
use Rattle.rules_receiving.proofs.Calls.{open_receives, receives_takes, close_shuts}

replicate_length : (n : ℕ) → length (replicate {A = ℕ} n 0) ≡ n
replicate_length zero = refl
replicate_length (suc n) = ap suc (replicate_length n)

-- ---- a buffer of another length

other_takes : (kind room : ℕ) (fed : List ℕ) (s : Receiver) (buf : List ℕ) (n : ℕ) → Receives kind room fed s buf
    → (n ≡ room → ⊥) → takes s.progress n ≡ false
other_takes kind room fed s buf n x h = by (takes s.progress n) refl
  where
    by : (b : Bool) → takes s.progress n ≡ b → b ≡ false
    by false e = refl
    by true e = absurd (h (sym (takes_room s.progress n e) ∙ x.room_is))

-- ---- opened and fed

pub runs_long : {kind room : ℕ} {fed : List ℕ} {s : Receiver} {buf : List ℕ} → Runs kind room fed s buf
    → length buf ≡ room
runs_long (opens {buf} e x) = ap length x.buffer_is ∙ replicate_length (length buf) ∙ e
runs_long (feeds r x) = x.long ∙ runs_long r
runs_long (feeds_other r h x) = runs_long r
runs_long (closes_other r h x) = runs_long r

pub runs_receive : {kind room : ℕ} {fed : List ℕ} {s : Receiver} {buf : List ℕ} → Runs kind room fed s buf
    → Receives kind room fed s buf
runs_receive {kind} {room} (opens {buf} {u} {a} {out} e x) =
    subst (λ (o : List ℕ). Receives kind room [] u o) (sym (x.buffer_is ∙ ap zeros e))
    (subst (λ (v : Receiver). Receives kind room [] v (zeros room)) (sym (x.receiver_is ∙ ap (opened kind) e))
    (open_receives kind room))
runs_receive {kind} {room} (feeds {fed} {batch} {s} {u} {buf} {out} r x) =
    let l = runs_long r in
    subst (λ (n : ℕ). Receives kind n (fed ++ batch) u out) l
    (x.receives kind fed (subst (λ (n : ℕ). Receives kind n fed s buf) (sym l) (runs_receive r)))
runs_receive {kind} {room} (feeds_other {fed} {batch} {s} {u} {buf} {other} r h x) =
    let y = runs_receive r in
    subst (λ (v : Receiver). Receives kind room fed v buf)
    (sym (x.refused (other_takes kind room fed s buf (length other) y h)).1) y
runs_receive {kind} {room} (closes_other {fed} {s} {u} {buf} {other} r h x) =
    let y = runs_receive r in
    subst (λ (v : Receiver). Receives kind room fed v buf)
    (sym (x.refused (other_takes kind room fed s buf (length other) y h)).1) y

pub runs_buffer : {kind room : ℕ} {fed : List ℕ} {s : Receiver} {buf : List ℕ} → Runs kind room fed s buf
    → buf ≡ buffer_yet kind (hard_recording fed) room
runs_buffer r = (runs_receive r).buffer

module _ {kind room : ℕ} {fed : List ℕ} {s : Receiver} {buf : List ℕ} (r : Runs kind room fed s buf) where
  taken : takes s.progress (length buf) ≡ true
  taken = ap (takes s.progress) (runs_long r) ∙ receives_takes kind room fed s buf (runs_receive r)

  pub runs_answer : {batch : List ℕ} {u : Receiver} {out : List ℕ} {a : ℕ} → ReceiverFeeds s buf batch u a out → a ≡ 0
  runs_answer x = x.taken taken

  pub runs_feed_other : {other batch : List ℕ} {u : Receiver} {out : List ℕ} {a : ℕ} → (length other ≡ room → ⊥)
      → ReceiverFeeds s other batch u a out → (a ≡ 20) × (u ≡ s) × (out ≡ other)
  runs_feed_other {other} h x = x.refused (other_takes kind room fed s buf (length other) (runs_receive r) h)

  pub runs_close_other : {other : List ℕ} {u : Receiver} {out : List ℕ} {a : Record} → (length other ≡ room → ⊥)
      → ReceiverCloses s other u a out → (a ≡ not_open) × (u ≡ s) × (out ≡ other)
  runs_close_other {other} h x = x.refused (other_takes kind room fed s buf (length other) (runs_receive r) h)

  pub runs_close : {u : Receiver} {out : List ℕ} {a : Record} → ReceiverCloses s buf u a out → ReadsAll kind room fed a out
  runs_close {u} {out} {a} x =
      let l = runs_long r in
      subst (λ (n : ℕ). ReadsAll kind n fed a out) l
      (x.reads kind fed (subst (λ (n : ℕ). Receives kind n fed s buf) (sym l) (runs_receive r)))

  pub runs_shut : {u : Receiver} {out : List ℕ} {a : Record} → ReceiverCloses s buf u a out → (u ≡ shut s) × Shut u
  runs_shut x = (x.taken taken, closes r x)

-- ---- not open

shut_refuses : {s : Receiver} → Shut s → (room : ℕ) → takes s.progress room ≡ false
shut_refuses {s} never_opened room = shut_takes s.progress room refl
shut_refuses (closes r x) room = close_shuts room x (taken r)
shut_refuses (feeds_shut {s} {u} {buf} h x) room =
    ap (λ (v : Receiver). takes v.progress room) (x.refused (shut_refuses h (length buf))).1 ∙ shut_refuses h room
shut_refuses (closes_shut {s} {u} {buf} h x) room =
    ap (λ (v : Receiver). takes v.progress room) (x.refused (shut_refuses h (length buf))).1 ∙ shut_refuses h room

pub shut_feed : {s u : Receiver} {buf batch out : List ℕ} {a : ℕ} → Shut s → ReceiverFeeds s buf batch u a out
    → (a ≡ 20) × (u ≡ s) × (out ≡ buf)
shut_feed {s} {u} {buf} h x = x.refused (shut_refuses h (length buf))

pub shut_close : {s u : Receiver} {buf out : List ℕ} {a : Record} → Shut s → ReceiverCloses s buf u a out
    → (a ≡ not_open) × (u ≡ s) × (out ≡ buf)
shut_close {s} {u} {buf} h x = x.refused (shut_refuses h (length buf))

-- a close that answers another number than 20 was taken
pub number_taken : {s u : Receiver} {buf out : List ℕ} {a : Record} → ReceiverCloses s buf u a out
    → (a.number ≡ 20 → ⊥) → takes s.progress (length buf) ≡ true
number_taken {s} {u} {buf} {out} {a} x h = by (takes s.progress (length buf)) refl
  where
    by : (b : Bool) → takes s.progress (length buf) ≡ b → b ≡ true
    by true e = refl
    by false e = absurd (h (ap (λ (r : Record). r.number) (x.refused e).0))
