-- Calls of a receiver one after the other, each with the receiver as the last one left it.
-- Definitions only. Assumes nothing.
use Rattle.std.specs.Prelude.{◌≡◌, List, [], ◌++◌, ℕ, length}
use Rattle.rules_calls.specs.declared.Record.{Record}
use Rattle.rules_receiving.specs.declared.Receiver.{Receiver}
use Rattle.rules_receiving.specs.Calls.{fresh, ReceiverOpens, ReceiverFeeds, ReceiverCloses}

-- an open, whatever was there before, with a buffer of so many octets; then feeds, each with the buffer as the last one
-- left it. Between them may be calls with a buffer of another length. `fed` is all batches joined, in their order
pub data Runs (kind room : ℕ) : List ℕ → Receiver → List ℕ → Type 0 where
  opens : {buf : List ℕ} {u : Receiver} {a : ℕ} {out : List ℕ} → length buf ≡ room → ReceiverOpens kind buf u a out
      → Runs kind room [] u out
  feeds : {fed batch : List ℕ} {s u : Receiver} {buf out : List ℕ} {a : ℕ} → Runs kind room fed s buf
      → ReceiverFeeds s buf batch u a out → Runs kind room (fed ++ batch) u out
  feeds_other : {fed batch : List ℕ} {s u : Receiver} {buf other out : List ℕ} {a : ℕ} → Runs kind room fed s buf
      → (length other ≡ room → ⊥) → ReceiverFeeds s other batch u a out → Runs kind room fed u buf
  closes_other : {fed : List ℕ} {s u : Receiver} {buf other out : List ℕ} {a : Record} → Runs kind room fed s buf
      → (length other ≡ room → ⊥) → ReceiverCloses s other u a out → Runs kind room fed u buf

-- a receiver that is not open: all zeros, or opened, fed and closed with the buffer as the last call left it; feeds and
-- closes may follow, with any buffer
pub data Shut : Receiver → Type 0 where
  never_opened : Shut (fresh 0 0 0 0)
  closes : {kind room : ℕ} {fed : List ℕ} {s u : Receiver} {buf out : List ℕ} {a : Record} → Runs kind room fed s buf
      → ReceiverCloses s buf u a out → Shut u
  feeds_shut : {s u : Receiver} {buf batch out : List ℕ} {a : ℕ} → Shut s → ReceiverFeeds s buf batch u a out → Shut u
  closes_shut : {s u : Receiver} {buf out : List ℕ} {a : Record} → Shut s → ReceiverCloses s buf u a out → Shut u
