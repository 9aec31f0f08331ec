-- What is promised of a receiver's calls, one after the other (RULES 6.31), by themselves and beside the hard reader and
-- the writer. Statements speak of calls that the contracts allow (`ReceiverOpens`, `ReceiverFeeds`, `ReceiverCloses` of
-- rules_receiving, in the order that `Runs` and `Shut` name; `ReadHard` and `Sent` of promises), so they are about the
-- programs.
-- Definitions only. Assumes nothing.
use Rattle.std.specs.Prelude.{ℕ, suc, ◌+◌, ◌-◌, ◌*◌, ◌≤◌, ◌<◌, ◌≡◌, List, ◌++◌, length, take, replicate}
use Rattle.rules_chips.specs.Chips.{hard_recording}
use Rattle.rules_calls.specs.declared.Written.{Written}
use Rattle.rules_calls.specs.declared.Record.{Record}
use Rattle.rules_receiving.specs.declared.Receiver.{Receiver}
use Rattle.rules_receiving.specs.Yet.{buffer_yet}
use Rattle.rules_receiving.specs.Calls.{ReceiverOpens, ReceiverFeeds, ReceiverCloses, not_open}
use Rattle.rules_receiving.specs.Histories.{Runs, Shut}
use Rattle.promises.specs.Calls.{ReadHard, Goes, Sent}

-- promise: Open answers 0 and leaves a buffer of zeros, whatever receiver and buffer it gets; two opens of one kind,
-- with buffers of one length, leave the same receiver
-- rule: 6.31
-- code: dsss_open
abbrev pub ReceiverOpened : Type 0
ReceiverOpened =
    (kind : ℕ) (buf old out left : List ℕ) (u v : Receiver) (a b : ℕ) → ReceiverOpens kind buf u a out
    → (a ≡ 0) × (out ≡ replicate (length buf) 0)
    × (ReceiverOpens kind old v b left → length old ≡ length buf → u ≡ v)

-- promise: After an open and any feeds the buffer is what the definition says of all chips fed, whatever their batches,
-- and as long as it was; and each feed answers 0
-- rule: 6.31
-- code: dsss_open, dsss_feed
abbrev pub ReceivedYet : Type 0
ReceivedYet =
    (kind room : ℕ) (fed : List ℕ) (s : Receiver) (buf : List ℕ) → Runs kind room fed s buf
    → (buf ≡ buffer_yet kind (hard_recording fed) room) × (length buf ≡ room)
    × ((batch out : List ℕ) (u : Receiver) (a : ℕ) → ReceiverFeeds s buf batch u a out → a ≡ 0)

-- promise: Close answers what a hard read of all batches joined answers, under the kind and with the buffer of the open,
-- and leaves what that read leaves
-- rule: 6.31, 6.2 to 6.10
-- code: dsss_open, dsss_feed, dsss_close, dsss_read_hard_3
abbrev pub ReceivedAll : Type 0
ReceivedAll =
    (kind room : ℕ) (fed : List ℕ) (s u : Receiver) (buf out : List ℕ) (a : Record) → Runs kind room fed s buf
    → ReceiverCloses s buf u a out → ReadHard kind fed room a out

-- how many octets are shown after c chips of a frame of n octets, whose front is so many chips and each octet so many:
-- those whose chips have all come
pub data Shown (front octet n c : ℕ) : ℕ → Type 0 where
  before : c < front → Shown front octet n c 0
  within : {m : ℕ} → front + octet * m ≤ c → c < front + octet * suc m → m ≤ n → Shown front octet n c m
  behind : front + octet * n ≤ c → Shown front octet n c n

-- promise: A recording that a hard read accepts, fed in any batches: after c chips the buffer holds the first m octets
-- of what that read leaves, m being those whose chips have all come, and then zeros
-- rule: 6.31
-- code: dsss_open, dsss_feed, dsss_read_hard_3
-- with: Shown
abbrev pub ReceivedShown : Type 0
ReceivedShown =
    (kind room : ℕ) (chips : List ℕ) (b : Record) (kept : List ℕ) → ReadHard kind chips room b kept → b.number ≡ 0
    → (front octet c m : ℕ) → Goes kind b.rate front octet → Shown front octet b.n c m
    → (s : Receiver) (buf : List ℕ) → Runs kind room (take c chips) s buf
    → buf ≡ take m kept ++ replicate (room - m) 0

-- promise: A frame that was written, fed in any batches: after c chips the buffer holds the first m octets of its
-- payload, those whose chips have all come, and then zeros
-- rule: 6.31, 1.4 (2)
-- code: dsss_write_2, dsss_open, dsss_feed
-- with: Shown
abbrev pub SentShown : Type 0
SentShown =
    (kind rate phase clock : ℕ) (payload : List ℕ) (w : Written) (chips : List ℕ)
    → Sent kind rate phase clock payload w chips → (room : ℕ) → length payload ≤ room
    → (front octet c m : ℕ) → Goes kind rate front octet → Shown front octet (length payload) c m
    → (tail : List ℕ) (s : Receiver) (buf : List ℕ) → Runs kind room (take c (take w.chips chips ++ tail)) s buf
    → buf ≡ take m payload ++ replicate (room - m) 0

-- after c chips the refusal of a hard read of all of them is certain: 9 of the payload behind its chip, 10 of the
-- payload behind its symbol; the others but 16, and 9 and 10 of the front, always, as nothing is shown before
pub data Certain (b : Record) (c : ℕ) : Type 0 where
  unusable : b.number ≡ 9 → b.place < c → Certain b c
  grown : b.number ≡ 10 → b.place + 11 ≤ c → Certain b c
  at_front : (b.number ≡ 0 → ⊥) → b.length ≡ 0 → Certain b c
  by_header : 11 ≤ b.number → (b.number ≡ 16 → ⊥) → Certain b c

-- promise: A recording that a hard read refuses, fed in any batches: once the refusal is certain the buffer is zeros
-- rule: 6.31, 6.9
-- code: dsss_open, dsss_feed, dsss_read_hard_3
-- with: Certain
abbrev pub ReceivedCleared : Type 0
ReceivedCleared =
    (kind room : ℕ) (chips : List ℕ) (b : Record) (kept : List ℕ) → ReadHard kind chips room b kept
    → (c : ℕ) → Certain b c → (s : Receiver) (buf : List ℕ) → Runs kind room (take c chips) s buf
    → buf ≡ replicate room 0

-- promise: An open receiver refuses a buffer of another length than at its open, and only that: the answer is 20, and
-- receiver and buffer are as they were, so it stays open
-- rule: 6.31, 6.4 (20)
-- code: dsss_feed, dsss_close
abbrev pub ReceiverRefused : Type 0
ReceiverRefused =
    (kind room : ℕ) (fed : List ℕ) (s u : Receiver) (buf other out : List ℕ) → Runs kind room fed s buf
    → (length other ≡ room → ⊥)
    → ((batch : List ℕ) (a : ℕ) → ReceiverFeeds s other batch u a out → (a ≡ 20) × (u ≡ s) × (out ≡ other))
    × ((a : Record) → ReceiverCloses s other u a out → (a ≡ not_open) × (u ≡ s) × (out ≡ other))

-- promise: A receiver that was never opened, or was closed, refuses every feed and close with 20; receiver and buffer
-- are as they were
-- rule: 6.31, 6.4 (20)
-- code: dsss_feed, dsss_close
abbrev pub ShutRefused : Type 0
ShutRefused =
    (s u : Receiver) (buf out : List ℕ) → Shut s
    → ((batch : List ℕ) (a : ℕ) → ReceiverFeeds s buf batch u a out → (a ≡ 20) × (u ≡ s) × (out ≡ buf))
    × ((a : Record) → ReceiverCloses s buf u a out → (a ≡ not_open) × (u ≡ s) × (out ≡ buf))

-- promise: For every receiver whatever, one that no call left too: a feed answers 0 or 20, and 20 of a feed or of a
-- close changes nothing; the buffer keeps its length
-- rule: 6.31, 1.4 (1)
-- code: dsss_feed, dsss_close
abbrev pub AnyReceiver : Type 0
AnyReceiver =
    (s u : Receiver) (buf out : List ℕ)
    → ((batch : List ℕ) (a : ℕ) → ReceiverFeeds s buf batch u a out → (length out ≡ length buf)
    × ((a ≡ 20 → ⊥) → a ≡ 0) × (a ≡ 20 → (u ≡ s) × (out ≡ buf)))
    × ((a : Record) → ReceiverCloses s buf u a out → (length out ≡ length buf)
    × (a ≡ not_open → (u ≡ s) × (out ≡ buf)))

-- ---- all of it
pub record ReceiverPromised : Type 0 where
  pub receiver_opened : ReceiverOpened
  pub received_yet : ReceivedYet
  pub received_all : ReceivedAll
  pub received_shown : ReceivedShown
  pub sent_shown : SentShown
  pub received_cleared : ReceivedCleared
  pub receiver_refused : ReceiverRefused
  pub shut_refused : ShutRefused
  pub any_receiver : AnyReceiver
