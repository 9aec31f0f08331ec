-- Uses of what is promised of a receiver's calls: each takes the statement as hypothesis, and together they need every
-- part of it. What is shown and cleared is in UsesShown.antt.
--     opens_zero, opens_clean, opens_again    an open, and one over a receiver and a buffer in use
--     same_buffer, batches_alike, close_alike    two ways to cut a recording into batches
--     quiet_front, keeps_long, feeds_zero     while the front comes; the buffer's length; the answer of a feed
--     closes_as_read, sent_closed             beside the hard reader, and beside the writer
--     never_twenty                            a close with the buffer of the open is never refused with 20
--     feed_refused, close_refused, goes_on    a buffer of another length, and what comes after it
--     never_feeds, never_closes, closed_feeds, closed_closes, closed_twice    a receiver that is not open
--     any_answer, any_more, any_twenty, any_long, any_close, any_close_long    any receiver whatever
-- Assumes nothing.
use Rattle.std.specs.Prelude.{Result, Ok, Err}
use Rattle.rules_calls.specs.declared.Refusal.{Refusal}
use mathlib.Core.Path.{◌≡◌, refl, sym, ap, subst, ◌∙◌}
use mathlib.Core.Bool.{true}
use mathlib.Core.List.{List, [], ◌∷◌, ◌++◌, append_assoc}
use Prim.Native.Nat.{ℕ, ◌+◌, ◌-◌, ◌≤◌, ◌<◌}
use native.Mathlib.Omega.{arith}
use lib.ListN.{length, take, replicate}
use lib.Seq.{take-length}
use Rattle.rules_rates.specs.Plain.{LengthOf}
use Rattle.rules_chips.proofs.Recorders.{length_hard}
use Rattle.rules_chips.specs.Chips.{Taken, hard_recording}
use Rattle.rules_calls.specs.declared.Written.{Written}
use Rattle.rules_calls.specs.declared.Record.{Record}
use Rattle.rules_calls.specs.declared.Refusal.TheVariants.{
  NoKind,
  NoRate,
  ShortRate,
  PayloadSize,
  NoPhase,
  ChipRoom,
  RowsDiffer,
  ShorterThanFront,
  Unusable,
  OddGrowth,
  Sfd,
  Crc,
  Signal,
  Service,
  Length,
  Ends,
  OctetRoom,
}
use Rattle.rules_calls.specs.declared.Reading.{Reading}
use Rattle.rules_calls.specs.Answers.{record_of}
use Rattle.rules_reading.specs.Reading.{reading_of}
use Rattle.rules_receiving.specs.declared.Receiver.{Receiver}
use Rattle.rules_receiving.specs.Yet.{buffer_yet}
use Rattle.rules_receiving.specs.Calls.{fresh, ReceiverOpens, ReceiverFeeds, ReceiverCloses, not_open}
use Rattle.rules_receiving.specs.Histories.{
  Runs,
  opens,
  feeds,
  feeds_other,
  closes_other,
  Shut,
  never_opened,
  closes,
  feeds_shut,
  closes_shut,
}
use Rattle.rules_receiving.proofs.Beginnings.{short_yet}
use Rattle.promises.specs.Calls.{ReadHard, good, shown, sent_lead, sent_symbol, Sent, of_hard}
use Rattle.promises.proofs.Kept as promises
use Rattle.promises_receiving.specs.Promises.{
  ReceiverOpened,
  ReceivedYet,
  ReceivedAll,
  ReceiverRefused,
  ShutRefused,
  AnyReceiver,
}

-- ---- an open

module _ (promise : ReceiverOpened) (kind : ℕ) where
  opens_zero : (buf out : List ℕ) (u : Receiver) (a : ℕ) → ReceiverOpens kind buf u a out → a ≡ 0
  opens_zero buf out u a x = (promise kind buf buf out out u u a a x).0

  -- a buffer of three octets that held something
  opens_clean : (i j k : ℕ) (out : List ℕ) (u : Receiver) (a : ℕ) → ReceiverOpens kind (i ∷ j ∷ k ∷ []) u a out
      → out ≡ 0 ∷ 0 ∷ 0 ∷ []
  opens_clean i j k out u a x = (promise kind (i ∷ j ∷ k ∷ []) [] out out u u a a x).1

  -- what holds of a receiver that was opened holds of one that was opened over another buffer of that length
  opens_again : (i j k l : ℕ) (out left : List ℕ) (u v : Receiver) (a b : ℕ) → ReceiverOpens kind (i ∷ j ∷ []) u a out
      → ReceiverOpens kind (k ∷ l ∷ []) v b left → (P : Receiver → Type 0) → P u → P v
  opens_again i j k l out left u v a b x y P p =
      subst P ((promise kind (i ∷ j ∷ []) (k ∷ l ∷ []) out left u v a b x).2 y refl) p

-- ---- feeds, and batches

module _ (promise : ReceivedYet) where
  same_buffer : (kind room : ℕ) (fed fed' : List ℕ) (s t : Receiver) (buf buf' : List ℕ) → Runs kind room fed s buf
      → Runs kind room fed' t buf' → fed ≡ fed' → buf ≡ buf'
  same_buffer kind room fed fed' s t buf buf' r q e =
      (promise kind room fed s buf r).0
      ∙ ap (λ (x : List ℕ). buffer_yet kind (hard_recording x) room) e
      ∙ sym (promise kind room fed' t buf' q).0

  -- three batches, or the first alone and the others joined, each after an open of its own
  batches_alike : (kind : ℕ) (old old' a b c : List ℕ) (u v w y u' v' w' : Receiver)
      (o p q z o' p' q' : List ℕ) (d e f g d' e' f' : ℕ) → length old ≡ length old'
      → ReceiverOpens kind old u d o → ReceiverFeeds u o a v e p → ReceiverFeeds v p b w f q → ReceiverFeeds w q c y g z
      → ReceiverOpens kind old' u' d' o' → ReceiverFeeds u' o' a v' e' p' → ReceiverFeeds v' p' (b ++ c) w' f' q' → z ≡ q'
  batches_alike kind old old' a b c u v w y u' v' w' o p q z o' p' q' d e f g d' e' f' l x x₁ x₂ x₃ y₀ y₁ y₂ =
      same_buffer kind (length old) ((a ++ b) ++ c) (a ++ (b ++ c)) y w' z q'
      (feeds (feeds (feeds (opens refl x) x₁) x₂) x₃) (feeds (feeds (opens (sym l) y₀) y₁) y₂) (append_assoc a b c)

  -- while the front comes the buffer is zeros, however many octets it has: a long front is 2,112 chips
  quiet_front : (room : ℕ) (fed : List ℕ) (s : Receiver) (buf : List ℕ) → Runs 0 room fed s buf → length fed < 2112
      → buf ≡ replicate room 0
  quiet_front room fed s buf r h =
      (promise 0 room fed s buf r).0
      ∙ ap (λ (x : List Taken). buffer_yet 0 x room) (sym (take-length (hard_recording fed)))
      ∙ short_yet 0 room (length (hard_recording fed)) (hard_recording fed) (omega (arith, h, length_hard fed))

  keeps_long : (kind : ℕ) (old batch o p : List ℕ) (u v : Receiver) (a b : ℕ) → ReceiverOpens kind old u a o
      → ReceiverFeeds u o batch v b p → length p ≡ length old
  keeps_long kind old batch o p u v a b x y =
      (promise kind (length old) batch v p (feeds (opens refl x) y)).1

  -- after a batch, a call with a buffer of another length, and a close with one, a feed still answers 0
  feeds_zero : (kind room : ℕ) (fed : List ℕ) (s u v w : Receiver) (buf out more last left end batch next : List ℕ)
      (a d : ℕ) (b : Record) → Runs kind room fed s buf → (length more ≡ room → ⊥) → ReceiverFeeds s more batch u a left
      → (length last ≡ room → ⊥) → ReceiverCloses u last v b end → ReceiverFeeds v buf next w d out → d ≡ 0
  feeds_zero kind room fed s u v w buf out more last left end batch next a d b r h x k y z =
      (promise kind room fed v buf (closes_other (feeds_other r h x) k y)).2 next out w d z

-- ---- a close

-- no refusal of a reading is 20
not_twenty : (g : Result Reading Refusal) → (record_of g).number ≡ 20 → ⊥
not_twenty (Err NoKind) h = omega arith
not_twenty (Err NoRate) h = omega arith
not_twenty (Err ShortRate) h = omega arith
not_twenty (Err PayloadSize) h = omega arith
not_twenty (Err NoPhase) h = omega arith
not_twenty (Err ChipRoom) h = omega arith
not_twenty (Err RowsDiffer) h = omega arith
not_twenty (Err ShorterThanFront) h = omega arith
not_twenty (Err (Unusable place l)) h = omega arith
not_twenty (Err (OddGrowth place l)) h = omega arith
not_twenty (Err Sfd) h = omega arith
not_twenty (Err Crc) h = omega arith
not_twenty (Err (Signal l)) h = omega arith
not_twenty (Err (Service l)) h = omega arith
not_twenty (Err (Length l)) h = omega arith
not_twenty (Err (Ends l)) h = omega arith
not_twenty (Err (OctetRoom l)) h = omega arith
not_twenty (Ok g) h = omega arith

module _ (promise : ReceivedAll) where
  -- beside the hard reader
  closes_as_read : (kind room : ℕ) (fed : List ℕ) (s u : Receiver) (buf out kept : List ℕ) (a b : Record)
      → Runs kind room fed s buf → ReceiverCloses s buf u a out → ReadHard kind fed room b kept → (a ≡ b) × (out ≡ kept)
  closes_as_read kind room fed s u buf out kept a b r x f =
      let g = promise kind room fed s u buf out a r x in
      (g.answer ∙ sym f.answer, g.octets ∙ sym f.octets)

  -- with the buffer of the open, close is never refused with 20
  never_twenty : (kind room : ℕ) (fed : List ℕ) (s u : Receiver) (buf out : List ℕ) (a : Record)
      → Runs kind room fed s buf → ReceiverCloses s buf u a out → a.number ≡ 20 → ⊥
  never_twenty kind room fed s u buf out a r x e =
      not_twenty (reading_of kind true (hard_recording fed) room)
      (ap (λ (v : Record). v.number) (sym (promise kind room fed s u buf out a r x).answer) ∙ e)

  -- one batch or two
  close_alike : (kind : ℕ) (old old' a b : List ℕ) (u v w y u' v' y' : Receiver) (o p q out o' p' out' : List ℕ)
      (d e f d' e' : ℕ) (answer answer' : Record) → length old ≡ length old'
      → ReceiverOpens kind old u d o → ReceiverFeeds u o a v e p → ReceiverFeeds v p b w f q → ReceiverCloses w q y answer out
      → ReceiverOpens kind old' u' d' o' → ReceiverFeeds u' o' (a ++ b) v' e' p' → ReceiverCloses v' p' y' answer' out'
      → (answer ≡ answer') × (out ≡ out')
  close_alike kind old old' a b u v w y u' v' y' o p q out o' p' out' d e f d' e' answer answer' l x x₁ x₂ x₃ y₀ y₁
      y₂ =
      closes_as_read kind (length old) (a ++ b) w y q out out' answer answer'
      (feeds (feeds (opens refl x) x₁) x₂) x₃
      (promise kind (length old) (a ++ b) v' y' p' out' answer' (feeds (opens (sym l) y₀) y₁) y₂)

  -- a frame that was written, in any batches, and anything behind it
  sent_closed : (kind rate phase clock : ℕ) (payload : List ℕ) (w : Written) (chips : List ℕ)
      → Sent kind rate phase clock payload w chips → (l : ℕ) → LengthOf rate (length payload) l
      → (room : ℕ) → length payload ≤ room → (tail : List ℕ) (s u : Receiver) (buf out : List ℕ) (a : Record)
      → Runs kind room (take w.chips chips ++ tail) s buf → ReceiverCloses s buf u a out
      → (a ≡ good rate l (length payload) w.chips (shown clock) (sent_lead rate) (sent_symbol kind rate))
      × (out ≡ payload ++ replicate (room - length payload) 0)
  sent_closed kind rate phase clock payload w chips e l d room fits tail s u buf out a r x =
      (promises.kept).read_back kind rate phase clock payload w chips e l d (length tail) room a out
      (of_hard tail refl (promise kind room (take w.chips chips ++ tail) s u buf out a r x)) fits

-- ---- a buffer of another length

module _
    (promise : ReceiverRefused) (kind room : ℕ) (fed : List ℕ) (s u : Receiver) (buf other out : List ℕ)
    (r : Runs kind room fed s buf) where
  -- one octet more
  feed_refused : length other ≡ room + 1 → (batch : List ℕ) (a : ℕ) → ReceiverFeeds s other batch u a out
      → (a ≡ 20) × (u ≡ s) × (out ≡ other)
  feed_refused e batch a x =
      (promise kind room fed s u buf other out r (λ z. omega (arith, z, e))).0 batch a x

  -- none at all
  close_refused : 1 ≤ room → (a : Record) → ReceiverCloses s [] u a out
      → (a.number ≡ 20) × (a.length ≡ 0) × (u ≡ s) × (out ≡ [])
  close_refused h a x =
      let y = (promise kind room fed s u buf [] out r (λ z. omega (arith, z, h))).1 a x in
      ((λ i. (y.0 i).number), (λ i. (y.0 i).length), y.1, y.2)

  -- the receiver is as it was: the next close reads all that was fed
  goes_on : ReceivedAll → length other ≡ room + 2 → (a b : Record) (v : Receiver) (left : List ℕ)
      → ReceiverCloses s other u a out → ReceiverCloses u buf v b left → ReadHard kind fed room b left
  goes_on all e a b v left x y =
      let z = (promise kind room fed s u buf other out r (λ z. omega (arith, z, e))).1 a x in
      all kind room fed s v buf left b r (subst (λ (t : Receiver). ReceiverCloses t buf v b left) z.1 y)

-- ---- a receiver that is not open

module _ (promise : ShutRefused) where
  never_feeds : (buf batch out : List ℕ) (u : Receiver) (a : ℕ) → ReceiverFeeds (fresh 0 0 0 0) buf batch u a out
      → (a ≡ 20) × (u ≡ fresh 0 0 0 0) × (out ≡ buf)
  never_feeds buf batch out u a x = (promise (fresh 0 0 0 0) u buf out never_opened).0 batch a x

  never_closes : (buf out : List ℕ) (u : Receiver) (a : Record) → ReceiverCloses (fresh 0 0 0 0) buf u a out
      → (a.number ≡ 20) × (a.place ≡ 0) × (u ≡ fresh 0 0 0 0) × (out ≡ buf)
  never_closes buf out u a x =
      let y = (promise (fresh 0 0 0 0) u buf out never_opened).1 a x in
      ((λ i. (y.0 i).number), (λ i. (y.0 i).place), y.1, y.2)

  module _
      (kind : ℕ) (old batch o p out : List ℕ) (u v w : Receiver) (a b : ℕ) (c : Record) (x : ReceiverOpens kind old u a o)
      (y : ReceiverFeeds u o batch v b p) (z : ReceiverCloses v p w c out) where
    closed : Shut w
    closed = closes (feeds (opens refl x) y) z

    -- with the buffer as close left it, and with any other
    closed_feeds : (buf next left : List ℕ) (t : Receiver) (d : ℕ) → ReceiverFeeds w buf next t d left
        → (d ≡ 20) × (t ≡ w) × (left ≡ buf)
    closed_feeds buf next left t d f = (promise w t buf left closed).0 next d f

    closed_closes : (left : List ℕ) (t : Receiver) (d : Record) → ReceiverCloses w out t d left
        → (d ≡ not_open) × (t ≡ w) × (left ≡ out)
    closed_closes left t d f = (promise w t out left closed).1 d f

    -- after a close, a feed, and another close it is still not open
    closed_twice : (buf next left rest end : List ℕ) (t r q : Receiver) (d e : ℕ) (f : Record)
        → ReceiverFeeds w buf next t d left → ReceiverCloses t left r f rest → ReceiverFeeds r rest next q e end → e ≡ 20
    closed_twice buf next left rest end t r q d e f g h k =
        ((promise r q rest end (closes_shut (feeds_shut closed g) h)).0 next e k).0

-- ---- any receiver whatever

module _ (promise : AnyReceiver) (s u : Receiver) (buf out : List ℕ) where
  any_answer : (batch : List ℕ) (a : ℕ) → ReceiverFeeds s buf batch u a out → a < 20 → a ≡ 0
  any_answer batch a x h = ((promise s u buf out).0 batch a x).1 (λ e. omega (arith, e, h))

  any_more : (batch : List ℕ) (a : ℕ) → ReceiverFeeds s buf batch u a out → 20 < a → ⊥
  any_more batch a x h = omega (arith, h, ((promise s u buf out).0 batch a x).1 (λ e. omega (arith, e, h)))

  any_twenty : (batch : List ℕ) → ReceiverFeeds s buf batch u 20 out → (u ≡ s) × (out ≡ buf)
  any_twenty batch x = ((promise s u buf out).0 batch 20 x).2 refl

  any_long : (batch : List ℕ) (a : ℕ) → ReceiverFeeds s buf batch u a out → length out ≡ length buf
  any_long batch a x = ((promise s u buf out).0 batch a x).0

  any_close : ReceiverCloses s buf u not_open out → (u ≡ s) × (out ≡ buf)
  any_close x = ((promise s u buf out).1 not_open x).1 refl

  any_close_long : (a : Record) → ReceiverCloses s buf u a out → length out ≡ length buf
  any_close_long a x = ((promise s u buf out).1 a x).0
