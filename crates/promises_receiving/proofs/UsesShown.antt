-- Uses of what is promised to be shown, and to be cleared: each takes the statement as hypothesis, and together they
-- need every part of it.
--     shown_any              after any number of chips it is said how many octets are shown
--     octet_there            an octet is in the buffer once its chips have come, whatever the kind and the rate
--     octet_later            until then it is 0
--     all_there              behind the frame the buffer is what the hard read leaves
--     two_batches            octets that come in one batch are all shown
--     sent_there, sent_later, seven_there    the same of a frame that was written: one octet of 7 is seen
--     spoiled, grown_odd, by_front, by_crc, by_later, by_room, by_reason    refusals that are certain: zeros
--     none_stays             an octet of 7 that stays is not allowed
-- Assumes nothing.
use Rattle.std.specs.Prelude.{Result, Ok, Err}
use Rattle.rules_calls.specs.declared.Refusal.{Refusal}
use mathlib.Core.Path.{◌≡◌, refl, sym, ap, subst, ◌∙◌}
use mathlib.Core.Bool.{true}
use mathlib.Core.List.{List, [], ◌∷◌, ◌++◌, append_assoc}
use Prim.Native.Nat.{ℕ, zero, suc, ◌+◌, ◌-◌, ◌*◌, ◌≤◌, ◌<◌}
use native.Mathlib.Decide.{dec_lt}
use native.Mathlib.Omega.{arith}
use lib.ListN.{length, get_or, take, replicate, length-append, take-append-drop, get_or-append}
use lib.Seq.{length-take-le, take_at, get_or-take, get_or-append-add}
use Rattle.rules_chips.specs.Chips.{hard_recording}
use Rattle.rules_calls.specs.declared.Written.{Written}
use Rattle.rules_calls.specs.declared.Record.{Record}
use Rattle.rules_calls.specs.declared.Reading.{Reading}
use Rattle.rules_calls.specs.Answers.{record_of}
use Rattle.rules_reading.specs.Reading.{reading_of}
use Rattle.rules_reading.proofs.Buffers.{Fits, reading_fits}
use Rattle.rules_receiving.specs.declared.Receiver.{Receiver}
use Rattle.rules_receiving.specs.Calls.{ReceiverOpens, ReceiverFeeds}
use Rattle.rules_receiving.specs.Histories.{Runs, opens, feeds}
use Rattle.rules_reading.specs.Places.{UnusableFirst}
use Rattle.promises.specs.Calls.{
  ReadHard,
  Goes,
  long_1,
  long_2,
  long_5,
  long_11,
  short_2,
  short_5,
  short_11,
  refused_at,
  refused,
  Sent,
}
use Rattle.promises.specs.Reasons.{HasPayload, payload_9}
use Rattle.promises.proofs.Kept as promises
use Rattle.promises_receiving.specs.Promises.{
  Shown,
  before,
  within,
  behind,
  ReceivedShown,
  SentShown,
  Certain,
  unusable,
  grown,
  at_front,
  by_header,
  ReceivedCleared,
}
use Rattle.promises_receiving.proofs.Shown.{shown_most}

-- ---- how many octets are shown

record ShownSome (front octet n c : ℕ) : Type 0 where
  m : ℕ
  shows : Shown front octet n c m

-- below n octets, where c is not behind them
below : (front octet c most n : ℕ) → (c < front → ⊥) → c < front + octet * n → n ≤ most → ShownSome front octet most c
below front octet c most zero h l e = absurd (h (subst (λ (x : ℕ). c < x) (omega arith) l))
below front octet c most (suc n) h l e =
    step (dec_lt c (front + octet * n)) (λ x. below front octet c most n h x (omega arith))
  where
    step : Dec (c < front + octet * n) → (c < front + octet * n → ShownSome front octet most c)
        → ShownSome front octet most c
    step (yes x) f = f x
    step (no x) f = record { m = n; shows = within {m = n} (omega (arith, x)) l (omega arith) }

shown_any : (front octet n c : ℕ) → ShownSome front octet n c
shown_any front octet n c = by (dec_lt c front) (dec_lt c (front + octet * n))
  where
    by : Dec (c < front) → Dec (c < front + octet * n) → ShownSome front octet n c
    by (yes h) x = record { m = 0; shows = before h }
    by (no h) (yes x) = below front octet c n n h x (omega arith)
    by (no h) (no x) = record { m = n; shows = behind (omega (arith, x)) }

-- octet j is among them once its chips have come, and not before
among : {kind rate front octet n c m : ℕ} (j : ℕ) → Goes kind rate front octet → Shown front octet n c m → j < n
    → front + octet * suc j ≤ c → j < m
among j g (before l) h e = absurd (omega (arith, l, e))
among j long_1 (within a b l) h e = omega arith
among j long_2 (within a b l) h e = omega arith
among j long_5 (within a b l) h e = omega arith
among j long_11 (within a b l) h e = omega arith
among j short_2 (within a b l) h e = omega arith
among j short_5 (within a b l) h e = omega arith
among j short_11 (within a b l) h e = omega arith
among j g (behind a) h e = h

not_yet : {kind rate front octet n c m : ℕ} (j : ℕ) → Goes kind rate front octet → Shown front octet n c m
    → c < front + octet * suc j → m ≤ j
not_yet j g (before l) e = omega arith
not_yet j long_1 (within a b l) e = omega arith
not_yet j long_2 (within a b l) e = omega arith
not_yet j long_5 (within a b l) e = omega arith
not_yet j long_11 (within a b l) e = omega arith
not_yet j short_2 (within a b l) e = omega arith
not_yet j short_5 (within a b l) e = omega arith
not_yet j short_11 (within a b l) e = omega arith
not_yet j long_1 (behind a) e = omega arith
not_yet j long_2 (behind a) e = omega arith
not_yet j long_5 (behind a) e = omega arith
not_yet j long_11 (behind a) e = omega arith
not_yet j short_2 (behind a) e = omega arith
not_yet j short_5 (behind a) e = omega arith
not_yet j short_11 (behind a) e = omega arith

-- entries of so many octets and zeros
entry_there : (m z j : ℕ) (l : List ℕ) → j < m → m ≤ length l → get_or (take m l ++ replicate z 0) j 0 ≡ get_or l j 0
entry_there m z j l h e =
    get_or-append (take m l) (replicate z 0) 0 j (omega (arith, h, length-take-le m l e)) ∙ get_or-take m l j 0 h

zero_at : (z i : ℕ) → get_or {A = ℕ} (replicate z 0) i 0 ≡ 0
zero_at zero i = refl
zero_at (suc z) zero = refl
zero_at (suc z) (suc i) = zero_at z i

entry_later : (m z j : ℕ) (l : List ℕ) → m ≤ j → m ≤ length l → get_or (take m l ++ replicate z 0) j 0 ≡ 0
entry_later m z j l h e =
    ap (λ (i : ℕ). get_or (take m l ++ replicate z 0) i 0) (omega (arith, h, length-take-le m l e))
    ∙ get_or-append-add (take m l) (replicate z 0) (j - m) 0
    ∙ zero_at z (j - m)

-- the octets of a read are at most its room
record_fits : (room : ℕ) (g : Result Reading Refusal) → Fits room g → (record_of g).n ≤ room
record_fits room (Err e) h = omega arith
record_fits room (Ok g) h = h

-- ---- a recording that is accepted

module _
    (promise : ReceivedShown) (kind room : ℕ) (chips : List ℕ) (b : Record) (kept : List ℕ)
    (f : ReadHard kind chips room b kept) (good : b.number ≡ 0) (front octet : ℕ)
    (g : Goes kind b.rate front octet) where
  fits : b.n ≤ length kept
  fits =
      let rec = hard_recording chips in
      omega (
        arith,
        record_fits room (reading_of kind true rec room) (reading_fits kind true rec room),
        ap (λ (v : Record). v.n) f.answer,
        ((promises.kept).read_fills kind true rec room b kept f).0,
      )

  module _ (c : ℕ) (s : Receiver) (buf : List ℕ) (r : Runs kind room (take c chips) s buf) where
    octet_there : (j : ℕ) → j < b.n → front + octet * suc j ≤ c → get_or buf j 0 ≡ get_or kept j 0
    octet_there j l e =
        let x = shown_any front octet b.n c in
        ap (λ (y : List ℕ). get_or y j 0)
        (promise kind room chips b kept f good front octet c x.m g x.shows s buf r)
        ∙ entry_there x.m (room - x.m) j kept (among j g x.shows l e)
        (omega (arith, fits, shown_most x.shows))

    octet_later : (j : ℕ) → c < front + octet * suc j → get_or buf j 0 ≡ 0
    octet_later j e =
        let x = shown_any front octet b.n c in
        ap (λ (y : List ℕ). get_or y j 0)
        (promise kind room chips b kept f good front octet c x.m g x.shows s buf r)
        ∙ entry_later x.m (room - x.m) j kept (not_yet j g x.shows e)
        (omega (arith, fits, shown_most x.shows))

    all_there : front + octet * b.n ≤ c → buf ≡ kept
    all_there e =
        promise kind room chips b kept f good front octet c b.n g (behind e) s buf r
        ∙ ap (λ (z : List ℕ). take b.n kept ++ z)
        (sym (((promises.kept).read_fills kind true (hard_recording chips) room b kept f).2 good))
        ∙ take-append-drop b.n kept

  -- an open, the front in one batch, and m octets in another: all of them are shown
  module _
      (old first second rest : List ℕ) (m : ℕ) (u v w : Receiver) (p q y : List ℕ) (a d e : ℕ)
      (cut : chips ≡ first ++ (second ++ rest)) (size : length old ≡ room)
      (first-is : length first ≡ front) (second_is : length second ≡ octet * m) (few : m ≤ b.n)
      (opening : ReceiverOpens kind old u a p) (feeding : ReceiverFeeds u p first v d q) (more : ReceiverFeeds v q second w e y) where
    two_batches : y ≡ take m kept ++ replicate (room - m) 0
    two_batches =
        promise kind room chips b kept f good front octet (length both) m g
        (within {m = m} (omega (arith, both_is)) (next g both_is) few) w y
        (subst (λ (x : List ℕ). Runs kind room x w y) (sym all_both) (feeds (feeds (opens size opening) feeding) more))
      where
        both : List ℕ
        both = first ++ second

        both_is : length both ≡ front + octet * m
        both_is = length-append first second ∙ omega (arith, first-is, second_is)

        all_both : take (length both) chips ≡ both
        all_both =
            ap (take (length both)) (cut ∙ sym (append_assoc first second rest))
            ∙ take_at both rest (length both) refl

        next : {kind rate front octet i : ℕ} → Goes kind rate front octet → i ≡ front + octet * m
            → i < front + octet * suc m
        next long_1 e = omega arith
        next long_2 e = omega arith
        next long_5 e = omega arith
        next long_11 e = omega arith
        next short_2 e = omega arith
        next short_5 e = omega arith
        next short_11 e = omega arith

-- ---- a frame that was written, and anything behind it

module _
    (promise : SentShown) (kind rate phase clock : ℕ) (payload : List ℕ) (w : Written) (chips : List ℕ)
    (sent : Sent kind rate phase clock payload w chips) (room : ℕ) (fits : length payload ≤ room) (front octet : ℕ)
    (g : Goes kind rate front octet) (c : ℕ) (tail : List ℕ) (s : Receiver) (buf : List ℕ)
    (r : Runs kind room (take c (take w.chips chips ++ tail)) s buf) where
  abbrev x : ShownSome front octet (length payload) c
  x = shown_any front octet (length payload) c

  shown_sent : buf ≡ take x.m payload ++ replicate (room - x.m) 0
  shown_sent =
      promise kind rate phase clock payload w chips sent room fits front octet c x.m g x.shows tail s buf r

  sent_there : (j : ℕ) → j < length payload → front + octet * suc j ≤ c → get_or buf j 0 ≡ get_or payload j 0
  sent_there j l e =
      ap (λ (y : List ℕ). get_or y j 0) shown_sent
      ∙ entry_there x.m (room - x.m) j payload (among j g x.shows l e) (shown_most x.shows)

  sent_later : (j : ℕ) → c < front + octet * suc j → get_or buf j 0 ≡ 0
  sent_later j e =
      ap (λ (y : List ℕ). get_or y j 0) shown_sent
      ∙ entry_later x.m (room - x.m) j payload (not_yet j g x.shows e) (shown_most x.shows)

  -- one octet of 7: a buffer that stays zeros until close is not allowed
  seven_there : payload ≡ 7 ∷ [] → front + octet * 1 ≤ c → buf ≡ replicate room 0 → ⊥
  seven_there e l z =
      omega (
        arith,
        sent_there 0 (omega (arith, ap length e)) l,
        ap (λ (y : List ℕ). get_or y 0 0) e,
        ap (λ (y : List ℕ). get_or y 0 0) z ∙ zero_at room 0,
      )

-- ---- refusals that are certain

module _
    (promise : ReceivedCleared) (kind room : ℕ) (chips : List ℕ) (b : Record) (kept : List ℕ)
    (f : ReadHard kind chips room b kept) (c : ℕ) (s : Receiver) (buf : List ℕ)
    (r : Runs kind room (take c chips) s buf) where
  cleared : {v : Record} → b ≡ v → Certain v c → buf ≡ replicate room 0
  cleared e x = promise kind room chips b kept f c (subst (λ (v : Record). Certain v c) (sym e) x) s buf r

  -- an unusable chip has come, or a whole symbol that is grown by 1 or 3
  spoiled : (place l : ℕ) → b ≡ refused_at 9 place l → suc place ≤ c → buf ≡ replicate room 0
  spoiled place l e h = cleared e (unusable refl h)

  grown_odd : (place l : ℕ) → b ≡ refused_at 10 place l → place + 11 ≤ c → buf ≡ replicate room 0
  grown_odd place l e h = cleared e (grown refl h)

  -- refusals of the front, with a place that has not come yet too; those by the header, and too little room
  by_front : (number place : ℕ) → 1 ≤ number → b ≡ refused_at number place 0 → buf ≡ replicate room 0
  by_front number place h e = cleared e (at_front (λ z. omega (arith, z, h)) refl)

  by_crc : b ≡ refused 12 0 → buf ≡ replicate room 0
  by_crc e = by_front 12 0 (omega arith) e

  by_later : (number l : ℕ) → 11 ≤ number → (number ≡ 16 → ⊥) → b ≡ refused number l → buf ≡ replicate room 0
  by_later number l h d e = cleared e (by_header h d)

  by_room : (l : ℕ) → b ≡ refused 17 l → buf ≡ replicate room 0
  by_room l e = by_later 17 l (omega arith) (λ z. omega (arith, z)) e

  -- an octet of 7 that is still there behind an unusable chip is not allowed, whichever octet it is
  none_stays : (place l j : ℕ) → b ≡ refused_at 9 place l → place < c → get_or buf j 0 ≡ 7 → ⊥
  none_stays place l j e h z =
      omega (arith, z, ap (λ (y : List ℕ). get_or y j 0) (spoiled place l e h) ∙ zero_at room j)

  -- by what the symbols say: a payload of n octets, room for them, and its first unusable chip
  by_reason : {rate service l n front octet place : ℕ}
      → HasPayload kind true (hard_recording chips) rate service l n front octet
      → front + octet * n ≤ length (hard_recording chips) → n ≤ room → front ≤ place → place < front + octet * n
      → UnusableFirst (hard_recording chips) place → place < c → buf ≡ replicate room 0
  by_reason {l = l} {place = place} p long fits from to first h =
      let e = ((promises.kept).read_answers kind true (hard_recording chips) room b kept f).0
      (refused_at 9 place l) (payload_9 p long fits from to first) in
      promise kind room chips b kept f c
      (unusable (λ i. (sym e i).number) (subst (λ (i : ℕ). i < c) (λ i. (e i).place) h)) s buf r
