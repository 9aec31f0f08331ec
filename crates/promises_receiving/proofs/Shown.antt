-- What is shown of a recording that a hard read accepts, and of a frame that was written.
--     received_shown    the first octets of what the read leaves
--     sent_shown        the first octets of the payload
-- Assumes nothing.
use Rattle.std.specs.Prelude.{Result, None}
use Rattle.rules_calls.specs.declared.Refusal.{Refusal}
use mathlib.Core.Path.{◌≡◌, refl, sym, ap, subst, ◌∙◌}
use mathlib.Core.Bool.{true}
use mathlib.Core.List.{List, ◌++◌}
use Prim.Native.Nat.{ℕ, ◌-◌, ◌≤◌}
use native.Mathlib.Nat.{sub-zero}
use native.Mathlib.Omega.{arith}
use lib.ListN.{length, take, replicate}
use lib.Seq.{take-append-le}
use Rattle.rules_rates.specs.declared.Rate.{Rate}
use Rattle.rules_rates.specs.Rates.{octet_chips}
use Rattle.rules_chips.proofs.Recorders.{take_hard}
use Rattle.rules_chips.specs.Chips.{Taken, hard_recording}
use Rattle.rules_frame.specs.declared.Kind.{Kind}
use Rattle.rules_frame.specs.Frame.{kind_of, front_chips}
use Rattle.rules_calls.specs.declared.Record.{Record}
use Rattle.rules_calls.specs.declared.Refusal.TheVariants.{NoKind, Unusable, OddGrowth, Ends, OctetRoom}
use Rattle.rules_calls.specs.declared.Told.{Told}
use Rattle.rules_calls.specs.declared.Reading.{Reading}
use Rattle.rules_calls.specs.Answers.{record_of}
use Rattle.rules_calls.proofs.AnswerFacts.{some_number}
use Rattle.rules_reading.specs.Reading.{payload_odd, payload_of, reading_of, octets_after, octets_found}
use Rattle.rules_reading.proofs.Payloads.{found_unusable}
use Rattle.rules_reading.proofs.Buffers.{payload_length}
use Rattle.rules_receiving.specs.declared.Receiver.{Receiver}
use Rattle.rules_receiving.specs.Yet.{buffer_yet}
use Rattle.rules_receiving.specs.Histories.{Runs}
use Rattle.rules_receiving.proofs.Calls.{rate_back}
use Rattle.rules_receiving.proofs.Histories.{runs_buffer}
use Rattle.rules_receiving.proofs.Beginnings.{short_yet, clean_within, clean_behind}
use Rattle.rules_receiving.proofs.Outcomes.{
  WholeFrame,
  HardComes,
  no_kind,
  by_front,
  ends,
  no_room,
  unusable,
  odd,
  accepted,
  hard_comes,
}
use Rattle.promises.specs.Calls.{ReadHard, Goes, of_hard}
use Rattle.promises.proofs.Back.{known}
use Rattle.promises.proofs.Back as back
use Rattle.promises_receiving.specs.Promises.{Shown, before, within, behind, ReceivedShown, SentShown}

-- the octets of a buffer that has room for more
take_front : (k : Kind) (r : Rate) (n m room : ℕ) (rec : List Taken) → m ≤ n
    → take m (payload_of k r n rec ++ replicate (room - n) 0) ≡ take m (payload_of k r n rec)
take_front k r n m room rec h =
    take-append-le m (payload_of k r n rec) (replicate (room - n) 0) (omega (arith, payload_length k r n rec, h))

module _ (kind room : ℕ) (rec : List Taken) (c : ℕ) where
  abbrev k : Kind
  k = kind_of kind

  -- of a frame that is clean, by how far it has come
  module _
      (t : Told) (w : WholeFrame kind rec t) (fits : t.n ≤ room) (u : found_unusable k t rec ≡ None)
      (o : payload_odd k t.rate t.n rec ≡ None) where
    clean : {m : ℕ} → Shown (front_chips k) (octet_chips t.rate) t.n c m
        → buffer_yet kind (take c rec) room
        ≡ take m (payload_of k t.rate t.n rec ++ replicate (room - t.n) 0) ++ replicate (room - m) 0
    clean (before l) = short_yet kind room c rec l ∙ ap (λ (i : ℕ). replicate i 0) (sym (sub-zero room))
    clean (within {m} a b l) =
        clean_within kind room rec t w.is_kind_lem w.told w.long fits u o c m a b l
        ∙ ap (λ (x : List ℕ). x ++ replicate (room - m) 0) (sym (take_front k t.rate t.n m room rec l))
    clean (behind a) =
        clean_behind kind room rec t w.is_kind_lem w.told w.long fits u o c a
        ∙ ap (λ (x : List ℕ). x ++ replicate (room - t.n) 0)
        (sym (take_front k t.rate t.n t.n room rec (omega arith)))

  -- of any reading that is accepted
  shows : {g : Result Reading Refusal} → HardComes kind rec room g → (record_of g).number ≡ 0 → {front octet m : ℕ}
      → Goes kind (record_of g).rate front octet → Shown front octet (record_of g).n c m
      → buffer_yet kind (take c rec) room ≡ take m (octets_after k rec room g) ++ replicate (room - m) 0
  shows (no_kind i) z g x = absurd (some_number NoKind z)
  shows (by_front {e} f) z g x = absurd (some_number e z)
  shows (ends t f) z g x = absurd (some_number (Ends t.length) z)
  shows (no_room t w f) z g x = absurd (some_number (OctetRoom t.length) z)
  shows (unusable t w p f) z g x = absurd (some_number (Unusable p t.length) z)
  shows (odd t w p f) z g x = absurd (some_number (OddGrowth p t.length) z)
  shows (accepted t w fits u o) z {front} {octet} {m} g x =
      let h = known g in
      let size : octet_chips t.rate ≡ octet = ap octet_chips (sym (rate_back t.rate)) ∙ h.octet_is in
      clean t w fits u o
      (subst (λ (i : ℕ). Shown (front_chips k) i t.n c m) (sym size)
      (subst (λ (i : ℕ). Shown i octet t.n c m) (sym h.front_is) x))

-- the buffer of any calls, over the recording
pub cut_buffer : (c : ℕ) (chips : List ℕ) {kind room : ℕ} {s : Receiver} {buf : List ℕ}
    → Runs kind room (take c chips) s buf → buf ≡ buffer_yet kind (take c (hard_recording chips)) room
cut_buffer c chips {kind} {room} x =
    runs_buffer x ∙ ap (λ (y : List Taken). buffer_yet kind y room) (sym (take_hard c chips))

found_is : (kind room : ℕ) (rec : List Taken)
    → octets_found kind true rec room ≡ octets_after (kind_of kind) rec room (reading_of kind true rec room)
unfolding octets_found
found_is kind room rec = refl

pub received_shown : ReceivedShown
received_shown kind room chips b kept f z front octet c m g x s buf y =
    let rec = hard_recording chips in
    cut_buffer c chips y
    ∙ shows kind room rec c (hard_comes kind rec room) (ap (λ (v : Record). v.number) (sym f.answer) ∙ z)
    (subst (λ (v : Record). Goes kind v.rate front octet) f.answer g)
    (subst (λ (v : Record). Shown front octet v.n c m) f.answer x)
    ∙ ap (λ (l : List ℕ). take m l ++ replicate (room - m) 0) (sym (f.octets ∙ found_is kind room rec))

-- ---- a frame that was written

pub shown_most : {front octet n c m : ℕ} → Shown front octet n c m → m ≤ n
shown_most (before l) = omega arith
shown_most (within a b l) = l
shown_most (behind a) = omega arith

pub sent_shown : SentShown
sent_shown kind rate phase clock payload w chips e room h front octet c m g x tail s buf y =
    let heard = take w.chips chips ++ tail in
    let f : ReadHard kind heard room (record_of (reading_of kind true (hard_recording heard) room))
    (octets_found kind true (hard_recording heard) room) = record { answer = refl; octets = refl } in
    let v = back.back kind rate phase clock payload w chips e (length tail) room _ _ (of_hard tail refl f) h in
    received_shown kind room heard _ _ f (λ i. (v.0 i).number) front octet c m
    (subst (λ (i : ℕ). Goes kind i front octet) (λ i. (sym v.0 i).rate) g)
    (subst (λ (i : ℕ). Shown front octet i c m) (λ i. (sym v.0 i).n) x) s buf y
    ∙ ap (λ (l : List ℕ). take m l ++ replicate (room - m) 0) v.1
    ∙ ap (λ (l : List ℕ). l ++ replicate (room - m) 0)
    (take-append-le m payload (replicate (room - length payload) 0) (shown_most x))
