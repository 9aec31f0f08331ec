-- What an open leaves, and that a receiver that was fed takes more.
--     open_receives      a receiver that was opened has received nothing yet, and its buffer is zeros
--     code_is, rate_back     a rate's code
--     comes_few          a payload that comes has at most 4095 octets
--     whole_front_number     a front that is whole is refused with 9 to 15
--     going_takes, receives_takes     a receiver that was opened and fed takes a feed or a close
--     close_shuts        after a close that was taken it takes nothing
-- Assumes nothing.
use Rattle.std.specs.Prelude.{Result, Ok, Err, None}
use mathlib.Core.Path.{◌≡◌, refl, sym, ap, subst, ◌∙◌}
use mathlib.Core.Bool.{Bool, true, false, cond, not}
use mathlib.Core.List.{List, []}
use Prim.Native.Nat.{ℕ, ◌≤◌, ◌<◌}
use native.Mathlib.Omega.{arith}
use lib.ListN.{length}
use Rattle.rules_rates.specs.declared.Rate.{Rate}
use Rattle.rules_rates.specs.declared.Rate.TheVariants.{One, Two, Five, Eleven}
use Rattle.rules_rates.specs.Rates.{code_of, is_code, rate_of}
use Rattle.rules_chips.specs.Chips.{Taken, hard_recording}
use Rattle.rules_chips.proofs.Recorders.{length_hard}
use Rattle.rules_bits.specs.Growths.{growths_of}
use Rattle.rules_frame.specs.declared.Kind.{Kind}
use Rattle.rules_frame.specs.declared.Kind.TheVariants.{Long, Short}
use Rattle.rules_frame.specs.Frame.{is_kind, kind_of, front_chips, frame_chips}
use Rattle.rules_calls.specs.declared.Record.{Record}
use Rattle.rules_calls.specs.declared.Refusal.{Refusal}
use Rattle.rules_calls.specs.declared.Refusal.TheVariants.{ShorterThanFront}
use Rattle.rules_calls.specs.declared.Told.{Told}
use Rattle.rules_calls.specs.Answers.{refusal_number}
use Rattle.rules_reading.specs.Reading.{first_unusable, first_odd, decided_words, front_by, front_of}
use Rattle.rules_reading.proofs.Refusals.{
  FrontRefusal,
  front_short,
  front_unusable,
  front_odd_lem,
  sfd_differs,
  crc_differs,
  no_signal,
  no_service,
  no_length,
  FrontIf,
  front_refuses,
}
use Rattle.rules_reading.proofs.Telling.{Telling, TellingIf, front_telling}
use Rattle.rules_receiving.specs.declared.Progress.{Progress}
use Rattle.rules_receiving.specs.declared.Receiver.{Receiver}
use Rattle.rules_receiving.specs.Yet.{zeros, buffer_yet}
use Rattle.rules_receiving.specs.Sections.{section_odd}
use Rattle.rules_receiving.specs.Receivers.{
  front_odd_yet,
  FrontTo,
  Stays,
  PayloadComes,
  Held,
  no_kind,
  in_first,
  front_comes,
  refused,
  payload_comes,
  Going,
  Receives,
}
use Rattle.rules_receiving.specs.Calls.{takes, fresh, opened, ReceiverCloses}
use Rattle.rules_receiving.proofs.Takes.{
  FrontSound,
  PayloadSound,
  RefusedSound,
  refused_kind,
  refused_front,
  all_of,
  front_takes,
  payload_takes,
  refused_takes,
  shut_takes,
}

-- ---- open

some_front : (k : Kind) → 0 < front_chips k
some_front Long = omega arith
some_front Short = omega arith

empty_front : (k : Kind) → front_of k (hard_recording []) ≡ Err ShorterThanFront
unfolding front_by hard_recording
empty_front Long = refl
empty_front Short = refl

empty_buffer : (kind room : ℕ) → zeros room ≡ buffer_yet kind (hard_recording []) room
unfolding buffer_yet
empty_buffer kind room =
    rw (empty_front (kind_of kind)) (by (is_kind kind))
  where
    by : (b : Bool) → zeros room ≡ cond (not b) (zeros room) (zeros room)
    by true = refl
    by false = refl

empty_usable : first_unusable 0 (hard_recording []) ≡ None
unfolding first_unusable hard_recording
empty_usable = refl

empty_even : (k : Kind) → front_odd_yet k (hard_recording []) ≡ None
unfolding front_odd_yet section_odd hard_recording decided_words growths_of first_odd
empty_even Long = refl
empty_even Short = refl

open_front : (kind room : ℕ)
    → FrontTo (kind_of kind) [] (fresh 1 kind room 0).progress (zeros 88) (zeros 18) (zeros 6)
open_front kind room = record {
  within = omega arith;
  count_is = refl;
  bad_is = rw empty_usable;
  odd_is = λ e. rw (empty_even (kind_of kind));
  goes = λ e f. in_first (omega arith) refl refl refl;
}

open_by : (kind room : ℕ) (b : Bool) → is_kind kind ≡ b
    → Receives kind room [] (cond b (fresh 1 kind room 0) (fresh 3 kind room 1)) (zeros room)
open_by kind room true e = record {
  kind_is = refl;
  room_is = refl;
  small = omega arith;
  last_small = omega arith;
  holds = front_comes e refl (some_front (kind_of kind)) (open_front kind room);
  buffer = empty_buffer kind room;
}
open_by kind room false e = record {
  kind_is = refl;
  room_is = refl;
  small = omega arith;
  last_small = omega arith;
  holds = no_kind e refl (record { number_is = refl; place_is = refl; length_is = refl });
  buffer = empty_buffer kind room;
}

pub open_receives : (kind room : ℕ) → Receives kind room [] (opened kind room) (zeros room)
open_receives kind room = open_by kind room (is_kind kind) refl

-- ---- a receiver that was fed takes more

pub code_is : (r : Rate) → is_code (code_of r) ≡ true
code_is One = refl
code_is Two = refl
code_is Five = refl
code_is Eleven = refl

pub rate_back : (r : Rate) → rate_of (code_of r) ≡ r
rate_back One = refl
rate_back Two = refl
rate_back Five = refl
rate_back Eleven = refl

telling_of : (k : Kind) (t : Told) (f : Result Told Refusal) → f ≡ Ok t → TellingIf k f → Telling k t
telling_of k t f e h = subst (TellingIf k) e h

pub comes_few : (k : Kind) (t : Told) (fed : List ℕ) (p : Progress) (hold buf : List ℕ)
    → PayloadComes k t fed p hold buf → t.n ≤ 4095
comes_few k t fed p hold buf c =
    (telling_of k t (front_of k (hard_recording fed)) c.told (front_telling k (hard_recording fed))).few

front_sound : (kind : ℕ) (fed : List ℕ) (p : Progress) (hold preamble header : List ℕ) → p.kind ≡ kind
    → is_kind kind ≡ true → length fed < front_chips (kind_of kind)
    → FrontTo (kind_of kind) fed p hold preamble header → FrontSound p
front_sound kind fed p hold preamble header k i l h = record {
  is_kind_lem = ap is_kind k ∙ i;
  short = subst (λ (j : ℕ). p.count < front_chips (kind_of j)) (sym k) (omega (arith, h.count_is, l));
}

payload_sound : (kind : ℕ) (t : Told) (fed : List ℕ) (p : Progress) (hold buf : List ℕ) → p.kind ≡ kind
    → is_kind kind ≡ true → PayloadComes (kind_of kind) t fed p hold buf → PayloadSound p
payload_sound kind t fed p hold buf k i c = record {
  is_kind_lem = ap is_kind k ∙ i;
  is_code_lem = ap is_code c.tells.rate_is ∙ code_is t.rate;
  few = omega (arith, c.tells.n_is, comes_few (kind_of kind) t fed p hold buf c);
  from = subst (λ (j : ℕ). front_chips (kind_of j) ≤ p.count) (sym k) (omega (arith, c.count_is, c.from));
  to = subst (λ (j : ℕ). p.count ≤ j) (sym all_is) (rw c.count_is c.to);
}
  where
    all_is : all_of p ≡ frame_chips (kind_of kind) t.rate t.n
    all_is = rw (k, c.tells.rate_is, c.tells.n_is, rate_back t.rate)

pub whole_front_number : (k : Kind) (rec : List Taken) (e : Refusal) → front_chips k ≤ length rec
    → front_of k rec ≡ Err e → (9 ≤ refusal_number e) × (refusal_number e ≤ 15)
whole_front_number k rec e long f = by (subst (FrontIf k rec) f (front_refuses k rec))
  where
    by : {e : Refusal} → FrontRefusal k rec e → (9 ≤ refusal_number e) × (refusal_number e ≤ 15)
    by (front_short l) = absurd (omega (arith, l, long))
    by (front_unusable p l f) = (omega arith, omega arith)
    by (front_odd_lem p l u f) = (omega arith, omega arith)
    by (sfd_differs c d) = (omega arith, omega arith)
    by (crc_differs c s d) = (omega arith, omega arith)
    by (no_signal s a) = (omega arith, omega arith)
    by (no_service s a b) = (omega arith, omega arith)
    by (no_length s a b d) = (omega arith, omega arith)

stays_sound : (kind : ℕ) (fed : List ℕ) (p : Progress) (e : Refusal) → p.kind ≡ kind → is_kind kind ≡ true
    → front_chips (kind_of kind) ≤ length fed → front_of (kind_of kind) (hard_recording fed) ≡ Err e → Stays e p
    → RefusedSound p
stays_sound kind fed p e k i long f h =
    let n = whole_front_number (kind_of kind) (hard_recording fed) e (omega (arith, length_hard fed, long)) f in
    refused_front (ap is_kind k ∙ i) (omega (arith, h.number_is, n.0)) (omega (arith, h.number_is, n.1))

held_takes : (kind room : ℕ) (fed : List ℕ) (p : Progress) (hold preamble header buf : List ℕ) → p.kind ≡ kind
    → p.room ≡ room → p.ear.phase < 4 → p.ear.last < 4 → Held kind fed p hold preamble header buf
    → takes p room ≡ true
held_takes kind room fed p hold preamble header buf k r f l (no_kind i e h) =
    refused_takes p room r f l e (refused_kind (ap is_kind k ∙ i) h.number_is)
held_takes kind room fed p hold preamble header buf k r f l (front_comes i e short h) =
    front_takes p room r f l e (front_sound kind fed p hold preamble header k i short h)
held_takes kind room fed p hold preamble header buf k r f l (refused i e x long g h) =
    refused_takes p room r f l e (stays_sound kind fed p x k i long g h)
held_takes kind room fed p hold preamble header buf k r f l (payload_comes i e t c) =
    payload_takes p room r f l e (payload_sound kind t _ p hold buf k i c)

pub going_takes : (kind room : ℕ) (fed : List ℕ) (p : Progress) (hold preamble header buf : List ℕ)
    → Going kind room fed p hold preamble header buf → takes p room ≡ true
going_takes kind room fed p hold preamble header buf x =
    held_takes kind room fed p hold preamble header buf x.kind_is x.room_is x.small x.last_small
    x.holds

pub receives_takes : (kind room : ℕ) (fed : List ℕ) (s : Receiver) (buf : List ℕ) → Receives kind room fed s buf
    → takes s.progress room ≡ true
receives_takes kind room fed s buf x =
    going_takes kind room fed s.progress s.hold s.preamble s.header buf x

-- ---- after a close that was taken

pub close_shuts : {s u : Receiver} {buf out : List ℕ} {a : Record} (room : ℕ) → ReceiverCloses s buf u a out
    → takes s.progress (length buf) ≡ true → takes u.progress room ≡ false
close_shuts {s} {u} room x e =
    shut_takes u.progress room (ap (λ (v : Receiver). v.progress.status) (x.taken e))
