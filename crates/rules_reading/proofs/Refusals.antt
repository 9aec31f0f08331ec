-- What a recording is refused with, past its kind and its rows, and why: each refusal that its front can meet, 16
-- besides, and each that its payload can, with the tests passed before it and the one that failed.
--     front_refuses, front_number      fronts, whatever follows them: 8 to 15
--     whole_refuses, whole_number      fronts, and recordings that end in the payload: 8 to 16
--     payload_comes, payload_number    payloads, and that a good one had room
-- By the tests of the definitions, followed to their ends. Assumes nothing.
use Rattle.std.specs.Prelude.{Result, Ok, Err, None, Some}
use mathlib.Core.Path.{◌≡◌, refl}
use mathlib.Core.Bool.{true, false}
use mathlib.Core.List.{List}
use Prim.Native.Nat.{ℕ, ◌/◌, ◌%◌, ◌≤◌, ◌<◌}
use native.Mathlib.Omega.{arith}
use borrow.Author.Tests.{ltb-true, ltb-false}
use lib.Dec.{ltb}
use lib.ListN.{length, take, drop}
use Rattle.rules_rates.specs.Rates.{rate_of, length_holds}
use Rattle.rules_chips.specs.Chips.{Taken}
use Rattle.rules_bits.specs.Bits.{number_of}
use Rattle.rules_bits.specs.Crc.{crc_bits}
use Rattle.rules_frame.specs.declared.Kind.{Kind}
use Rattle.rules_frame.specs.Frame.{sfd_of, front_chips, frame_chips}
use Rattle.rules_calls.specs.declared.Refusal.{Refusal}
use Rattle.rules_calls.specs.declared.Refusal.TheVariants.{
  ShorterThanFront,
  Unusable,
  OddGrowth,
  Sfd,
  Crc,
  Signal,
  Service,
  Length,
  Ends,
  OctetRoom,
}
use Rattle.rules_calls.specs.declared.Told.{Told}
use Rattle.rules_calls.specs.declared.Reading.{Reading}
use Rattle.rules_calls.specs.Answers.{refusal_number}
use Rattle.rules_calls.specs.Headers.{ours, header_of}
use Rattle.rules_calls.proofs.Accepting.{
  Tells,
  signal_out,
  service_out,
  length_out,
  fields_told,
  HeaderComes,
  sfd_other,
  crc_other,
  fields_behind,
  header_comes,
}
use Rattle.rules_reading.specs.Leads.{frame_leads, least_of}
use Rattle.rules_reading.specs.Heard.{sfd_heard, header_heard, signal_heard, service_heard, length_heard}
use Rattle.rules_reading.specs.Reading.{
  first_unusable,
  front_odd,
  front_by,
  front_of,
  payload_odd,
  whole_of,
  payload_reading,
}
use Rattle.rules_reading.proofs.Payloads.{found_unusable}
use Rattle.rules_reading.proofs.Telling.{found_or_none, decided_by, searched}

-- ---- fronts

-- what passed 8, 9 and 10; what passed 11 and 12 too; and then 13
pub record Clear (k : Kind) (rec : List Taken) : Type 0 where
  pub long : front_chips k ≤ length rec
  pub usable : first_unusable 0 (take (front_chips k) rec) ≡ None
  pub even : front_odd k rec ≡ None

module _ (k : Kind) (rec : List Taken) where
  abbrev pub SfdHeard : Type 0
  SfdHeard = number_of (sfd_heard k rec) ≡ sfd_of k

  abbrev pub CrcHeard : Type 0
  CrcHeard = crc_bits (take 32 (header_heard k rec)) ≡ drop 32 (header_heard k rec)

pub record Sound (k : Kind) (rec : List Taken) : Type 0 where
  pub clear : Clear k rec
  pub sfd_is : SfdHeard k rec
  pub crc_is : CrcHeard k rec

pub data FrontRefusal (k : Kind) (rec : List Taken) : Refusal → Type 0 where
  front_short : length rec < front_chips k → FrontRefusal k rec ShorterThanFront
  front_unusable : (p : ℕ) → front_chips k ≤ length rec → first_unusable 0 (take (front_chips k) rec) ≡ Some p
      → FrontRefusal k rec (Unusable p 0)
  front_odd_lem : (p : ℕ) → front_chips k ≤ length rec → first_unusable 0 (take (front_chips k) rec) ≡ None
      → front_odd k rec ≡ Some p → FrontRefusal k rec (OddGrowth p 0)
  sfd_differs : Clear k rec → (SfdHeard k rec → ⊥) → FrontRefusal k rec Sfd
  crc_differs : Clear k rec → SfdHeard k rec → (CrcHeard k rec → ⊥) → FrontRefusal k rec Crc
  no_signal : Sound k rec → ours.signals k (signal_heard k rec) ≡ false
      → FrontRefusal k rec (Signal (length_heard k rec))
  no_service : Sound k rec → ours.signals k (signal_heard k rec) ≡ true
      → ours.services (rate_of (signal_heard k rec)) (service_heard k rec) ≡ false
      → FrontRefusal k rec (Service (length_heard k rec))
  no_length : Sound k rec → ours.signals k (signal_heard k rec) ≡ true
      → ours.services (rate_of (signal_heard k rec)) (service_heard k rec) ≡ true
      → length_holds (rate_of (signal_heard k rec)) (length_heard k rec) (service_heard k rec / 128 % 2) ≡ false
      → FrontRefusal k rec (Length (length_heard k rec))

-- a front that is told: it passed them all, and its fields are those of the bits
pub record FrontHeard (k : Kind) (rec : List Taken) (t : Told) : Type 0 where
  pub sound : Sound k rec
  pub tells : Tells ours k (signal_heard k rec) (service_heard k rec) (length_heard k rec) t

pub data WholeRefusal (k : Kind) (rec : List Taken) : Refusal → Type 0 where
  met_in_front : {e : Refusal} → FrontRefusal k rec e → WholeRefusal k rec e
  frame_ends : (t : Told) → FrontHeard k rec t → length rec < frame_chips k t.rate t.n
      → WholeRefusal k rec (Ends t.length)

module _ (k : Kind) (rec : List Taken) where
  abbrev pub FrontIf : Result Told Refusal → Type 0
  FrontIf (Err e) = FrontRefusal k rec e
  FrontIf (Ok t) = FrontHeard k rec t

  abbrev pub RefusesIf : Result Told Refusal → Type 0
  RefusesIf (Err e) = WholeRefusal k rec e
  RefusesIf (Ok t) = FrontHeard k rec t × (frame_chips k t.rate t.n ≤ length rec)

  header_refuses : Clear k rec → FrontIf (header_of ours k (sfd_heard k rec) (header_heard k rec))
  header_refuses clear = go (header_comes ours k (sfd_heard k rec) (header_heard k rec))
    where
      go : {f : Result Told Refusal} → HeaderComes ours k (sfd_heard k rec) (header_heard k rec) f → FrontIf f
      go (sfd_other s) = sfd_differs clear s
      go (crc_other s c) = crc_differs clear s c
      go (fields_behind s c (signal_out a)) = no_signal (record { clear = clear; sfd_is = s; crc_is = c }) a
      go (fields_behind s c (service_out a b)) =
          no_service (record { clear = clear; sfd_is = s; crc_is = c }) a b
      go (fields_behind s c (length_out a b d)) =
          no_length (record { clear = clear; sfd_is = s; crc_is = c }) a b d
      go (fields_behind s c (fields_told t h)) =
          record { sound = record { clear = clear; sfd_is = s; crc_is = c }; tells = h }

  pub front_refuses : FrontIf (front_of k rec)
  unfolding front_by
  front_refuses =
      decided_by FrontIf (ltb (length rec) (front_chips k)) _ _ (λ b. front_short (ltb-true _ _ b))
      (λ a. let long = ltb-false _ _ a in
      found_or_none FrontIf (first_unusable 0 (take (front_chips k) rec)) (λ p. Err (Unusable p 0)) _
      (λ p e. front_unusable p long e)
      (λ u. found_or_none FrontIf (front_odd k rec) (λ p. Err (OddGrowth p 0)) _
      (λ p e. front_odd_lem p long u e)
      (λ o. header_refuses (record { long = long; usable = u; even = o }))))

  -- promise: What a front and a payload can be refused with; a place lies in its part
  -- rule: 6.2, 6.4
  -- with: payload_comes, whole_place, payload_unusable_place, payload_odd_place
  pub whole_refuses : RefusesIf (whole_of k rec (front_of k rec))
  whole_refuses = go (front_of k rec) front_refuses
    where
      go : (f : Result Told Refusal) → FrontIf f → RefusesIf (whole_of k rec f)
      go (Err e) h = met_in_front h
      go (Ok t) h =
          decided_by RefusesIf (ltb (length rec) (frame_chips k t.rate t.n)) _ _
          (λ b. frame_ends t h (ltb-true _ _ b)) (λ a. (h, ltb-false _ _ a))

-- their numbers
pub front_number : {k : Kind} {rec : List Taken} {e : Refusal} → FrontRefusal k rec e
    → (8 ≤ refusal_number e) × (refusal_number e ≤ 15)
front_number (front_short l) = (omega arith, omega arith)
front_number (front_unusable p l f) = (omega arith, omega arith)
front_number (front_odd_lem p l u f) = (omega arith, omega arith)
front_number (sfd_differs c d) = (omega arith, omega arith)
front_number (crc_differs c s d) = (omega arith, omega arith)
front_number (no_signal s a) = (omega arith, omega arith)
front_number (no_service s a b) = (omega arith, omega arith)
front_number (no_length s a b d) = (omega arith, omega arith)

pub whole_number : {k : Kind} {rec : List Taken} {e : Refusal} → WholeRefusal k rec e
    → (8 ≤ refusal_number e) × (refusal_number e ≤ 16)
whole_number (met_in_front h) = let n = front_number h in (n.0, omega (arith, n.1))
whole_number (frame_ends t h l) = (omega arith, omega arith)

-- ---- payloads

pub data PayloadRefusal (k : Kind) (t : Told) (rec : List Taken) : Refusal → Type 0 where
  no_room : PayloadRefusal k t rec (OctetRoom t.length)
  payload_unusable : (p : ℕ) → found_unusable k t rec ≡ Some p → PayloadRefusal k t rec (Unusable p t.length)
  payload_odd_lem : (p : ℕ) → payload_odd k t.rate t.n rec ≡ Some p → PayloadRefusal k t rec (OddGrowth p t.length)

pub payload_number : {k : Kind} {t : Told} {rec : List Taken} {e : Refusal} → PayloadRefusal k t rec e
    → 9 ≤ refusal_number e
payload_number no_room = omega arith
payload_number (payload_unusable p f) = omega arith
payload_number (payload_odd_lem p f) = omega arith

module _ (k : Kind) (t : Told) (rec : List Taken) (room : ℕ) where
  abbrev pub PayloadIf : Result Reading Refusal → Type 0
  PayloadIf (Err e) = PayloadRefusal k t rec e
  PayloadIf (Ok g) =
      (t.n ≤ room) × (g.told ≡ t)
      × (g.used ≡ frame_chips k t.rate t.n)
      × (g.least ≡ least_of (frame_leads k t.rate t.n rec))

  pub payload_comes : PayloadIf (payload_reading k t rec room)
  unfolding payload_reading
  payload_comes =
      decided_by PayloadIf (ltb room t.n) _ _ (λ b. no_room)
      (λ a. searched PayloadIf (found_unusable k t rec) (λ p. Err (Unusable p t.length)) _
      payload_unusable
      (searched PayloadIf (payload_odd k t.rate t.n rec) (λ p. Err (OddGrowth p t.length)) _
      payload_odd_lem (ltb-false room t.n a, refl, refl, refl)))
