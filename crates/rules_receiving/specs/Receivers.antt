-- What a receiver and the octet buffer are once so many chips have been fed.
-- Definitions only. Assumes nothing.
-- working notion: of the calls of a receiver; the promises are of the calls one after the other
use Rattle.std.specs.Prelude.{◌≡◌, true, false, List, ℕ, suc, ◌≤◌, ◌<◌, length, take, Option, None, Some, Ok, Err}
use Rattle.rules_rates.specs.Rates.{code_of}
use Rattle.rules_chips.specs.Chips.{Taken, hard_recording}
use Rattle.rules_bits.specs.Bits.{octets_of}
use Rattle.rules_bits.specs.Scrambler.{descramble}
use Rattle.rules_frame.specs.declared.Kind.{Kind}
use Rattle.rules_frame.specs.declared.Kind.TheVariants.{Long, Short}
use Rattle.rules_frame.specs.Frame.{is_kind, kind_of, start, front_chips, preamble_chips, frame_chips, clock_bit}
use Rattle.rules_calls.specs.declared.Refusal.{Refusal}
use Rattle.rules_calls.specs.declared.Refusal.TheVariants.{NoKind}
use Rattle.rules_calls.specs.declared.Told.{Told}
use Rattle.rules_calls.specs.Answers.{refusal_number, refusal_place, refusal_length}
use Rattle.rules_reading.specs.Reading.{or_else, first_unusable, front_of}
use Rattle.rules_receiving.specs.declared.Ear.{Ear}
use Rattle.rules_receiving.specs.declared.Progress.{Progress}
use Rattle.rules_receiving.specs.declared.Receiver.{Receiver}
use Rattle.rules_receiving.specs.Yet.{zeros, unusable_yet, odd_yet, buffer_yet}
use Rattle.rules_receiving.specs.Sections.{
  preamble_heard,
  preamble_section,
  header_section,
  payload_section,
  section_odd,
  GoesOn,
}

-- a place as a number that is 0 where there is none
abbrev pub place_number : Option ℕ → ℕ
place_number None = 0
place_number (Some place) = suc place

-- ---- status 1: the front is not whole

-- its preamble is so many octets
abbrev pub preamble_count : Kind → ℕ
preamble_count Long = 18
preamble_count Short = 9

-- 10 of what has come of a front: of the preamble, then of the header
unfoldable pub front_odd_yet : Kind → List Taken → Option ℕ
front_odd_yet k rec =
    or_else (section_odd (preamble_section k rec) (take (preamble_chips k) rec)) (λ place. Some place)
    (section_odd (header_section k rec) rec)

-- a front that goes on: its first symbol, the reference, is not whole; or the preamble goes on, or the header behind it
pub data FrontGoes (k : Kind) (fed : List ℕ) (e : Ear) (hold preamble header : List ℕ) : Type 0 where
  in_first : length fed < 11 → take (length fed) hold ≡ fed → preamble ≡ zeros 18 → header ≡ zeros 6
      → FrontGoes k fed e hold preamble header
  in_preamble_lem : 11 ≤ length fed → length fed < preamble_chips k → header ≡ zeros 6
      → GoesOn k (preamble_section k (hard_recording fed)) fed e hold preamble → FrontGoes k fed e hold preamble header
  in_header_lem : preamble_chips k ≤ length fed
      → take (preamble_count k) preamble
      ≡ octets_of (preamble_count k) (descramble (start k) (preamble_heard k (hard_recording fed)))
      → GoesOn k (header_section k (hard_recording fed)) fed e hold header → FrontGoes k fed e hold preamble header

-- `fed` are chips of the front, all of them perhaps
pub record FrontTo (k : Kind) (fed : List ℕ) (p : Progress) (hold preamble header : List ℕ) : Type 0 where
  pub within : length fed ≤ front_chips k
  pub count_is : p.count ≡ length fed
  pub bad_is : p.bad ≡ place_number (first_unusable 0 (hard_recording fed))
  pub odd_is : first_unusable 0 (hard_recording fed) ≡ None → p.odd ≡ place_number (front_odd_yet k (hard_recording fed))
  pub goes : first_unusable 0 (hard_recording fed) ≡ None → front_odd_yet k (hard_recording fed) ≡ None
      → FrontGoes k fed p.ear hold preamble header

-- ---- status 3: a refusal that stays, whatever follows

pub record Stays (e : Refusal) (p : Progress) : Type 0 where
  pub number_is : p.number ≡ refusal_number e
  pub place_is : p.place ≡ refusal_place e
  pub length_is : p.length ≡ refusal_length e

-- ---- status 2: what the front told, and how far the payload has come

pub record Tells (t : Told) (p : Progress) : Type 0 where
  pub rate_is : p.rate ≡ code_of t.rate
  pub length_is : p.length ≡ t.length
  pub n_is : p.n ≡ t.n
  pub clock_is : p.clock ≡ clock_bit t.clock

-- `fed` are chips of the frame. Where 17 is certain, none of the payload's is looked at
pub record PayloadComes (k : Kind) (t : Told) (fed : List ℕ) (p : Progress) (hold buf : List ℕ) : Type 0 where
  pub tells : Tells t p
  pub told : front_of k (hard_recording fed) ≡ Ok t
  pub from : front_chips k ≤ length fed
  pub to : length fed ≤ frame_chips k t.rate t.n
  pub count_is : p.count ≡ length fed
  pub bad_is : t.n ≤ p.room → p.bad ≡ place_number (unusable_yet k (hard_recording fed))
  pub odd_is : t.n ≤ p.room → unusable_yet k (hard_recording fed) ≡ None
      → p.odd ≡ place_number (odd_yet k t.rate (hard_recording fed))
  pub goes : t.n ≤ p.room → unusable_yet k (hard_recording fed) ≡ None
      → odd_yet k t.rate (hard_recording fed) ≡ None
      → GoesOn k (payload_section k t.rate (hard_recording fed)) fed p.ear hold buf

-- ---- a receiver opened with a kind, and fed

pub data Held (kind : ℕ) (fed : List ℕ) (p : Progress) (hold preamble header buf : List ℕ) : Type 0 where
  no_kind : is_kind kind ≡ false → p.status ≡ 3 → Stays NoKind p → Held kind fed p hold preamble header buf
  front_comes : is_kind kind ≡ true → p.status ≡ 1 → length fed < front_chips (kind_of kind)
      → FrontTo (kind_of kind) fed p hold preamble header
      → Held kind fed p hold preamble header buf
  refused : is_kind kind ≡ true → p.status ≡ 3 → (e : Refusal)
      → front_chips (kind_of kind) ≤ length fed → front_of (kind_of kind) (hard_recording fed) ≡ Err e → Stays e p
      → Held kind fed p hold preamble header buf
  payload_comes : is_kind kind ≡ true → p.status ≡ 2 → (t : Told)
      → PayloadComes (kind_of kind) t (take (frame_chips (kind_of kind) t.rate t.n) fed) p hold buf
      → Held kind fed p hold preamble header buf

-- the same of a receiver's progress and rows, with the numbers that every opened receiver keeps, and the buffer
pub record Going (kind room : ℕ) (fed : List ℕ) (p : Progress) (hold preamble header buf : List ℕ) : Type 0 where
  pub kind_is : p.kind ≡ kind
  pub room_is : p.room ≡ room
  pub small : p.ear.phase < 4
  pub last_small : p.ear.last < 4
  pub holds : Held kind fed p hold preamble header buf
  pub buffer : buf ≡ buffer_yet kind (hard_recording fed) room

abbrev pub Receives : ℕ → ℕ → List ℕ → Receiver → List ℕ → Type 0
Receives kind room fed s buf =
    Going kind room fed s.progress s.hold s.preamble s.header buf
