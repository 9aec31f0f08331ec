-- Why a read of a hard recording is refused (RULES 6.22): its number, its place, what was expected and what was found.
-- Each number that is shown is one that reading itself goes by.
-- Definitions only. Assumes nothing.
use Rattle.std.specs.Prelude.{ℕ, ◌-◌, ◌*◌, ◌/◌, ◌%◌, true, cond, List, length, get_or, take, drop, ℤ, nat_abs, Result, Ok, Err}
use Rattle.rules_rates.specs.declared.Rate.{Rate}
use Rattle.rules_rates.specs.declared.Rate.TheVariants.{One, Two, Five, Eleven}
use Rattle.rules_rates.specs.Rates.{rate_of, length_field, octets_read, is_payload}
use Rattle.rules_chips.specs.Chips.{Taken, hard_recording}
use Rattle.rules_bits.specs.Bits.{number_of, highest_first}
use Rattle.rules_bits.specs.Growths.{grown_by}
use Rattle.rules_bits.specs.Crc.{crc_bits}
use Rattle.rules_frame.specs.declared.Kind.{Kind}
use Rattle.rules_frame.specs.Frame.{kind_of, sfd_of, front_chips, frame_chips}
use Rattle.rules_calls.specs.declared.Refusal.{Refusal}
use Rattle.rules_calls.specs.declared.Refusal.TheVariants.{
  NoKind,
  NoRate,
  ShortRate,
  PayloadSize,
  NoPhase,
  ChipRoom,
  RowsDiffer,
  ShorterThanFront,
  Unusable,
  OddGrowth,
  Sfd,
  Crc,
  Signal,
  Service,
  Length,
  Ends,
  OctetRoom,
}
use Rattle.rules_calls.specs.declared.Reading.{Reading}
use Rattle.rules_calls.specs.Answers.{refusal_number, refusal_place}
use Rattle.rules_reading.specs.Places.{word_from}
use Rattle.rules_reading.specs.Heard.{sfd_heard, header_heard, signal_heard, service_heard, length_heard}
use Rattle.rules_reading.specs.Reading.{reading_of}
use Rattle.rules_why.specs.declared.Reason.{Reason}

-- ---- what is shown

-- 10: how far the 1 Mbit/s symbol at a place grew from the symbol before it
abbrev pub growth_at : ℕ → List Taken → ℕ
growth_at place rec = grown_by (word_from One (place - 11) rec) (word_from One place rec)

-- 14: SERVICE with its allowed bits cleared: bit 2, and at 11 Mbit/s bit 7
abbrev pub service_left : Rate → ℕ → ℕ
service_left One s = s - 4 * (s / 4 % 2)
service_left Two s = s - 4 * (s / 4 % 2)
service_left Five s = s - 4 * (s / 4 % 2)
service_left Eleven s = s - 4 * (s / 4 % 2) - 128 * (s / 128 % 2)

-- 15: the LENGTH that the writer makes for n octets; 0 where n is outside 1 to 4,095
abbrev pub length_for : Rate → ℤ → ℕ
length_for r n = cond (is_payload n) (length_field r (nat_abs n)) 0

-- 14 to 17: the rate that SIGNAL says, and the octets n that LENGTH and bit 7 then say
abbrev pub rate_heard : Kind → List Taken → Rate
rate_heard k rec = rate_of (signal_heard k rec)

abbrev pub octets_said : Kind → List Taken → ℤ
octets_said k rec = octets_read (rate_heard k rec) (length_heard k rec) (service_heard k rec / 128 % 2)

abbrev pub reason : ℕ → ℕ → ℕ → ℕ → Reason
reason number place expected found =
    record { number = number; place = place; expected = expected; found = found }

-- ---- the table: for each refusal of a read what was expected, and what was found. 2 to 7 cannot come

module _ (kind : ℕ) (k : Kind) (chips : List ℕ) (rec : List Taken) (room : ℕ) where
  abbrev pub shown_of : Refusal → ℕ × ℕ
  shown_of NoKind = (0, kind)
  shown_of NoRate = (0, 0)
  shown_of ShortRate = (0, 0)
  shown_of PayloadSize = (0, 0)
  shown_of NoPhase = (0, 0)
  shown_of ChipRoom = (0, 0)
  shown_of RowsDiffer = (0, 0)
  shown_of ShorterThanFront = (front_chips k, length chips)
  shown_of (Unusable place l) = (0, get_or chips place 0)
  shown_of (OddGrowth place l) = (0, growth_at place rec)
  shown_of Sfd = (sfd_of k, number_of (sfd_heard k rec))
  shown_of Crc = (highest_first (crc_bits (take 32 (header_heard k rec))), highest_first (drop 32 (header_heard k rec)))
  shown_of (Signal l) = (0, signal_heard k rec)
  shown_of (Service l) = (0, service_left (rate_heard k rec) (service_heard k rec))
  shown_of (Length l) = (length_for (rate_heard k rec) (octets_said k rec), l)
  shown_of (Ends l) = (frame_chips k (rate_heard k rec) (nat_abs (octets_said k rec)), length chips)
  shown_of (OctetRoom l) = (nat_abs (octets_said k rec), room)

  -- a refusal answers its number, its place and its row of the table; a good read answers four zeros
  abbrev pub reason_of : Result Reading Refusal → Reason
  reason_of (Err e) = reason (refusal_number e) (refusal_place e) (shown_of e).0 (shown_of e).1
  reason_of (Ok g) = reason 0 0 0 0

-- from a kind as a number, the octets of a hard recording, and room for so many octets, as a number
unfoldable pub why_of : ℕ → List ℕ → ℕ → Reason
why_of kind chips room =
    let rec = hard_recording chips in
    reason_of kind (kind_of kind) chips rec room (reading_of kind true rec room)
