-- What the code that says why works with: the rows of the table that the SFD and the header show, what comes of a
-- front, and growths over a block of symbols.
-- Definitions only. Assumes nothing.
-- working notion: of the code that says why; no promise needs it
use Rattle.rules_calls.specs.declared.Told.{Told}
use Rattle.std.specs.Prelude.{◌≡◌, List, ℕ, ◌/◌, ◌%◌, ◌<◌, take, drop, Result}
use Rattle.rules_rates.specs.declared.Rate.TheVariants.{One}
use Rattle.rules_rates.specs.Rates.{rate_of, octets_read}
use Rattle.rules_chips.specs.Chips.{hard_recording}
use Rattle.rules_bits.specs.Bits.{number_of, highest_first}
use Rattle.rules_bits.specs.Growths.{growths_of, last_heard}
use Rattle.rules_bits.specs.Crc.{crc_bits}
use Rattle.rules_frame.specs.declared.Kind.{Kind}
use Rattle.rules_frame.specs.Frame.{sfd_of}
use Rattle.rules_calls.specs.declared.Refusal.{Refusal}
use Rattle.rules_calls.specs.declared.Refusal.TheVariants.{
  NoKind,
  NoRate,
  ShortRate,
  PayloadSize,
  NoPhase,
  ChipRoom,
  RowsDiffer,
  ShorterThanFront,
  Unusable,
  OddGrowth,
  Sfd,
  Crc,
  Signal,
  Service,
  Length,
  Ends,
  OctetRoom,
}
use Rattle.rules_calls.specs.Answers.{refusal_number, refusal_place}
use Rattle.rules_reading.specs.Reading.{first_odd, whole_of, after_front}
use Rattle.rules_why.specs.declared.Reason.{Reason}
use Rattle.rules_why.specs.Why.{service_left, length_for, reason, reason_of}
use Rattle.small_calls.specs.declared.odd.Grown.{Grown}

-- 11 to 15: what was expected and what was found, by the bits of the SFD and of the header; of no other refusal do they
-- show anything
module _ (k : Kind) (sfd header : List ℕ) where
  abbrev signal : ℕ
  signal = number_of (take 8 header)

  abbrev service : ℕ
  service = number_of (take 8 (drop 8 header))

  abbrev micros : ℕ
  micros = number_of (take 16 (drop 16 header))

  abbrev pub header_row : Refusal → ℕ × ℕ
  header_row NoKind = (0, 0)
  header_row NoRate = (0, 0)
  header_row ShortRate = (0, 0)
  header_row PayloadSize = (0, 0)
  header_row NoPhase = (0, 0)
  header_row ChipRoom = (0, 0)
  header_row RowsDiffer = (0, 0)
  header_row ShorterThanFront = (0, 0)
  header_row (Unusable place l) = (0, 0)
  header_row (OddGrowth place l) = (0, 0)
  header_row Sfd = (sfd_of k, number_of sfd)
  header_row Crc = (highest_first (crc_bits (take 32 header)), highest_first (drop 32 header))
  header_row (Signal l) = (0, signal)
  header_row (Service l) = (0, service_left (rate_of signal) service)
  header_row (Length l) = (length_for (rate_of signal) (octets_read (rate_of signal) micros (service / 128 % 2)), micros)
  header_row (Ends l) = (0, 0)
  header_row (OctetRoom l) = (0, 0)

  abbrev pub header_shown : Refusal → Reason
  header_shown e = reason (refusal_number e) (refusal_place e) (header_row e).0 (header_row e).1

-- what is answered of a recording whose front tells f, for a kind as a number
abbrev pub after_told : ℕ → Kind → List ℕ → ℕ → Result Told Refusal → Reason
after_told kind k chips room f =
    let rec = hard_recording chips in
    reason_of kind k chips rec room (after_front k rec room (whole_of k rec f))

-- words at 1 Mbit/s from a place, the first of them grown from a phase: the first that is grown by 1 or 3, and the
-- phase of the last
pub record GrownOver (at phase : ℕ) (words : List ℕ) (g : Grown) : Type 0 where
  pub odd : g.odd ≡ first_odd at (growths_of One phase words)
  pub last : g.last ≡ last_heard One phase words
  pub small : g.last < 4
