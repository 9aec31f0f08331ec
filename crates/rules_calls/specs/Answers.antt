-- What the calls answer: for each case of an enum answer its number and values (RULES 6.4, 6.8, 6.10, 6.11).
-- Definitions only. Assumes nothing.
use Rattle.std.specs.Prelude.{ℕ, Result, Ok, Err}
use Rattle.rules_rates.specs.Rates.{code_of}
use Rattle.rules_frame.specs.Frame.{clock_bit}
use Rattle.rules_calls.specs.declared.Refusal.{Refusal}
use Rattle.rules_calls.specs.declared.Refusal.TheVariants.{
  NoKind,
  NoRate,
  ShortRate,
  PayloadSize,
  NoPhase,
  ChipRoom,
  RowsDiffer,
  ShorterThanFront,
  Unusable,
  OddGrowth,
  Sfd,
  Crc,
  Signal,
  Service,
  Length,
  Ends,
  OctetRoom,
}
use Rattle.rules_calls.specs.declared.Frame.{Frame}
use Rattle.rules_calls.specs.declared.Reading.{Reading}
use Rattle.rules_calls.specs.declared.Written.{Written}
use Rattle.rules_calls.specs.declared.Record.{Record}

-- the number of a refusal
abbrev pub refusal_number : Refusal → ℕ
refusal_number NoKind = 1
refusal_number NoRate = 2
refusal_number ShortRate = 3
refusal_number PayloadSize = 4
refusal_number NoPhase = 5
refusal_number ChipRoom = 6
refusal_number RowsDiffer = 7
refusal_number ShorterThanFront = 8
refusal_number (Unusable place l) = 9
refusal_number (OddGrowth place l) = 10
refusal_number Sfd = 11
refusal_number Crc = 12
refusal_number (Signal l) = 13
refusal_number (Service l) = 14
refusal_number (Length l) = 15
refusal_number (Ends l) = 16
refusal_number (OctetRoom l) = 17

-- a place, 0 but for 9 and 10
abbrev pub refusal_place : Refusal → ℕ
refusal_place NoKind = 0
refusal_place NoRate = 0
refusal_place ShortRate = 0
refusal_place PayloadSize = 0
refusal_place NoPhase = 0
refusal_place ChipRoom = 0
refusal_place RowsDiffer = 0
refusal_place ShorterThanFront = 0
refusal_place (Unusable place l) = place
refusal_place (OddGrowth place l) = place
refusal_place Sfd = 0
refusal_place Crc = 0
refusal_place (Signal l) = 0
refusal_place (Service l) = 0
refusal_place (Length l) = 0
refusal_place (Ends l) = 0
refusal_place (OctetRoom l) = 0

-- the LENGTH field if the refusal is 13 or later in the reading order, which has a payload's 9 and 10 at its end
abbrev pub refusal_length : Refusal → ℕ
refusal_length NoKind = 0
refusal_length NoRate = 0
refusal_length ShortRate = 0
refusal_length PayloadSize = 0
refusal_length NoPhase = 0
refusal_length ChipRoom = 0
refusal_length RowsDiffer = 0
refusal_length ShorterThanFront = 0
refusal_length (Unusable place l) = l
refusal_length (OddGrowth place l) = l
refusal_length Sfd = 0
refusal_length Crc = 0
refusal_length (Signal l) = l
refusal_length (Service l) = l
refusal_length (Length l) = l
refusal_length (Ends l) = l
refusal_length (OctetRoom l) = l

-- a good write answers number 0 and the chips written, the frame's; a refusal its number, all else 0
abbrev pub written_of : Result Frame Refusal → Written
written_of (Err e) = record { number = refusal_number e; chips = 0 }
written_of (Ok f) = record { number = 0; chips = f.chips }

-- a good read answers number 0, the rate code, LENGTH, n, chips used, the clock bit, the smallest lead and its symbol;
-- a refusal its number, place and LENGTH, all else 0
abbrev pub record_of : Result Reading Refusal → Record
record_of (Err e) =
    record {
      number = refusal_number e;
      place = refusal_place e;
      rate = 0;
      length = refusal_length e;
      n = 0;
      used = 0;
      clock = 0;
      lead = 0;
      symbol = 0;
    }
record_of (Ok g) =
    record {
      number = 0;
      place = 0;
      rate = code_of g.told.rate;
      length = g.told.length;
      n = g.told.n;
      used = g.used;
      clock = clock_bit g.told.clock;
      lead = g.least.lead;
      symbol = g.least.symbol;
    }
