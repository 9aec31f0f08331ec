-- A read answers by the numbers, in their order, and why (RULES 1.4 (1), 6.2 to 6.8, 6.10): for every input, in plain
-- numbers and by what the symbols of the recording say, bit by bit (Decoded.antt of rules_reading). And every good
-- read's octets, whatever became of the frame on the way (RULES 4.7, 5.5, 5.7).
-- Definitions only. Assumes nothing.
use Rattle.std.specs.Prelude.{ℕ, suc, ◌+◌, ◌*◌, ◌/◌, ◌%◌, ◌≤◌, ◌<◌, ◌≡◌, Bool, true, false, List, length, get_or}
use Rattle.rules_rates.specs.declared.Rate.TheVariants.{One}
use Rattle.rules_rates.specs.Rates.{rate_of}
use Rattle.rules_rates.specs.Plain.{LengthOf, SevenOf}
use Rattle.rules_chips.specs.Chips.{Taken}
use Rattle.rules_bits.specs.Bits.{number_of}
use Rattle.rules_bits.specs.Crc.{crc_bits}
use Rattle.rules_frame.specs.Frame.{kind_of, field_bits}
use Rattle.rules_calls.specs.declared.Record.{Record}
use Rattle.rules_reading.specs.Places.{UsableAt, UnusableFirst, odd_behind, FirstOddSymbol}
use Rattle.rules_reading.specs.Decoded.{FieldAt}
use Rattle.promises.specs.Calls.{Read, good, refused_at, refused, Goes}
use Rattle.promises.specs.Coming.{FrontOf}

-- the bits of a kind's front: where its SFD begins, the SFD, and how many symbols from the first on are at 1 Mbit/s
pub data BitsOf : ℕ → ℕ → ℕ → ℕ → Type 0 where
  long_bits : BitsOf 0 128 0xF3A0 192
  short_bits : BitsOf 1 56 0x05CF 72

-- the number of so many bits of a recording's front
abbrev pub FrontField : ℕ → List Taken → ℕ → ℕ → ℕ → Type 0
FrontField kind rec from count value = FieldAt (kind_of kind) One rec 0 from count value

-- SERVICE may be 0 or 4, at 11 Mbit/s also 128 or 132
pub data ServiceOf : ℕ → ℕ → Type 0 where
  service_0 : (rate : ℕ) → ServiceOf rate 0
  service_4 : (rate : ℕ) → ServiceOf rate 4
  service_128 : ServiceOf 110 128
  service_132 : ServiceOf 110 132

-- what passed 1, 7 and 8
pub record HasFront (kind : ℕ) (agree : Bool) (rec : List Taken) (front : ℕ) : Type 0 where
  pub front_is : FrontOf kind front
  pub rows_agree : agree ≡ true
  pub long : front ≤ length rec

-- 9 and 10 over the front too. The SFD begins at bit `at`, and the header 16 bits behind it
pub record HasBits (kind : ℕ) (agree : Bool) (rec : List Taken) (at sfd : ℕ) : Type 0 where
  pub front : ℕ
  pub ones : ℕ
  pub has : HasFront kind agree rec front
  pub bits_are : BitsOf kind at sfd ones
  pub usable : (place : ℕ) → place < front → UsableAt rec place
  pub even : (s : ℕ) → suc s < ones → odd_behind rec s ≡ 0

-- 11 and 12 too: SIGNAL, SERVICE and LENGTH, and their CRC
pub record HasHeader (kind : ℕ) (agree : Bool) (rec : List Taken) (signal service l : ℕ) : Type 0 where
  pub at : ℕ
  pub sfd : ℕ
  pub crc : ℕ
  pub has : HasBits kind agree rec at sfd
  pub sfd_is : FrontField kind rec at 16 sfd
  pub signal_is : FrontField kind rec (at + 16) 8 signal
  pub service_is : FrontField kind rec (at + 24) 8 service
  pub length_is : FrontField kind rec (at + 32) 16 l
  pub crc_is : FrontField kind rec (at + 48) 16 crc
  pub right : crc ≡ number_of (crc_bits (field_bits signal service l))

-- 13, 14 and 15 too: a rate of the kind, with the chips of its front and of an octet, and n octets
pub record HasPayload (kind : ℕ) (agree : Bool) (rec : List Taken) (rate service l n front octet : ℕ) : Type 0 where
  pub header : HasHeader kind agree rec rate service l
  pub goes : Goes kind rate front octet
  pub service_of : ServiceOf rate service
  pub some : 1 ≤ n
  pub few : n ≤ 4095
  pub length_of : LengthOf rate n l
  pub seven_of : SevenOf rate n l (service / 128 % 2)

-- what a read answers; each case asks that none before it in the reading order holds
pub data ReadAnswer (kind : ℕ) (agree : Bool) (rec : List Taken) (room : ℕ) : Record → Type 0 where
  -- 1: kind is neither 0 nor 1; 7: rows differ; 8: recording shorter than the front
  is_1 : 2 ≤ kind → ReadAnswer kind agree rec room (refused 1 0)
  is_7 : kind < 2 → agree ≡ false → ReadAnswer kind agree rec room (refused 7 0)
  is_8 : {front : ℕ} → FrontOf kind front → agree ≡ true → length rec < front
      → ReadAnswer kind agree rec room (refused 8 0)
  -- 9 and 10 in the front: the first such place; 10 at its symbols at 1 Mbit/s only, so in none of a short header
  front_9 : {front place : ℕ} → HasFront kind agree rec front → place < front → UnusableFirst rec place
      → ReadAnswer kind agree rec room (refused_at 9 place 0)
  front_10 : {front at sfd ones place : ℕ} → HasFront kind agree rec front
      → ((q : ℕ) → q < front → UsableAt rec q) → BitsOf kind at sfd ones → place < 11 * ones
      → FirstOddSymbol rec place → ReadAnswer kind agree rec room (refused_at 10 place 0)
  -- 11: unscrambled SFD differs; 12: CRC differs
  is_11 : {at sfd heard : ℕ} → HasBits kind agree rec at sfd → FrontField kind rec at 16 heard → (heard ≡ sfd → ⊥)
      → ReadAnswer kind agree rec room (refused 11 0)
  is_12 : {at sfd signal service l crc : ℕ} → HasBits kind agree rec at sfd → FrontField kind rec at 16 sfd
      → FrontField kind rec (at + 16) 8 signal → FrontField kind rec (at + 24) 8 service
      → FrontField kind rec (at + 32) 16 l → FrontField kind rec (at + 48) 16 crc
      → (crc ≡ number_of (crc_bits (field_bits signal service l)) → ⊥) → ReadAnswer kind agree rec room (refused 12 0)
  -- 13: SIGNAL is no rate of this kind; 14: SERVICE; 15: no n has this LENGTH and bit 7. All with the header's LENGTH
  is_13 : {signal service l : ℕ} → HasHeader kind agree rec signal service l
      → ((front octet : ℕ) → Goes kind signal front octet → ⊥) → ReadAnswer kind agree rec room (refused 13 l)
  is_14 : {rate service l front octet : ℕ} → HasHeader kind agree rec rate service l → Goes kind rate front octet
      → (ServiceOf rate service → ⊥) → ReadAnswer kind agree rec room (refused 14 l)
  is_15 : {rate service l front octet : ℕ} → HasHeader kind agree rec rate service l → Goes kind rate front octet
      → ServiceOf rate service
      → ((n : ℕ) → 1 ≤ n → n ≤ 4095 → LengthOf rate n l → SevenOf rate n l (service / 128 % 2) → ⊥)
      → ReadAnswer kind agree rec room (refused 15 l)
  -- 16: recording ends inside the payload; 17: octet buffer shorter than n
  is_16 : {rate service l n front octet : ℕ} → HasPayload kind agree rec rate service l n front octet
      → length rec < front + octet * n → ReadAnswer kind agree rec room (refused 16 l)
  is_17 : {rate service l n front octet : ℕ} → HasPayload kind agree rec rate service l n front octet
      → front + octet * n ≤ length rec → room < n → ReadAnswer kind agree rec room (refused 17 l)
  -- 9 and 10 in the payload, 10 at 1 Mbit/s only
  payload_9 : {rate service l n front octet place : ℕ} → HasPayload kind agree rec rate service l n front octet
      → front + octet * n ≤ length rec → n ≤ room → front ≤ place → place < front + octet * n → UnusableFirst rec place
      → ReadAnswer kind agree rec room (refused_at 9 place l)
  payload_10 : {rate service l n front octet place : ℕ} → HasPayload kind agree rec rate service l n front octet
      → front + octet * n ≤ length rec → n ≤ room → ((q : ℕ) → q < front + octet * n → UsableAt rec q) → rate ≡ 10
      → front ≤ place → place < front + octet * n → FirstOddSymbol rec place
      → ReadAnswer kind agree rec room (refused_at 10 place l)
  -- else, where no symbol at 1 Mbit/s grew by 1 or 3, what the header says: rate, LENGTH, n, the frame's chips, the
  -- clock bit
  is_0 : {rate service l n front octet : ℕ} (lead symbol : ℕ) → HasPayload kind agree rec rate service l n front octet
      → front + octet * n ≤ length rec → n ≤ room → ((q : ℕ) → q < front + octet * n → UsableAt rec q)
      → (rate ≡ 10 → (s : ℕ) → 11 * suc s < front + octet * n → odd_behind rec s ≡ 0)
      → ReadAnswer kind agree rec room (good rate l n (front + octet * n) (service / 4 % 2) lead symbol)

-- two answers that are one, but for the lead and its symbol
abbrev pub SameButLead : Record → Record → Type 0
SameButLead a b =
    b
    ≡ record {
      number = a.number;
      place = a.place;
      rate = a.rate;
      length = a.length;
      n = a.n;
      used = a.used;
      clock = a.clock;
      lead = b.lead;
      symbol = b.symbol;
    }

-- promise: A read answers by the numbers, in their order, each exactly when its rule says so and none before it holds:
-- 9 and 10 with the first such place, LENGTH as the header has it from 13 on and 0 before; else what the header says
-- rule: 1.4 (1), 4.7, 5.3 to 5.7, 6.2 to 6.8, 6.10
-- code: dsss_read_hard_3, dsss_read_soft_3, dsss_read_bytes_3
-- with: ReadAnswer
abbrev pub ReadAnswers : Type 0
ReadAnswers =
    (kind : ℕ) (agree : Bool) (rec : List Taken) (room : ℕ) (a : Record) (left : List ℕ)
    → Read kind agree rec room a left
    → ((b : Record) → ReadAnswer kind agree rec room b → SameButLead a b) × ReadAnswer kind agree rec room a

-- promise: Each octet of any good read, of spoiled frames too, is what the symbols of its frame say, bit by bit
-- rule: 1.4 (2), 4.3, 4.6, 4.7, 5.3, 5.5, 5.7
-- code: dsss_read_hard_3, dsss_read_soft_3, dsss_read_bytes_3
abbrev pub OctetsDecoded : Type 0
OctetsDecoded =
    (kind : ℕ) (agree : Bool) (rec : List Taken) (room : ℕ) (a : Record) (left : List ℕ)
    → Read kind agree rec room a left → a.number ≡ 0
    → (at sfd ones : ℕ) → BitsOf kind at sfd ones → (j : ℕ) → j < a.n
    → FieldAt (kind_of kind) (rate_of a.rate) rec a.n (at + 64 + 8 * j) 8 (get_or left j 0)
