-- Find the start: what an answer says of the two readers' answers from that offset and from the smaller ones (RULES
-- 6.17). Each statement speaks of answers that the contracts of the three calls allow (`Finds`, `ReadFront`,
-- `ReadHard`: Calls.antt); what stands in a recording from an offset on is `drop offset chips`.
-- Definitions only. Assumes nothing.
use Rattle.std.specs.Prelude.{ℕ, ◌+◌, ◌*◌, ◌≤◌, ◌<◌, ◌≡◌, List, ◌++◌, length, take, drop}
use Rattle.rules_rates.specs.Plain.{LengthOf}
use Rattle.rules_calls.specs.declared.Written.{Written}
use Rattle.rules_calls.specs.declared.Record.{Record}
use Rattle.rules_coming.specs.declared.Coming.{Coming}
use Rattle.rules_finding.specs.declared.Found.{Found}
use Rattle.promises.specs.Calls.{
  ReadHard,
  ReadFront,
  Finds,
  good,
  refused_at,
  refused,
  shown,
  Goes,
  Sent,
}
use Rattle.promises.specs.Coming.{refused_coming, told_coming, FrontOf}

-- an answer that refuses, and one that tells of a start
abbrev pub refused_found : ℕ → Found
refused_found number = record { number = number; offset = 0; rate = 0; length = 0; clock = 0; n = 0 }

abbrev pub start_found : ℕ → ℕ → ℕ → ℕ → ℕ → Found
start_found offset rate l clock n =
    record { number = 0; offset = offset; rate = rate; length = l; clock = clock; n = n }

-- ---- 1 where the kind is none, whatever the offsets; then 18 where they are none or above 4,096; whatever the
-- recording
pub record WhenNotTried (kind offsets : ℕ) (f : Found) : Type 0 where
  pub no_kind : 2 ≤ kind → f ≡ refused_found 1
  pub no_offsets : kind < 2 → offsets ≡ 0 → f ≡ refused_found 18
  pub many_offsets : kind < 2 → 4096 < offsets → f ≡ refused_found 18

-- promise: A search refuses with 1 where the kind is none, then with 18 where the offsets to try are none or above
-- 4,096, whatever the recording; all else is 0
-- rule: 6.13, 6.17
-- code: dsss_find
-- with: WhenNotTried
abbrev pub NotTried : Type 0
NotTried = (kind offsets : ℕ) (chips : List ℕ) (f : Found) → Finds kind offsets chips f → WhenNotTried kind offsets f

-- a kind, and 1 to 4,096 offsets to try
pub record Tried (kind offsets : ℕ) : Type 0 where
  pub kind_is : kind < 2
  pub some : 1 ≤ offsets
  pub few : offsets ≤ 4096

-- ---- both readers meet one of 8 to 15 in a recording's front, whatever the full reader's room
pub record Meets (kind : ℕ) (chips : List ℕ) : Type 0 where
  pub front_meets : (c : Coming) → ReadFront kind chips c → (8 ≤ c.number) × (c.number ≤ 15)
  pub reader_meets : (room : ℕ) (a : Record) (left : List ℕ) → ReadHard kind chips room a left
      → (8 ≤ a.number) × (a.number ≤ 15) × ((front : ℕ) → FrontOf kind front → a.place < front)

-- ---- neither does: the header-only reader tells the rate, LENGTH, clock bit and n, or that the recording ends in the
-- payload
pub data FrontTells (front octet rate l clock n : ℕ) : Coming → Type 0 where
  front_told : FrontTells front octet rate l clock n (told_coming rate l clock n front (octet * n))
  front_cut : FrontTells front octet rate l clock n (refused_coming 16 0 l)

-- the full reader tells them too, or refuses with 16 or 17, or with 9 or 10 in the payload, at 1 Mbit/s only the 10;
-- with this LENGTH
pub data ReaderTells (front octet rate l clock n : ℕ) : Record → Type 0 where
  reads_good : (lead symbol : ℕ)
      → ReaderTells front octet rate l clock n (good rate l n (front + octet * n) clock lead symbol)
  reads_16 : ReaderTells front octet rate l clock n (refused 16 l)
  reads_17 : ReaderTells front octet rate l clock n (refused 17 l)
  reads_9 : (place : ℕ) → front ≤ place → place < front + octet * n
      → ReaderTells front octet rate l clock n (refused_at 9 place l)
  reads_10 : (place : ℕ) → rate ≡ 10 → front ≤ place → place < front + octet * n
      → ReaderTells front octet rate l clock n (refused_at 10 place l)

-- ---- an answer with number 0: a rate of the kind, 1 to 4,095 octets and their LENGTH, a clock bit, and an offset
-- below the number asked for, with a front's chips behind it. From there both readers meet none of 8 to 15 and tell the
-- same; and where the recording ends in the payload, that front with a payload's chips behind it does. From every
-- smaller offset both readers meet one
pub record WhenFound (kind offsets : ℕ) (chips : List ℕ) (f : Found) : Type 0 where
  pub front : ℕ
  pub octet : ℕ
  pub tried : Tried kind offsets
  pub goes : Goes kind f.rate front octet
  pub some : 1 ≤ f.n
  pub few : f.n ≤ 4095
  pub length_is : LengthOf f.rate f.n f.length
  pub clock_is : f.clock < 2
  pub below : f.offset < offsets
  pub there : f.offset + front ≤ length chips
  pub front_tells : (c : Coming) → ReadFront kind (drop f.offset chips) c
      → FrontTells front octet f.rate f.length f.clock f.n c
  pub reader_tells : (room : ℕ) (a : Record) (left : List ℕ) → ReadHard kind (drop f.offset chips) room a left
      → ReaderTells front octet f.rate f.length f.clock f.n a
  pub with_payload : (tail : List ℕ) (c : Coming) → octet * f.n ≤ length tail
      → ReadFront kind (take front (drop f.offset chips) ++ tail) c
      → c ≡ told_coming f.rate f.length f.clock f.n front (octet * f.n)
  pub before : (o : ℕ) → o < f.offset → Meets kind (drop o chips)

-- promise: A start that is found has an offset below the number asked for, a front's chips behind it, a rate of the
-- kind, n from 1 to 4,095 and its LENGTH. From there the header-only reader and the full reader meet none of 8 to 15,
-- and tell the same rate, LENGTH, clock bit and n, or refuse with 16, 17 or a 9 or 10 in the payload with that LENGTH;
-- the same front with any payload's chips behind it is told of with just these. From every smaller offset both meet one
-- of 8 to 15
-- rule: 6.17
-- code: dsss_find, dsss_read_front, dsss_read_hard_3
-- with: WhenFound, FrontTells, ReaderTells, Meets
abbrev pub StartFound : Type 0
StartFound =
    (kind offsets : ℕ) (chips : List ℕ) (f : Found) → Finds kind offsets chips f → f.number ≡ 0
    → WhenFound kind offsets chips f

-- ---- 19 exactly where both readers meet one of 8 to 15 from every offset to try; and no other number is given
pub record WhenNone (kind offsets : ℕ) (chips : List ℕ) (f : Found) : Type 0 where
  pub only : f ≡ refused_found 19
  pub tried : Tried kind offsets
  pub all : (o : ℕ) → o < offsets → Meets kind (drop o chips)

-- promise: 19 exactly where both readers meet one of 8 to 15 from every offset to try; with a kind and 1 to 4,096
-- offsets no other refusal comes
-- rule: 6.17
-- code: dsss_find, dsss_read_front, dsss_read_hard_3
-- with: WhenNone
abbrev pub NoneFound : Type 0
NoneFound =
    ((kind offsets : ℕ) (chips : List ℕ) (f : Found) → Finds kind offsets chips f → f.number ≡ 19
    → WhenNone kind offsets chips f)
    × ((kind offsets : ℕ) (chips : List ℕ) (f : Found) → Finds kind offsets chips f → Tried kind offsets
    → ((o : ℕ) → o < offsets → Meets kind (drop o chips)) → f ≡ refused_found 19)
    × ((kind offsets : ℕ) (chips : List ℕ) (f : Found) → Finds kind offsets chips f → Tried kind offsets
    → (f.number ≡ 19 → ⊥) → f.number ≡ 0)

-- promise: A frame that was written is not missed, whatever stands before it, became of its payload's chips or follows:
-- a start is found where it starts or before, and if there, it is the frame's
-- rule: 6.17, 6.18, 9.3
-- code: dsss_write_2, dsss_find
abbrev pub SentFound : Type 0
SentFound =
    (kind rate phase clock : ℕ) (payload : List ℕ) (w : Written) (chips : List ℕ)
    (s : Sent kind rate phase clock payload w chips) (l : ℕ) → LengthOf rate (length payload) l
    → (before tail : List ℕ) (offsets : ℕ) (f : Found) → length before < offsets → offsets ≤ 4096
    → Finds kind offsets (before ++ (take s.sendable.front chips ++ tail)) f
    → (f.number ≡ 0) × (f.offset ≤ length before)
    × (f.offset ≡ length before → f ≡ start_found (length before) rate l (shown clock) (length payload))
