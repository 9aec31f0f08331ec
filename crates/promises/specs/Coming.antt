-- What is coming, from the front only, and what the hard reader answers to the same recording (RULES 6.15). Each
-- statement speaks of answers that the contracts of both allow (`ReadFront`, `ReadHard`: Calls.antt), and of parts that
-- are handed back for such an answer (`Handed`).
-- Definitions only. Assumes nothing.
use Rattle.std.specs.Prelude.{ℕ, ◌+◌, ◌-◌, ◌*◌, ◌≤◌, ◌<◌, ◌≡◌, List, [], ◌++◌, length, take, drop}
use Rattle.rules_rates.specs.Plain.{LengthOf}
use Rattle.rules_calls.specs.declared.Written.{Written}
use Rattle.rules_calls.specs.declared.Record.{Record}
use Rattle.rules_coming.specs.declared.Coming.{Coming}
use Rattle.promises.specs.Calls.{ReadHard, ReadFront, Handed, good, refused_at, refused, shown, Goes, Sent}

-- an answer that refuses
abbrev pub refused_coming : ℕ → ℕ → ℕ → Coming
refused_coming number place l =
    record {
      number = number;
      place = place;
      rate = 0;
      length = l;
      clock = 0;
      n = 0;
      used = 0;
      at = 0;
      count = 0;
    }

-- and one that tells of n octets, their chips after the front
abbrev pub told_coming : ℕ → ℕ → ℕ → ℕ → ℕ → ℕ → Coming
told_coming rate l clock n front count =
    record {
      number = 0;
      place = 0;
      rate = rate;
      length = l;
      clock = clock;
      n = n;
      used = front + count;
      at = front;
      count = count;
    }

-- the chips of a kind's front, whatever rate goes with it
pub data FrontOf (kind front : ℕ) : Type 0 where
  front_at : {rate octet : ℕ} → Goes kind rate front octet → FrontOf kind front

-- ---- a refusal is 1 where the kind is none, and only there; else it is 8 to 16, and a place lies in the front. All
-- else is 0, and the part is empty
pub record WhenRefused (kind : ℕ) (chips : List ℕ) (c : Coming) : Type 0 where
  pub only : c ≡ refused_coming c.number c.place c.length
  pub no_kind : 2 ≤ kind → c ≡ refused_coming 1 0 0
  pub from_8 : (front : ℕ) → FrontOf kind front → 8 ≤ c.number
  pub to_16 : c.number ≤ 16
  pub in_front : (front : ℕ) → FrontOf kind front → c.place < front
  pub no_part : (part : List ℕ) → Handed c chips part → part ≡ []

-- promise: A front refuses with 1 where the kind is none, else with 8 to 16, a place in the front; all else is 0 and
-- the part is empty
-- rule: 6.13, 6.15
-- code: dsss_read_front, small_calls::part
-- with: WhenRefused
abbrev pub FrontRefused : Type 0
FrontRefused =
    (kind : ℕ) (chips : List ℕ) (c : Coming) → ReadFront kind chips c → (c.number ≡ 0 → ⊥) → WhenRefused kind chips c

-- promise: Each refusal of a read of the front is the full reader's answer to the same recording, whatever the room:
-- number, place, LENGTH
-- rule: 6.15
-- code: dsss_read_front, dsss_read_hard_3
abbrev pub RefusedAlike : Type 0
RefusedAlike =
    (kind : ℕ) (chips : List ℕ) (c : Coming) (room : ℕ) (a : Record) (left : List ℕ)
    → ReadFront kind chips c → ReadHard kind chips room a left → (c.number ≡ 0 → ⊥)
    → a ≡ refused_at c.number c.place c.length

-- ---- an answer with number 0 tells a rate of its kind, 1 to 4,095 octets and their LENGTH, a clock bit, and the chips
-- of a frame that the recording has; the part is the payload's chips
pub record WhenTold (kind : ℕ) (chips : List ℕ) (c : Coming) : Type 0 where
  pub front : ℕ
  pub octet : ℕ
  pub goes : Goes kind c.rate front octet
  pub some : 1 ≤ c.n
  pub few : c.n ≤ 4095
  pub clock_is : c.clock < 2
  pub length_is : LengthOf c.rate c.n c.length
  pub only : c ≡ told_coming c.rate c.length c.clock c.n front (octet * c.n)
  pub there : c.used ≤ length chips
  pub part_is : (part : List ℕ) → Handed c chips part → part ≡ take (c.used - front) (drop front chips)

-- promise: A front that is not refused tells a rate of its kind, n from 1 to 4,095, its LENGTH, a clock bit of 0 or 1,
-- and the chips of a frame that the recording has; the part is the payload's chips
-- rule: 6.15
-- code: dsss_read_front, small_calls::part
-- with: WhenTold
abbrev pub FrontTold : Type 0
FrontTold =
    (kind : ℕ) (chips : List ℕ) (c : Coming) → ReadFront kind chips c → c.number ≡ 0 → WhenTold kind chips c

-- the full reader, with room for n octets: good with the same rate, LENGTH, n, chips used and clock bit, and a lead
-- that the front does not tell, or a 9 or 10 in the payload with the same LENGTH, a 10 at 1 Mbit/s only
pub data ComesTo (c : Coming) : Record → Type 0 where
  comes_good : (lead symbol : ℕ) → ComesTo c (good c.rate c.length c.n c.used c.clock lead symbol)
  comes_9 : (place : ℕ) → c.at ≤ place → place < c.used → ComesTo c (refused_at 9 place c.length)
  comes_10 : (place : ℕ) → c.rate ≡ 10 → c.at ≤ place → place < c.used
      → ComesTo c (refused_at 10 place c.length)

-- promise: Where a front tells, the full reader with room for n is good with the same rate, LENGTH, n, chips used and
-- clock bit, and a lead that no front tells, or refuses with 9, or at 1 Mbit/s with 10, at a place in the part with the
-- same LENGTH; with less room 17 with the same LENGTH
-- rule: 6.15
-- code: dsss_read_front, dsss_read_hard_3
-- with: ComesTo
abbrev pub ToldAlike : Type 0
ToldAlike =
    (kind : ℕ) (chips : List ℕ) (c : Coming) (room : ℕ) (a : Record) (left : List ℕ)
    → ReadFront kind chips c → ReadHard kind chips room a left → c.number ≡ 0
    → (c.n ≤ room → ComesTo c a) × (room < c.n → a ≡ refused 17 c.length)

-- promise: The answer does not depend on any payload chip: recordings that agree in the front, and in being long
-- enough, get the same one; after a 16, one that is not longer
-- rule: 6.15
-- code: dsss_read_front
abbrev pub FrontOnly : Type 0
FrontOnly =
    (kind front : ℕ) (chips chips' : List ℕ) (c c' : Coming) → FrontOf kind front
    → take front chips ≡ take front chips' → ReadFront kind chips c → ReadFront kind chips' c'
    → (c.number ≡ 0 → c.used ≤ length chips' → c' ≡ c)
    × ((c.number ≡ 0 → ⊥) → (c.number ≡ 16 → length chips' ≤ length chips) → c' ≡ c)

-- promise: A frame that was written is told of by its front, whatever became of its payload's chips; cut in the
-- payload, 16 with LENGTH
-- rule: 6.15, 9.3
-- code: dsss_write_2, dsss_read_front, small_calls::part
abbrev pub SentTold : Type 0
SentTold =
    (kind rate phase clock : ℕ) (payload : List ℕ) (w : Written) (chips : List ℕ)
    (s : Sent kind rate phase clock payload w chips) (l : ℕ) → LengthOf rate (length payload) l
    → (tail : List ℕ) (c : Coming) → ReadFront kind (take s.sendable.front chips ++ tail) c
    → (s.sendable.octet * length payload ≤ length tail
    → (c
    ≡ told_coming rate l (shown clock) (length payload) s.sendable.front (s.sendable.octet * length payload))
    × ((part : List ℕ) → Handed c (take s.sendable.front chips ++ tail) part
    → part ≡ take (s.sendable.octet * length payload) tail))
    × (length tail < s.sendable.octet * length payload → c ≡ refused_coming 16 0 l)

-- promise: A part, for any record and any recording: those chips, or none where the recording does not have them
-- rule: 6.15
-- code: small_calls::part
abbrev pub HandedPart : Type 0
HandedPart =
    (c : Coming) (chips part : List ℕ) → Handed c chips part
    → (c.at + c.count ≤ length chips → part ≡ take c.count (drop c.at chips))
    × (length chips < c.at + c.count → part ≡ [])
