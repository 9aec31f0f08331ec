-- What is promised of the call that reads as the guides of 1997 do (RULES 6.30), by itself, beside our own hard reader
-- under the long kind, and of the frames that our writer makes. Statements speak of answers that the contracts allow
-- (`Read1997`: Calls.antt, `ReadHard` and `Sent` of promises), so they are about the programs. The rates that such a
-- guide knows are a table in plain numbers (`Rate1997` of rules_calls); SIGNAL, SERVICE and LENGTH are what the symbols
-- of the recording say, bit by bit (`HasHeader` of promises).
-- Definitions only. Assumes nothing.
use Rattle.std.specs.Prelude.{ℕ, ◌-◌, ◌≤◌, ◌≡◌, true, List, ◌++◌, length, take, drop, replicate}
use Rattle.rules_rates.specs.Plain.{LengthOf}
use Rattle.rules_chips.specs.Chips.{Taken, hard_recording}
use Rattle.rules_calls.specs.declared.Written.{Written}
use Rattle.rules_calls.specs.declared.Record.{Record}
use Rattle.rules_calls.specs.Plain.{Rate1997}
use Rattle.promises.specs.Calls.{ReadHard, good, refused, Sent}
use Rattle.promises.specs.Reasons.{HasHeader, ReadAnswer, SameButLead}
use Rattle.promises_1997.specs.Calls.{Read1997}

-- promise: A refused read as a guide of 1997 leaves only zeros; zeros follow the payload; the buffer keeps its length;
-- a refusal is one of 8 to 17, so 1 and 7 do not come
-- rule: 6.30, 1.4 (1), 6.9, 6.12
-- code: dsss_read_1997
abbrev pub Fills1997 : Type 0
Fills1997 =
    (chips : List ℕ) (room : ℕ) (a : Record) (left : List ℕ) → Read1997 chips room a left
    → (length left ≡ room)
    × ((a.number ≡ 0 → ⊥) → (left ≡ replicate room 0) × (8 ≤ a.number) × (a.number ≤ 17))
    × (a.number ≡ 0 → drop a.n left ≡ replicate (room - a.n) 0)

-- what a guide answers, of a recording and room for so many octets; each case asks that none before it holds
pub data Answer1997 (rec : List Taken) (room : ℕ) : Record → Type 0 where
  -- 8, 9 and 10 over the front, 11 and 12, as a read under the long kind has them. They show no LENGTH; all others with
  -- a number up to 12, a payload's 9 and 10 and an accepted frame, do
  before_13 : {a : Record} → a.number ≤ 12 → a.length ≡ 0 → ReadAnswer 0 true rec room a → Answer1997 rec room a
  -- 13: SIGNAL is neither 10 nor 20; 14: SERVICE is not 0. Both with the header's LENGTH
  is_13 : {signal service l : ℕ} → HasHeader 0 true rec signal service l → (Rate1997 signal → ⊥)
      → Answer1997 rec room (refused 13 l)
  is_14 : {signal service l : ℕ} → HasHeader 0 true rec signal service l → Rate1997 signal → (service ≡ 0 → ⊥)
      → Answer1997 rec room (refused 14 l)
  -- and what comes from 15 on, as a read under the long kind has it
  from_15 : {a : Record} {signal l : ℕ} → HasHeader 0 true rec signal 0 l → Rate1997 signal
      → ReadAnswer 0 true rec room a → Answer1997 rec room a

-- promise: A guide of 1997 answers by the numbers, in their order, each exactly when its rule says so and none before
-- it holds: 13 where SIGNAL is neither 10 nor 20, 14 where SERVICE is not 0, both with the header's LENGTH and before
-- 15; number, place, LENGTH and all else but the lead in plain numbers
-- rule: 6.30, 6.2 to 6.8, 6.10
-- code: dsss_read_1997
-- with: Answer1997
abbrev pub Answers1997 : Type 0
Answers1997 =
    (chips : List ℕ) (room : ℕ) (a : Record) (left : List ℕ) → Read1997 chips room a left
    → ((b : Record) → Answer1997 (hard_recording chips) room b → SameButLead a b)
    × Answer1997 (hard_recording chips) room a

-- promise: Beside our own long read of the same recording: unless a guide answers 13 or 14, record and octets are ours,
-- so what it accepts we accept alike; where we refuse with 8 to 12 for the front, it does, alike; and the LENGTH shown
-- is ours always
-- rule: 6.30
-- code: dsss_read_1997, dsss_read_hard_3
abbrev pub BesideOurs : Type 0
BesideOurs =
    (chips : List ℕ) (room : ℕ) (a b : Record) (left kept : List ℕ)
    → Read1997 chips room a left → ReadHard 0 chips room b kept
    → ((a.number ≡ 13 → ⊥) → (a.number ≡ 14 → ⊥) → (a ≡ b) × (left ≡ kept))
    × (b.number ≤ 12 → b.length ≡ 0 → (a ≡ b) × (left ≡ kept))
    × (a.length ≡ b.length)

-- promise: What our own long reader accepts, spoiled or not: a guide of 1997 reads it alike at 10 and 20 without the
-- clock bit; at 10 and 20 with the clock bit it answers 14, at the other rates 13, each with the LENGTH and all else 0
-- rule: 6.30
-- code: dsss_read_1997, dsss_read_hard_3
abbrev pub AcceptedOurs : Type 0
AcceptedOurs =
    (chips : List ℕ) (room : ℕ) (a b : Record) (left kept : List ℕ)
    → Read1997 chips room a left → ReadHard 0 chips room b kept → b.number ≡ 0
    → (Rate1997 b.rate → b.clock ≡ 0 → (a ≡ b) × (left ≡ kept))
    × ((Rate1997 b.rate → ⊥) → a ≡ refused 13 b.length)
    × (Rate1997 b.rate → (b.clock ≡ 0 → ⊥) → a ≡ refused 14 b.length)

-- promise: Every long frame that our writer makes, whatever follows it: at 10 and 20 without the clock bit a guide of
-- 1997 with room gives payload, rate and LENGTH, the frame's chips and the lead of a clean frame; at 55 and 110, clock
-- bit or not, it answers 13, and at 10 and 20 with the clock bit 14, each with the true LENGTH and all else 0
-- rule: 6.30, 1.4 (2)
-- code: dsss_write_2, dsss_read_1997
abbrev pub Sent1997 : Type 0
Sent1997 =
    (rate phase clock : ℕ) (payload : List ℕ) (w : Written) (chips : List ℕ)
    → Sent 0 rate phase clock payload w chips → (l : ℕ) → LengthOf rate (length payload) l
    → (tail : List ℕ) (room : ℕ) (a : Record) (left : List ℕ) → Read1997 (take w.chips chips ++ tail) room a left
    → (Rate1997 rate → clock ≡ 0 → length payload ≤ room
    → (a ≡ good rate l (length payload) w.chips 0 11264 0)
    × (left ≡ payload ++ replicate (room - length payload) 0))
    × ((Rate1997 rate → ⊥) → a ≡ refused 13 l)
    × (Rate1997 rate → (clock ≡ 0 → ⊥) → a ≡ refused 14 l)

-- promise: A recording that begins with the front of a long frame that our writer made, whatever follows the front and
-- whatever the room: 13 and 14 as for the whole frame, and else just what our own long reader answers and leaves
-- rule: 6.30, 6.2
-- code: dsss_write_2, dsss_read_1997, dsss_read_hard_3
abbrev pub Begun1997 : Type 0
Begun1997 =
    (rate phase clock : ℕ) (payload : List ℕ) (w : Written) (chips : List ℕ)
    → Sent 0 rate phase clock payload w chips → (l : ℕ) → LengthOf rate (length payload) l
    → (tail : List ℕ) (room : ℕ) (a b : Record) (left kept : List ℕ)
    → Read1997 (take 2112 chips ++ tail) room a left → ReadHard 0 (take 2112 chips ++ tail) room b kept
    → (Rate1997 rate → clock ≡ 0 → (a ≡ b) × (left ≡ kept))
    × ((Rate1997 rate → ⊥) → a ≡ refused 13 l)
    × (Rate1997 rate → (clock ≡ 0 → ⊥) → a ≡ refused 14 l)

-- promise: The contract of the call that reads as the guides of 1997 do allows exactly one answer for each recording
-- and room, and one final buffer
-- rule: 9.2
-- code: dsss_read_1997
-- no test: a run shows one answer, not that no other is allowed
abbrev pub OneAnswer1997 : Type 0
OneAnswer1997 =
    (chips : List ℕ) (room : ℕ) (a b : Record) (left kept : List ℕ)
    → Read1997 chips room a left → Read1997 chips room b kept → (a ≡ b) × (left ≡ kept)

-- ---- all of it
pub record GuidesPromised : Type 0 where
  pub fills_1997 : Fills1997
  pub answers_1997 : Answers1997
  pub beside_ours : BesideOurs
  pub accepted_ours : AcceptedOurs
  pub sent_1997 : Sent1997
  pub begun_1997 : Begun1997
  pub one_answer_1997 : OneAnswer1997
