-- Nothing else is accepted: an answer with number 0 is given only where RULES 5.2, 5.8, 5.10 and 6.4 allow it, said in
-- plain numbers. A kind, a code, a length or a phase more that writer and reader agreed on would break this.
-- Definitions only. Assumes nothing.
use Rattle.std.specs.Prelude.{ℕ, ◌+◌, ◌*◌, ◌%◌, ◌≤◌, ◌<◌, ◌≡◌, Bool, true, List, length, ℤ}
use Rattle.base.specs.Below.{Below}
use Rattle.rules_rates.specs.Plain.{LengthOf}
use Rattle.rules_chips.specs.Chips.{Taken}
use Rattle.rules_calls.specs.declared.Written.{Written}
use Rattle.rules_calls.specs.declared.Record.{Record}
use Rattle.promises.specs.Calls.{
  Wrote,
  Read,
  ReadBytes,
  Rows,
  in_hard,
  in_soft,
  in_bytes,
  ReadRows,
  refused,
  Goes,
  Sent,
}

-- promise: Nothing else is accepted: a write that answers 0 had a kind and a rate that goes with it, 1 to 4,095 octets,
-- a phase below 4, and room for the frame
-- rule: 1.4 (1), 6.1
-- code: dsss_write_2
abbrev pub OnlySent : Type 0
OnlySent =
    (kind rate phase clock : ℕ) (payload : List ℕ) (room : ℕ) (w : Written) (left : List ℕ) → Below 256 payload
    → Wrote kind rate phase clock payload room w left → w.number ≡ 0 → Sent kind rate phase clock payload w left

-- what a read that answers 0 tells: a rate of its kind, 1 to 4,095 octets and their LENGTH, room for them, the chips of
-- a frame that the recording has, and a clock bit
pub record Readable (kind : ℕ) (chips room : ℕ) (a : Record) : Type 0 where
  pub front : ℕ
  pub octet : ℕ
  pub goes : Goes kind a.rate front octet
  pub some : 1 ≤ a.n
  pub few : a.n ≤ 4095
  pub length_is : LengthOf a.rate a.n a.length
  pub used_is : a.used ≡ front + octet * a.n
  pub there : a.used ≤ chips
  pub fits : a.n ≤ room
  pub clock_is : a.clock < 2

-- promise: Nothing else is read: number 0 tells a kind and a rate that goes with it, n from 1 to 4,095, its LENGTH and
-- chips, a clock bit of 0 or 1, and there was room
-- rule: 6.2, 6.10
-- code: dsss_read_hard_3, dsss_read_soft_3, dsss_read_bytes_3
-- with: Readable
abbrev pub OnlyReadable : Type 0
OnlyReadable =
    (kind : ℕ) (agree : Bool) (rec : List Taken) (room : ℕ) (a : Record) (left : List ℕ)
    → Read kind agree rec room a left → a.number ≡ 0 → (agree ≡ true) × Readable kind (length rec) room a

-- promise: A refused read shows no rate, no octets, no chips used, no clock bit, no lead and no symbol
-- rule: 6.8, 9.3
-- code: dsss_read_hard_3, dsss_read_soft_3, dsss_read_bytes_3
abbrev pub RefusedShows : Type 0
RefusedShows =
    (kind : ℕ) (agree : Bool) (rec : List Taken) (room : ℕ) (a : Record) (left : List ℕ)
    → Read kind agree rec room a left → (a.number ≡ 0 → ⊥)
    → (a.rate ≡ 0) × (a.n ≡ 0) × (a.used ≡ 0) × (a.clock ≡ 0) × (a.lead ≡ 0) × (a.symbol ≡ 0)

-- rows that agree: as many of Q as of I, two bytes for each chip; hard ones always do
abbrev pub Agree : Rows → Type 0
Agree (in_hard octets) = Unit {0}
Agree (in_soft i q) = length i ≡ length q
Agree (in_bytes bytes) = length bytes % 2 ≡ 0

-- promise: Soft rows that differ in length and an odd number of bytes are refused with 7 under either kind, whatever is
-- in them, and 7 is given nowhere else
-- rule: 2.8, 6.2, 6.4
-- code: dsss_read_hard_3, dsss_read_soft_3, dsss_read_bytes_3
abbrev pub RowsRefused : Type 0
RowsRefused =
    (kind : ℕ) (rows : Rows) (room : ℕ) (a : Record) (left : List ℕ) → ReadRows kind rows room a left
    → (kind < 2 → (Agree rows → ⊥) → a ≡ refused 7 0) × (a.number ≡ 7 → Agree rows → ⊥)

-- promise: No reading of bytes answers 9
-- rule: 2.8
-- code: dsss_read_bytes_3
abbrev pub NoByteUnusable : Type 0
NoByteUnusable =
    (kind : ℕ) (bytes : List ℤ) (room : ℕ) (a : Record) (left : List ℕ) → ReadBytes kind bytes room a left
    → a.number ≡ 9 → ⊥
