-- What is promised of the store's calls (RULES 6.24 to 6.27). Statements speak of answers that their contracts allow
-- (Calls.antt), so they are about the programs; hypotheses are plain numbers (Plain.antt of rules_store).
-- Definitions only. Assumes nothing.
use Rattle.std.specs.Prelude.{ℕ, ◌+◌, ◌*◌, ◌≤◌, ◌<◌, ◌≡◌, ◌⊎◌, length, get_or, take, drop}
use mathlib.Core.List.{List, map, Memᴰ}
use Rattle.base.specs.Below.{Below}
use Rattle.rules_calls.specs.declared.Written.{Written}
use Rattle.rules_store.specs.declared.Entry.{Entry}
use Rattle.rules_store.specs.declared.Settings.{Settings}
use Rattle.rules_store.specs.Store.{entries}
use Rattle.rules_store.specs.Pieces.{Piece, laid_out, Writable, Carries}
use Rattle.rules_store.specs.Plain.{only_number, all_three, AllowedSettings, StoreTells, Writes, Changed, Changes}
use Rattle.promises.specs.Calls.{Wrote, Goes}
use Rattle.promises_store.specs.Calls.{StoreWrites, StoreReads, StoreChanges}

-- promise: What a read answers in plain numbers, by the places of the store's octets: a row for each refusal, each over
-- the whole store before the next, and one for the settings; the rows allow no other answer
-- rule: 6.24, 6.25, 6.13
-- code: dsss_store_read
-- with: StoreTells
abbrev pub ReadTells : Type 0
ReadTells =
    (octets : List ℕ) (s : Settings) → StoreReads octets s
    → StoreTells octets s × ((t : Settings) → StoreTells octets t → t ≡ s)

-- promise: What a write answers and leaves in plain numbers: 28, 29, or 17 octets that are named one by one; nothing
-- else is allowed
-- rule: 6.24, 6.26, 6.13
-- code: dsss_store_write
-- with: Writes
abbrev pub WriteTells : Type 0
WriteTells =
    (kind rate phase room number : ℕ) (left : List ℕ) → StoreWrites kind rate phase room number left
    → Writes kind rate phase room number left
    × ((m : ℕ) (l : List ℕ) → Writes kind rate phase room m l → (m ≡ number) × (l ≡ left))

-- promise: The 17 octets written are read back as the three settings; with any of the zeros behind them they are 24
-- rule: 6.25, 6.26, 9.3
-- code: dsss_store_write, dsss_store_read
abbrev pub StoreReadBack : Type 0
StoreReadBack =
    (kind rate phase room number : ℕ) (left : List ℕ) → AllowedSettings kind rate phase → 17 ≤ room
    → StoreWrites kind rate phase room number left
    → ((s : Settings) → StoreReads (take 17 left) s → s ≡ all_three kind rate phase)
    × ((m : ℕ) (s : Settings) → 17 < m → m ≤ room → StoreReads (take m left) s → s ≡ only_number 24)

-- promise: What a change answers and leaves in plain numbers: as a read, 30, 28 for the settings as they would be, or
-- one octet; nothing else is allowed
-- rule: 6.27, 6.24
-- code: dsss_store_change
-- with: Changes
abbrev pub ChangeTells : Type 0
ChangeTells =
    (octets : List ℕ) (tag value number : ℕ) (left : List ℕ) → StoreChanges octets tag value number left
    → Changes octets tag value number left
    × ((m : ℕ) (l : List ℕ) → Changes octets tag value m l → (m ≡ number) × (l ≡ left))

-- promise: A good change is read back as the settings with that one changed, and a refused one leaves the store, by
-- whatever number
-- rule: 6.27, 9.3
-- code: dsss_store_change, dsss_store_read
abbrev pub ChangeTouches : Type 0
ChangeTouches =
    (octets : List ℕ) (tag value number : ℕ) (left : List ℕ) → StoreChanges octets tag value number left
    → ((number ≡ 0 → ⊥) → left ≡ octets)
    × (number ≡ 0 → (s t : Settings) → StoreReads octets s → StoreReads left t → Changed value tag s t)

-- promise: A store laid out from pieces is of octets, at most 4,146, and gives its version, every tag and every body
-- back
-- rule: 6.24, 6.25
-- no test: a run reads what newer writers lay out, and sees the three settings only
abbrev pub LaidBack : Type 0
LaidBack =
    (version : ℕ) (ps : List Piece) → version < 256 → Writable ps
    → Below 256 (laid_out version ps) × (length (laid_out version ps) ≤ 4146)
    × (map (λ (e : Entry). e.tag) (entries (laid_out version ps)) ≡ map (λ (p : Piece). p.tag) ps)
    × (map (λ (e : Entry). take e.size (drop e.offset (laid_out version ps))) (entries (laid_out version ps))
    ≡ map (λ (p : Piece). p.body) ps)
    × (get_or (laid_out version ps) 0 0 ≡ version)

-- promise: The old reader: whatever a newer writer lays out, of any version, is read as its three settings where every
-- other tag is below 128, and is refused with 25 where one is 128 or more
-- rule: 6.24, 6.25
-- code: dsss_store_read
-- with: Carries
abbrev pub OldReaders : Type 0
OldReaders =
    (version : ℕ) (ps : List Piece) → Writable ps → (s : Settings) → StoreReads (laid_out version ps) s
    → ((p : Piece) → Memᴰ p ps → 128 ≤ p.tag → s ≡ only_number 25)
    × ((kind rate phase : ℕ) → Carries kind rate phase ps
    → (((p : Piece) → Memᴰ p ps → p.tag < 128) → s ≡ all_three kind rate phase)
    × ((s ≡ all_three kind rate phase) ⊎ (s ≡ only_number 25)))

-- promise: A row that is longer than the longest store that can be laid out, 4,146 octets, is refused with 22, 23 or 24
-- rule: 6.25
-- code: dsss_store_read
abbrev pub StoreLargest : Type 0
StoreLargest =
    (octets : List ℕ) (s : Settings) → Below 256 octets → 4146 < length octets → StoreReads octets s
    → (s ≡ only_number 22) ⊎ ((s ≡ only_number 23) ⊎ (s ≡ only_number 24))

-- the refusals of a frame's write that are about kind, rate code and starting phase
pub data OfSettings : ℕ → Type 0 where
  of_kind : OfSettings 1
  of_rate : OfSettings 2
  of_both : OfSettings 3
  of_phase : OfSettings 5

-- a frame of n octets is written with the settings told, where the chip buffer holds it
pub record Served (s : Settings) (n room number : ℕ) : Type 0 where
  pub front : ℕ
  pub octet : ℕ
  pub goes : Goes s.kind s.rate front octet
  pub good : front + octet * n ≤ room → number ≡ 0

-- promise: A frame of 1 to 4,095 octets is written with the settings that a store tells, where the chip buffer holds
-- it; and 28 refuses just the three numbers that a write of such a frame refuses with 1, 2, 3 or 5
-- rule: 6.24, 6.26
-- code: dsss_store_read, dsss_store_write, dsss_write_2
-- with: Served, OfSettings
abbrev pub StoreServes : Type 0
StoreServes =
    (clock : ℕ) (payload : List ℕ) (room : ℕ) (w : Written) (chips : List ℕ)
    → 1 ≤ length payload → length payload ≤ 4095
    → ((octets : List ℕ) (s : Settings) → StoreReads octets s → s.number ≡ 0
    → Wrote s.kind s.rate s.phase clock payload room w chips → Served s (length payload) room w.number)
    × ((kind rate phase held number : ℕ) (left : List ℕ) → StoreWrites kind rate phase held number left
    → Wrote kind rate phase clock payload room w chips
    → (number ≡ 28 → OfSettings w.number) × (OfSettings w.number → number ≡ 28))

-- promise: The contract of each call of a store allows exactly one answer for each input, and one row of octets left
-- rule: 9.2
-- code: dsss_store_write, dsss_store_read, dsss_store_change
-- no test: a run shows one answer, not that no other is allowed
abbrev pub OneStore : Type 0
OneStore =
    ((kind rate phase room m n : ℕ) (k l : List ℕ) → StoreWrites kind rate phase room m k
    → StoreWrites kind rate phase room n l → (m ≡ n) × (k ≡ l))
    × ((octets : List ℕ) (s t : Settings) → StoreReads octets s → StoreReads octets t → s ≡ t)
    × ((octets : List ℕ) (tag value m n : ℕ) (k l : List ℕ) → StoreChanges octets tag value m k
    → StoreChanges octets tag value n l → (m ≡ n) × (k ≡ l))

-- ---- all of it
pub record StorePromised : Type 0 where
  pub read_tells : ReadTells
  pub write_tells : WriteTells
  pub store_read_back : StoreReadBack
  pub change_tells : ChangeTells
  pub change_touches : ChangeTouches
  pub laid_back : LaidBack
  pub old_readers : OldReaders
  pub store_largest : StoreLargest
  pub store_serves : StoreServes
  pub one_store : OneStore
