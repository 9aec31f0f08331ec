-- What the calls of a store answer and leave, in plain numbers and by the places of a store's octets (RULES 6.24 to
-- 6.27): what it is to be, not how it is computed. proofs/ holds the definitions of Store.antt and Pieces.antt to it.
-- Definitions only. Assumes nothing.
use Rattle.std.specs.Prelude.{ℕ, zero, suc, ◌+◌, ◌*◌, ◌-◌, ◌≤◌, ◌<◌, ◌≡◌, List, [], ◌∷◌, ◌++◌, length, get_or, replicate}
use Rattle.rules_store.specs.declared.Settings.{Settings}

-- what a read shows: after a refusal nothing but its number; else number 0 and the three
abbrev pub only_number : ℕ → Settings
only_number number = record { number = number; kind = 0; rate = 0; phase = 0 }

abbrev pub all_three : ℕ → ℕ → ℕ → Settings
all_three kind rate phase = record { number = 0; kind = kind; rate = rate; phase = phase }

-- what refusals 1, 2, 3 and 5 allow: seven pairs of kind and rate code, each with the phases 0 to 3
pub data AllowedSettings : ℕ → ℕ → ℕ → Type 0 where
  long_1 : (phase : ℕ) → phase ≤ 3 → AllowedSettings 0 10 phase
  long_2 : (phase : ℕ) → phase ≤ 3 → AllowedSettings 0 20 phase
  long_5 : (phase : ℕ) → phase ≤ 3 → AllowedSettings 0 55 phase
  long_11 : (phase : ℕ) → phase ≤ 3 → AllowedSettings 0 110 phase
  short_2 : (phase : ℕ) → phase ≤ 3 → AllowedSettings 1 20 phase
  short_5 : (phase : ℕ) → phase ≤ 3 → AllowedSettings 1 55 phase
  short_11 : (phase : ℕ) → phase ≤ 3 → AllowedSettings 1 110 phase

-- the tag of the i-th entry, the offset of its body and its body's length
abbrev pub tag_at : List ℕ → ℕ → ℕ
tag_at octets i = get_or octets (2 + 4 * i) 0

abbrev pub offset_at : List ℕ → ℕ → ℕ
offset_at octets i = get_or octets (3 + 4 * i) 0 + 256 * get_or octets (4 + 4 * i) 0

abbrev pub size_at : List ℕ → ℕ → ℕ
size_at octets i = get_or octets (5 + 4 * i) 0

-- where the i-th body is to start: behind the table of n entries and the bodies before it; for i = n, where the store
-- is to end
unfoldable pub start_at : List ℕ → ℕ → ℕ → ℕ
start_at octets n zero = 2 + 4 * n
start_at octets n (suc i) = start_at octets n i + size_at octets i

module _ (octets : List ℕ) where
  abbrev n : ℕ
  n = get_or octets 1 0

  -- an entry has this tag, and the octet at its body's start is this value (0 past the end)
  pub record Holds (tag value : ℕ) : Type 0 where
    pub i : ℕ
    pub listed : i < n
    pub tag_is : tag_at octets i ≡ tag
    pub value_is : get_or octets (offset_at octets i) 0 ≡ value

  abbrev Lacks : ℕ → Type 0
  Lacks tag = (i : ℕ) → i < n → tag_at octets i ≡ tag → ⊥

  -- `Past k`, k from 21 to 27: the store is refused with none of 21 to k
  pub data Past : ℕ → Type 0 where
    past_21 : 2 ≤ length octets → 2 + 4 * n ≤ length octets → Past 21
    past_22 : Past 21 → n ≤ 16 → Past 22
    past_23 : Past 22 → ((i : ℕ) → suc i < n → tag_at octets i < tag_at octets (suc i)) → Past 23
    past_24 : Past 23 → ((i : ℕ) → i < n → offset_at octets i ≡ start_at octets n i)
        → start_at octets n n ≡ length octets → Past 24
    past_25 : Past 24 → ((i : ℕ) → i < n → tag_at octets i < 128) → Past 25
    past_26 : (a b c : ℕ) → Past 25 → Holds 1 a → Holds 2 b → Holds 3 c → Past 26
    past_27 : Past 26 → ((i : ℕ) → i < n → 1 ≤ tag_at octets i → tag_at octets i ≤ 3 → size_at octets i ≡ 1) → Past 27

  -- what a read answers, a row for each refusal and one for the settings
  pub data StoreTells : Settings → Type 0 where
    is_21 : length octets < 2 → StoreTells (only_number 21)
    is_21_table : length octets < 2 + 4 * n → StoreTells (only_number 21)
    is_22 : Past 21 → 16 < n → StoreTells (only_number 22)
    is_23 : Past 22 → (i : ℕ) → suc i < n → tag_at octets (suc i) ≤ tag_at octets i → StoreTells (only_number 23)
    is_24 : Past 23 → (i : ℕ) → i < n → (offset_at octets i ≡ start_at octets n i → ⊥) → StoreTells (only_number 24)
    is_24_end : Past 23 → (start_at octets n n ≡ length octets → ⊥) → StoreTells (only_number 24)
    is_25 : Past 24 → (i : ℕ) → i < n → 128 ≤ tag_at octets i → StoreTells (only_number 25)
    is_26 : Past 25 → (tag : ℕ) → 1 ≤ tag → tag ≤ 3 → Lacks tag → StoreTells (only_number 26)
    is_27 : Past 26 → (i : ℕ) → i < n → 1 ≤ tag_at octets i → tag_at octets i ≤ 3 → (size_at octets i ≡ 1 → ⊥)
        → StoreTells (only_number 27)
    is_28 : {kind rate phase : ℕ} → Past 27 → Holds 1 kind → Holds 2 rate → Holds 3 phase
        → (AllowedSettings kind rate phase → ⊥) → StoreTells (only_number 28)
    is_told : {kind rate phase : ℕ} → Past 27 → Holds 1 kind → Holds 2 rate → Holds 3 phase
        → AllowedSettings kind rate phase → StoreTells (all_three kind rate phase)

-- what a write answers, and what it leaves in room for so many octets
module _ (kind rate phase room : ℕ) where
  pub data Writes : ℕ → List ℕ → Type 0 where
    writes_28 : (AllowedSettings kind rate phase → ⊥) → Writes 28 (replicate room 0)
    writes_29 : AllowedSettings kind rate phase → room < 17 → Writes 29 (replicate room 0)
    writes_all : AllowedSettings kind rate phase → 17 ≤ room
        → Writes 0
        ((1 ∷ 3 ∷ 1 ∷ 14 ∷ 0 ∷ 1 ∷ 2 ∷ 15 ∷ 0 ∷ 1 ∷ 3 ∷ 16 ∷ 0 ∷ 1 ∷ kind ∷ rate ∷ phase ∷ [])
        ++ replicate (room - 17) 0)

-- the settings with the one of a tag changed
pub data Changed (value : ℕ) : ℕ → Settings → Settings → Type 0 where
  new_kind : (kind rate phase : ℕ) → Changed value 1 (all_three kind rate phase) (all_three value rate phase)
  new_rate : (kind rate phase : ℕ) → Changed value 2 (all_three kind rate phase) (all_three kind value phase)
  new_phase : (kind rate phase : ℕ) → Changed value 3 (all_three kind rate phase) (all_three kind rate value)

-- one octet at most is another
pub record OneOther (octets left : List ℕ) (place value : ℕ) : Type 0 where
  pub sized : length left ≡ length octets
  pub there : get_or left place 0 ≡ value
  pub elsewhere : (j : ℕ) → (j ≡ place → ⊥) → get_or left j 0 ≡ get_or octets j 0

-- what a change answers, and what it leaves
module _ (octets : List ℕ) (tag value : ℕ) where
  pub data Changes : ℕ → List ℕ → Type 0 where
    as_read : (number : ℕ) → StoreTells octets (only_number number) → (number ≡ 0 → ⊥) → Changes number octets
    changes_30 : {kind rate phase : ℕ} → StoreTells octets (all_three kind rate phase) → (1 ≤ tag → tag ≤ 3 → ⊥)
        → Changes 30 octets
    changes_28 : {s : Settings} {kind rate phase : ℕ} → StoreTells octets s
        → Changed value tag s (all_three kind rate phase) → (AllowedSettings kind rate phase → ⊥) → Changes 28 octets
    changes_one : {s : Settings} {kind rate phase : ℕ} {left : List ℕ} → StoreTells octets s
        → Changed value tag s (all_three kind rate phase) → AllowedSettings kind rate phase
        → (i : ℕ) → i < get_or octets 1 0 → tag_at octets i ≡ tag → OneOther octets left (offset_at octets i) value
        → Changes 0 left
