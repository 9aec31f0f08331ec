-- A write refuses by the numbers 1 to 6, in their order, and then tells no chips (RULES 1.4 (1), 6.1, 6.4, 6.11): which
-- answer it gives, for every input and in plain numbers.
-- Definitions only. Assumes nothing.
use Rattle.std.specs.Prelude.{ℕ, ◌+◌, ◌*◌, ◌≤◌, ◌<◌, ◌≡◌, List, length}
use Rattle.rules_calls.specs.declared.Written.{Written}
use Rattle.promises.specs.Calls.{Wrote, Goes}

-- the number and the chips that a write answers, by kind, rate code, starting phase, octets and room; each asks that
-- none before it holds
pub data WriteAnswer (kind rate phase n room : ℕ) : ℕ → ℕ → Type 0 where
  -- 1: kind is neither 0 nor 1
  no_kind : 2 ≤ kind → WriteAnswer kind rate phase n room 1 0
  -- 2: rate code is not one of the four
  no_rate : kind < 2 → (rate ≡ 10 → ⊥) → (rate ≡ 20 → ⊥) → (rate ≡ 55 → ⊥) → (rate ≡ 110 → ⊥)
      → WriteAnswer kind rate phase n room 2 0
  -- 3: rate code 10 with the short kind
  short_at_1 : kind ≡ 1 → rate ≡ 10 → WriteAnswer kind rate phase n room 3 0
  -- 4: payload is 0 octets or above 4,095
  no_octets : {front octet : ℕ} → Goes kind rate front octet → n ≡ 0 → WriteAnswer kind rate phase n room 4 0
  many_octets : {front octet : ℕ} → Goes kind rate front octet → 4095 < n → WriteAnswer kind rate phase n room 4 0
  -- 5: starting phase above 3
  no_phase : {front octet : ℕ} → Goes kind rate front octet → 1 ≤ n → n ≤ 4095 → 3 < phase
      → WriteAnswer kind rate phase n room 5 0
  -- 6: chip buffer shorter than the frame
  no_room : {front octet : ℕ} → Goes kind rate front octet → 1 ≤ n → n ≤ 4095 → phase ≤ 3
      → room < front + octet * n → WriteAnswer kind rate phase n room 6 0
  -- else 0, and the frame's chips
  is_written : {front octet : ℕ} → Goes kind rate front octet → 1 ≤ n → n ≤ 4095 → phase ≤ 3
      → front + octet * n ≤ room → WriteAnswer kind rate phase n room 0 (front + octet * n)

-- promise: A write refuses with 1 to 6, each exactly when its rule says so and none before it holds, and tells no
-- chips; else it answers 0 and the frame's chips
-- rule: 1.4 (1), 6.1, 6.4, 6.11
-- code: dsss_write_2
-- with: WriteAnswer
abbrev pub WriteAnswers : Type 0
WriteAnswers =
    (kind rate phase clock : ℕ) (payload : List ℕ) (room : ℕ) (w : Written) (left : List ℕ)
    → Wrote kind rate phase clock payload room w left
    → ((number chips : ℕ) → WriteAnswer kind rate phase (length payload) room number chips
    → w ≡ record { number = number; chips = chips })
    × WriteAnswer kind rate phase (length payload) room w.number w.chips
