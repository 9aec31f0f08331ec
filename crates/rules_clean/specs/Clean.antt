-- Clean recordings: chips as they were sent, whatever recorded them; soft rows and bytes that hold them exactly; and
-- their smallest lead (RULES 1.4 (2), 2.3, 2.5, 2.8, 6.16). Definitions only. Assumes nothing.
use Rattle.std.specs.Prelude.{ℕ, ◌^◌, ◌≡◌, List, [], ◌∷◌, map, T, get_or, ℤ, Float}
use Rattle.std.specs.Float.{binary32}
use Rattle.std.specs.Float.Ieee.{of_bits}
use Rattle.rules_rates.specs.declared.Rate.{Rate}
use Rattle.rules_rates.specs.declared.Rate.TheVariants.{One, Two, Five, Eleven}
use Rattle.rules_chips.specs.declared.Sample.{Sample}
use Rattle.rules_chips.specs.declared.Chip.TheVariants.{Soft}
use Rattle.rules_chips.specs.Chips.{Taken, counted, full_chip, usable_sample, exact_of}
use Rattle.rules_frame.specs.declared.Kind.{Kind}
use Rattle.rules_frame.specs.Frame.{front_symbols}
use Rattle.rules_calls.specs.declared.Least.{Least}
use Rattle.rules_reading.specs.Leads.{lead_at}

-- a chip sent with phase p and recorded as a full chip at p
-- working notion: of the laws of clean frames
abbrev pub clean_taken : ℕ → Taken
clean_taken p = counted (full_chip 1024 p)

-- working notion: of the laws of clean frames
unfoldable pub clean_recording : List ℕ → List Taken
clean_recording chips = map clean_taken chips

abbrev pub sample_of : Float → Float → Sample
sample_of x y = record { i = x; q = y }

-- soft rows that hold chips as exact (I, Q) pairs; either zero stands for 0
pub data Exactly : List ℕ → List Float → List Float → Type 0 where
  none : Exactly [] [] []
  more : {p : ℕ} {ps : List ℕ} {x y : Float} {i q : List Float} → T (usable_sample (sample_of x y))
      → exact_of (Soft (sample_of x y)) ≡ full_chip (2 ^ 149) p → Exactly ps i q → Exactly (p ∷ ps) (x ∷ i) (y ∷ q)

-- the f32 numbers 1 and -1, and a zero by its bits, as I and as Q of a chip sent with phase p
abbrev pub soft_i : ℕ → ℕ → Float
soft_i z p = of_bits binary32 (get_or (0x3f80_0000 ∷ z ∷ 0xbf80_0000 ∷ z ∷ []) p z)

abbrev pub soft_q : ℕ → ℕ → Float
soft_q z p = of_bits binary32 (get_or (z ∷ 0x3f80_0000 ∷ z ∷ 0xbf80_0000 ∷ []) p z)

-- bytes that hold chips as 64, -64 and 0, I first
unfoldable pub byte_row : List ℕ → List ℤ
byte_row [] = []
byte_row (p ∷ ps) = (full_chip 64 p).i ∷ (full_chip 64 p).q ∷ byte_row ps

-- the smallest lead of a clean frame and the first symbol that has it: at 1 and 2 Mbit/s every symbol's is 11 full
-- chips; at 5.5 and 11 Mbit/s the payload's are smaller, 8 and 4 full chips, and the first of them is the first behind
-- the front's
-- working notion: of the laws of clean frames
abbrev pub clean_least : Kind → Rate → Least
clean_least k One = lead_at 11264 0
clean_least k Two = lead_at 11264 0
clean_least k Five = lead_at 8192 (front_symbols k)
clean_least k Eleven = lead_at 4096 (front_symbols k)
