-- Demand 3 over a whole reading, once for every recorder (RULES 1.4 (3), 2.3 to 2.6): every word that the front and the
-- payload are read from is right up to twice what a count may be off, for each chip of its symbol. Soft counts are off
-- by at most half a count, which is 2^138 steps of 2^-149: 8/1024 in all, 11/1024 for Barker. Hard ones and those of
-- bytes are exact.
-- Definitions only. Assumes nothing.
use Rattle.std.specs.Prelude.{ℕ, ◌+◌, ◌*◌, ◌/◌, ◌^◌, ◌≤◌, ◌<◌, ◌≡◌, not, List, [], ◌∷◌, map, length, get_or, take, drop, T, ℤ, Float}
use Rattle.std.specs.Float.{nan}
use Rattle.rules_rates.specs.declared.Rate.{Rate}
use Rattle.rules_rates.specs.declared.Rate.TheVariants.{One}
use Rattle.rules_rates.specs.Rates.{symbol_chips, symbol_bits}
use Rattle.rules_chips.specs.declared.Counts.{Counts}
use Rattle.rules_chips.specs.declared.Chip.TheVariants.{Soft}
use Rattle.rules_chips.specs.Floats.{usable}
use Rattle.rules_chips.specs.Chips.{nothing, exact_of, Taken, unusable, is_unusable, taken_counts, hard_chip, byte_exact}
use Rattle.rules_chips.specs.Bounds.{Apart}
use Rattle.rules_choosing.specs.Demand3.{RightUpTo}
use Rattle.rules_frame.specs.declared.Kind.{Kind}
use Rattle.rules_frame.specs.Frame.{header_rate, front_chips, frame_chips, preamble_length, header_length, preamble_chips}
use Rattle.rules_reading.specs.Reading.{preamble_words, header_words, payload_words}
use Rattle.rules_clean.specs.Clean.{sample_of}
use Rattle.promises.specs.Calls.{Rows, in_hard, in_soft, in_bytes, taken_of}

-- the exact values of the chips of a symbol of a rate that starts at a place
abbrev pub exact_from : Rate → ℕ → List Counts → List Counts
exact_from q at exact = take (symbol_chips q) (drop at exact)

-- each of m words of a part that starts at place `at` is right
abbrev pub EachRight : ℕ → Rate → ℕ → ℕ → List ℕ → List Counts → Type 0
EachRight half r m at words exact =
    (j : ℕ) → j < m → RightUpTo (symbol_chips r * (2 * half)) r (exact_from r (at + j * symbol_chips r) exact)
    (get_or words j 0)

-- wherever the chips of a part are good ones, each word of the very lists that reading takes its growths and bits from
pub record WholeRight (half : ℕ) (good : ℕ → Type 0) (exact : List Counts) (rec : List Taken) : Type 0 where
  pub preamble : (k : Kind) → ((place : ℕ) → place < front_chips k → good place)
      → EachRight half One (preamble_length k) 0 (preamble_words k rec) exact
  pub header : (k : Kind) → ((place : ℕ) → place < front_chips k → good place)
      → EachRight half (header_rate k) (header_length / symbol_bits (header_rate k)) (preamble_chips k) (header_words k rec)
      exact
  pub payload : (k : Kind) (r : Rate) (n : ℕ)
      → ((place : ℕ) → front_chips k ≤ place → place < frame_chips k r n → good place)
      → EachRight half r (8 * n / symbol_bits r) (front_chips k) (payload_words k r n rec) exact

-- the exact values of recorded chips and what reading takes of them: the counts of a usable one are at most `half`
-- steps off
pub record Keeps (half : ℕ) (exact : List Counts) (rec : List Taken) : Type 0 where
  pub as_long : length exact ≡ length rec
  pub near : (place : ℕ) → T (not (is_unusable (get_or rec place unusable)))
      → Apart half (taken_counts (get_or rec place unusable)) (get_or exact place nothing)

-- promise: Demand 3 over a whole reading, for any recorder whose counts are off by at most so many steps, where the
-- chips are usable
-- rule: 1.4 (3), 3.8, 9.3
-- code: choose_recorders::decide
abbrev pub RecordedRight : Type 0
RecordedRight =
    (half : ℕ) (exact : List Counts) (rec : List Taken) → Keeps half exact rec
    → WholeRight half (λ place. T (not (is_unusable (get_or rec place unusable)))) exact rec

-- ---- the three recorders

-- the exact values of their rows
abbrev pub exact_hard : List ℕ → List Counts
exact_hard octets = map (λ x. exact_of (hard_chip x)) octets

unfoldable pub exact_soft : List Float → List Float → List Counts
exact_soft [] q = []
exact_soft (x ∷ i) [] = []
exact_soft (x ∷ i) (y ∷ q) = exact_of (Soft (sample_of x y)) ∷ exact_soft i q

unfoldable pub exact_bytes : List ℤ → List Counts
exact_bytes [] = []
exact_bytes (x ∷ []) = []
exact_bytes (x ∷ y ∷ bytes) = byte_exact x y ∷ exact_bytes bytes

abbrev pub exact_rows : Rows → List Counts
exact_rows (in_hard octets) = exact_hard octets
exact_rows (in_soft i q) = exact_soft i q
exact_rows (in_bytes bytes) = exact_bytes bytes

-- a chip is a good one where its octet is 0 to 4, where I and Q are usable, or where both its bytes are there
abbrev pub GoodAt : Rows → ℕ → Type 0
GoodAt (in_hard octets) place = get_or octets place 5 ≤ 4
GoodAt (in_soft i q) place = T (usable (get_or i place nan)) × T (usable (get_or q place nan))
GoodAt (in_bytes bytes) place = 2 * place + 1 < length bytes

-- how far its counts are off at most, in steps: half a count of soft rows; hard ones and bytes have no error at all
abbrev pub off_most : Rows → ℕ
off_most (in_hard octets) = 0
off_most (in_soft i q) = 2 ^ 138
off_most (in_bytes bytes) = 0

-- promise: Demand 3 of each recorder: hard rows with no error at all wherever the octets are 0 to 4, soft rows up to
-- 8/1024, 11/1024 for Barker, wherever I and Q are usable, signed bytes with no error at all wherever a chip has both
-- rule: 1.4 (3), 2.8
-- code: dsss_read_hard_3, dsss_read_soft_3, dsss_read_bytes_3
abbrev pub RowsRight : Type 0
RowsRight = (rows : Rows) → WholeRight (off_most rows) (GoodAt rows) (exact_rows rows) (taken_of rows)
