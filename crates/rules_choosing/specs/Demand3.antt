-- Demand 3: what deciding by counts does to the exact scores, one statement over the rate and over how far counts may
-- be from the exact values. The same sums as the scores, over exact values in steps of 2^-149; a count is 2^139 of
-- them, 1/1024 of a full chip. And what a lead says of the exact scores. RULES 1.4 (3), 3.8, 3.9. Definitions only.
-- Assumes nothing.
use Rattle.std.specs.Prelude.{ℕ, ◌*◌, ◌^◌, ◌<◌, ◌≡◌, List, length, get_or, T, ℤ, pos, ◌+ℤ◌, ◌≤ℤ◌, ◌<ℤ◌}
use Rattle.rules_rates.specs.declared.Rate.{Rate}
use Rattle.rules_rates.specs.Rates.{symbol_chips}
use Rattle.rules_chips.specs.declared.Counts.{Counts}
use Rattle.rules_chips.specs.Chips.{nothing}
use Rattle.rules_chips.specs.Bounds.{Apart}
use Rattle.rules_symbols.specs.Words.{word_of}
use Rattle.rules_symbols.specs.Choice.{score, numbers, is_allowed, decided, lead_of}

-- the exact score of the word with number n, over chips' exact values
abbrev pub exact_at : Rate → List Counts → ℕ → ℤ
exact_at r exact n = score (word_of r n) exact

-- The word with number `w` is right up to an error of so many steps: it is allowed; (a) no allowed word's exact score
-- is above its own by more; (b) an allowed word whose exact score is above that of every other allowed one by more is
-- it.
pub record RightUpTo (error : ℕ) (r : Rate) (exact : List Counts) (w : ℕ) : Type 0 where
  pub among : w < numbers r
  pub allowed : T (is_allowed r w)
  pub none_above : (n : ℕ) → n < numbers r → T (is_allowed r n)
      → exact_at r exact n ≤ℤ (exact_at r exact w +ℤ pos error)
  pub leader_chosen : (n : ℕ) → n < numbers r → T (is_allowed r n)
      → ((m : ℕ) → m < numbers r → T (is_allowed r m) → (m ≡ n → ⊥)
      → (exact_at r exact m +ℤ pos error) <ℤ exact_at r exact n)
      → w ≡ n

-- where the counts of a symbol are so, the word decided from them is right up to twice `half` for each chip: half a
-- count makes it 8/1024, or 11/1024 for Barker; no error of the counts leaves none
-- working notion: one symbol of `RecordedRight`
abbrev pub Demand3 : Type 0
Demand3 =
    (half : ℕ) (r : Rate) (counts exact : List Counts) → length counts ≡ symbol_chips r
    → length exact ≡ symbol_chips r
    → ((j : ℕ) → j < symbol_chips r → Apart half (get_or counts j nothing) (get_or exact j nothing))
    → RightUpTo (symbol_chips r * (2 * half)) r exact (decided r counts)

-- the word with number `w` leads in the exact numbers: every other allowed word's exact score is below its own
abbrev pub LeadsExactly : Rate → List Counts → ℕ → Type 0
LeadsExactly r exact w =
    (n : ℕ) → n < numbers r → T (is_allowed r n) → (n ≡ w → ⊥) → exact_at r exact n <ℤ exact_at r exact w

-- where the counts of a symbol are so, and its lead is above that error, the word decided does. From half a count the
-- lead must be above 8 counts, or 11 for Barker; with no error of the counts above 0
-- working notion: one symbol of `RowsSure`
abbrev pub LeadSays : Type 0
LeadSays =
    (half : ℕ) (r : Rate) (counts exact : List Counts) → length counts ≡ symbol_chips r
    → length exact ≡ symbol_chips r
    → ((j : ℕ) → j < symbol_chips r → Apart half (get_or counts j nothing) (get_or exact j nothing))
    → symbol_chips r * (2 * half) < lead_of r counts * 2 ^ 139
    → LeadsExactly r exact (decided r counts)
