-- What the functions of the choice answer: tables of scores, and the place of the largest (RULES 3.5 to 3.7).
-- Definitions only. Assumes nothing.
use Rattle.std.specs.Prelude.{ℕ, ◌+◌, ◌*◌, ◌/◌, ◌%◌, ◌<◌, ◌≡◌, Bool, true, List, get_or, T, ℤ, pos, ◌+ℤ◌, ◌≤ℤ◌, ◌<ℤ◌}
use Rattle.base.specs.Whole.{Within}
use Rattle.rules_rates.specs.declared.Rate.{Rate}
use Rattle.rules_chips.specs.declared.Counts.{Counts}
use Rattle.rules_chips.specs.Chips.{nothing}
use Rattle.rules_chips.specs.Bounds.{Bounded}
use Rattle.rules_symbols.specs.Words.{word_of, cck_number}
use Rattle.rules_symbols.specs.Choice.{score, numbers, is_allowed, those, decided, lead_of}

-- counts that are all from -b to b
-- working notion: of the laws of sums
pub record AllBounded (b : ℕ) (cs : List Counts) : Type 0 where
  pub at : (k : ℕ) → Bounded b (get_or cs k nothing)

-- every number of a row is from -b to b
-- working notion: of the laws of sums
pub record RowWithin (b : ℕ) (t : List ℤ) : Type 0 where
  pub at : (j : ℕ) → Within b (get_or t j (pos 0))

-- the score of the word with number n
abbrev pub score_at : Rate → List Counts → ℕ → ℤ
score_at r cs n = score (word_of r n) cs

-- the numbers below n, rising
-- working notion: of the laws of the choice
abbrev pub up_to : ℕ → List ℕ
up_to n = those (λ j. true) n

-- the k-th of the sixteen numbers allowed at 5.5 Mbit/s: p3 = 0, p2 odd, p4 even
-- working notion: of the code
abbrev pub number5 : ℕ → ℕ
number5 k = cck_number (k / 4) (2 * (k / 2 % 2) + 1) 0 (2 * (k % 2))

-- the best of the numbers below n that a test allows: none has more, and each smaller one has less
-- working notion: of the laws of the choice
pub record BestOf (ok : ℕ → Bool) (n : ℕ) (f : ℕ → ℤ) (r : ℕ) : Type 0 where
  pub among : r < n
  pub allowed : T (ok r)
  pub top : (m : ℕ) → m < n → T (ok m) → f m ≤ℤ f r
  pub first : (m : ℕ) → m < r → T (ok m) → f m <ℤ f r

-- the number of the word that counts are to be decided as
-- working notion: of the laws of the choice
abbrev pub DecidedAs : Rate → List Counts → ℕ → Type 0
DecidedAs r cs n = BestOf (is_allowed r) (numbers r) (score_at r cs) n

-- m is another allowed number than r, and of the others none has more
-- working notion: of the laws of the lead
pub record NextTo (ok : ℕ → Bool) (n : ℕ) (f : ℕ → ℤ) (r m : ℕ) : Type 0 where
  pub among : m < n
  pub allowed : T (ok m)
  pub other : m ≡ r → ⊥
  pub top : (j : ℕ) → j < n → T (ok j) → (j ≡ r → ⊥) → f j ≤ℤ f m

-- the word next to the one decided
-- working notion: of the laws of the lead
abbrev pub NextAs : Rate → List Counts → ℕ → ℕ → Type 0
NextAs r cs n m = NextTo (is_allowed r) (numbers r) (score_at r cs) n m

-- the word with number w leads by so much: every other allowed word scores at least so much less, and one, `next`, just
-- so much
pub record LeadsBy (r : Rate) (cs : List Counts) (w lead : ℕ) : Type 0 where
  pub behind : (n : ℕ) → n < numbers r → T (is_allowed r n) → (n ≡ w → ⊥)
      → (score_at r cs n +ℤ pos lead) ≤ℤ score_at r cs w
  pub next : ℕ
  pub among : next < numbers r
  pub allowed : T (is_allowed r next)
  pub other : next ≡ w → ⊥
  pub by : score_at r cs next +ℤ pos lead ≡ score_at r cs w

-- n and t are the number of the word that counts are decided as, and its lead
-- working notion: of the contracts inside
abbrev pub ChosenAs : Rate → List Counts → ℕ → ℕ → Type 0
ChosenAs r cs n t = (n ≡ decided r cs) × (t ≡ lead_of r cs)
