-- Demand 3. Where each count of a symbol is at most so many steps from the exact value, a score is at most as many for
-- each chip from the exact score, and two scores are off by at most twice that together: the lead of a word that is
-- above that is a lead in the exact scores. Assumes nothing.
use mathlib.Core.Path.{◌≡◌, sym, ap, ◌∙◌, subst}
use mathlib.Core.List.{List, [], ◌∷◌}
use Prim.Native.Nat.{ℕ, zero, suc, ◌+◌, ◌*◌, ◌^◌, ◌<◌}
use native.Mathlib.Nat.{mul-add, mul_comm}
use native.Mathlib.Omega.{arith}
use lib.Dec.{T}
use lib.IntN.{pos, ◌+ℤ◌}
use lib.ListN.{length, get_or}
use lib.Signed.{◌≤ℤ◌}
use Rattle.rules_rates.specs.Rates.{symbol_chips}
use Rattle.rules_chips.specs.declared.Counts.{Counts}
use Rattle.rules_chips.specs.Chips.{nothing}
use Rattle.rules_chips.specs.Bounds.{Apart}
use Rattle.rules_symbols.specs.Words.{word_of}
use Rattle.rules_symbols.specs.Choice.{numbers, is_allowed, decided, lead_of}
use Rattle.rules_symbols.proofs.Words.{word_length}
use Rattle.rules_choosing.specs.Demand3.{exact_at, Demand3, LeadSays}
use Rattle.rules_choosing.specs.Scores.{score_at, DecidedAs}
use Rattle.rules_rates.specs.declared.Rate.{Rate}
use Rattle.rules_choosing.proofs.Decided.{decided_best}
use Rattle.rules_choosing.proofs.Leads.{lead_behind}
use Rattle.rules_choosing.proofs.Near.{
  Off,
  off_within,
  OffChip,
  OffAll,
  none,
  more,
  off_score,
  none_above,
  behind_exact,
  leader_chosen,
}

-- a count of 2^139 steps
abbrev count : ℕ
count = 2 ^ 139

off_chip : {half : ℕ} {c e : Counts} → Apart half c e → OffChip count half c e
off_chip a = record { real = off_within count _ _ a.real; imag = off_within count _ _ a.imag }

off_all : {half : ℕ} (m : ℕ) (counts exact : List Counts) → length counts ≡ m → length exact ≡ m
    → ((j : ℕ) → j < m → Apart half (get_or counts j nothing) (get_or exact j nothing)) → OffAll count half counts exact
off_all m [] [] d e a = none
off_all m [] (x ∷ exact) d e a = absurd (omega arith)
off_all m (c ∷ counts) [] d e a = absurd (omega arith)
off_all zero (c ∷ counts) (x ∷ exact) d e a = absurd (omega arith)
off_all (suc m) (c ∷ counts) (x ∷ exact) d e a =
    more (off_chip (a 0 (omega arith)))
    (off_all m counts exact (omega arith) (omega arith) (λ j h. a (suc j) (omega arith)))

-- an error for each chip, twice
twice : (h n : ℕ) → h * n + h * n ≡ n * (2 * h)
twice h n = (λ i. mul_comm h n i + mul_comm h n i) ∙ sym (mul-add n h h) ∙ ap (λ (x : ℕ). n * x) (omega arith)

-- each word's score
off_each : (half : ℕ) (r : Rate) (counts exact : List Counts) → length counts ≡ symbol_chips r
    → length exact ≡ symbol_chips r
    → ((j : ℕ) → j < symbol_chips r → Apart half (get_or counts j nothing) (get_or exact j nothing))
    → (n : ℕ) → Off count (half * symbol_chips r) (score_at r counts n) (exact_at r exact n)
off_each half r counts exact d e a n =
    subst (λ (l : ℕ). Off count (half * l) (score_at r counts n) (exact_at r exact n)) (word_length r n)
    (off_score count (word_of r n) (off_all (symbol_chips r) counts exact d e a))

-- promise: A lead above the error of the counts is a lead in the exact scores
-- rule: 1.4 (3), 3.9
pub lead_says : LeadSays
lead_says half r counts exact d e a above n h t ne =
    behind_exact count (half * symbol_chips r) (lead_of r counts)
    (score_at r counts n) (score_at r counts (decided r counts)) (exact_at r exact n) (exact_at r exact (decided r counts))
    (off_each half r counts exact d e a n) (off_each half r counts exact d e a (decided r counts))
    (lead_behind r counts n h t ne)
    (subst (λ (x : ℕ). x < lead_of r counts * count) (sym (twice half (symbol_chips r))) above)

pub demand_3 : Demand3
demand_3 half r counts exact d e a = record {
  among = best.among;
  allowed = best.allowed;
  none_above = above;
  leader_chosen = λ n h t lead.
      leader_chosen error (is_allowed r) (exact_at r exact) best.among best.allowed n (above n h t) lead;
}
  where
    error : ℕ
    error = symbol_chips r * (2 * half)

    best : DecidedAs r counts (decided r counts)
    best = decided_best r counts

    above : (n : ℕ) → n < numbers r → T (is_allowed r n)
        → exact_at r exact n ≤ℤ (exact_at r exact (decided r counts) +ℤ pos error)
    above n h t =
        subst (λ (x : ℕ). exact_at r exact n ≤ℤ (exact_at r exact (decided r counts) +ℤ pos x))
        (twice half (symbol_chips r))
        (none_above count (half * symbol_chips r) best (off_each half r counts exact d e a) n h t)
