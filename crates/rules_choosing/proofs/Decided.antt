-- What `decided` is, at every rate: the one allowed number whose word no allowed word outscores and each smaller one
-- falls short of. So a word that outscores every other is the one decided.
-- Assumes nothing.
use mathlib.Core.Path.{◌≡◌, refl}
use mathlib.Core.Bool.{Bool}
use mathlib.Core.List.{List}
use Prim.Native.Nat.{ℕ, ◌<◌}
use native.Mathlib.Decide.{dec_lt}
use native.Mathlib.Omega.{arith}
use lib.Dec.{T, lit<}
use lib.ListN.{length}
use lib.IntN.{ℤ}
use lib.Signed.{◌≤ℤ◌, ◌<ℤ◌, ≤ℤ_refl}
use Rattle.base.proofs.Whole.{le_of, of_lt}
use Rattle.rules_rates.specs.declared.Rate.{Rate}
use Rattle.rules_rates.specs.declared.Rate.TheVariants.{One, Two, Five, Eleven}
use Rattle.rules_chips.specs.declared.Counts.{Counts}
use Rattle.rules_symbols.specs.Choice.{numbers, is_allowed, allowed, decided}
use Rattle.rules_choosing.specs.Scores.{score_at, BestOf, DecidedAs}
use Rattle.rules_choosing.proofs.Best.{first_best, some_of, best_unique}

-- at every rate some word is allowed
some_allowed : (r : Rate) → 0 < length (allowed r)
some_allowed One = some_of (is_allowed One) 4 0 (lit< tt) tt
some_allowed Two = some_of (is_allowed Two) 4 0 (lit< tt) tt
some_allowed Five = some_of (is_allowed Five) 256 16 (lit< tt) tt
some_allowed Eleven = some_of (is_allowed Eleven) 256 0 (lit< tt) tt

-- promise: The chosen word is allowed, none scores more, each smaller allowed number scores less; any two such are
-- equal
-- rule: 3.6
-- with: best_unique
pub decided_best : (r : Rate) (cs : List Counts) → DecidedAs r cs (decided r cs)
unfolding decided
decided_best r cs = first_best (is_allowed r) (score_at r cs) (numbers r) (some_allowed r)

-- whatever is best is the one decided
pub decided_is : (r : Rate) (cs : List Counts) (n : ℕ) → DecidedAs r cs n → decided r cs ≡ n
decided_is r cs n b = best_unique (decided_best r cs) b

pub decided_below : (r : Rate) (cs : List Counts) → decided r cs < numbers r
decided_below r cs = (decided_best r cs).among

-- at 1 and 2 Mbit/s the same
pub decided_barker : (cs : List Counts) → decided Two cs ≡ decided One cs
unfolding decided
decided_barker cs = refl

-- a number that leads every other is the best
pub leads_best : {ok : ℕ → Bool} {n : ℕ} {f : ℕ → ℤ} {r : ℕ} → r < n → T (ok r)
    → ((m : ℕ) → m < n → T (ok m) → (m ≡ r → ⊥) → f m <ℤ f r) → BestOf ok n f r
leads_best {ok} {n} {f} {r} h a lead = record {
  among = h;
  allowed = a;
  top = top;
  first = λ m k b. lead m
      (omega arith) b (λ e. absurd (omega arith));
}
  where
    le : (m : ℕ) → f m <ℤ f r → f m ≤ℤ f r
    le m k = le_of (f m) (f r) (omega (arith, of_lt (f m) (f r) k))

    top : (m : ℕ) → m < n → T (ok m) → f m ≤ℤ f r
    top m k b = by (dec_lt m r) (dec_lt r m)
      where
        by : Dec (m < r) → Dec (r < m) → f m ≤ℤ f r
        by (yes p) q = le m (lead m k b (λ e. absurd (omega arith)))
        by (no p) (yes q) = le m (lead m k b (λ e. absurd (omega arith)))
        by (no p) (no q) = let e : m ≡ r = omega arith in rw e (≤ℤ_refl (f r))

pub decided_leads_lem : (r : Rate) (cs : List Counts) (n : ℕ) → n < numbers r → T (is_allowed r n)
    → ((m : ℕ) → m < numbers r → T (is_allowed r m) → (m ≡ n → ⊥) → score_at r cs m <ℤ score_at r cs n) → decided r cs ≡ n
decided_leads_lem r cs n h a lead = decided_is r cs n (leads_best h a lead)
