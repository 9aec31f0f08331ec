-- Deciding a symbol (RULES 3.5 to 3.9): each allowed word scores; the largest score wins, among equals the smallest
-- number, and its lead says how clearly. Scores are whole numbers of any sign; the same sums over exact values serve
-- demand 3.
-- Definitions only. Assumes nothing.
use Rattle.std.specs.Prelude.{ℕ, zero, suc, ◌%◌, Bool, true, cond, ◌&&◌, List, [], ◌∷◌, ◌++◌, get_or, eqb, ℤ, pos, neg_ℤ, nat_abs, ◌+ℤ◌, ◌-ℤ◌}
use Rattle.std.specs.Int.Signed.{lt_z}
use Rattle.rules_rates.specs.declared.Rate.{Rate}
use Rattle.rules_rates.specs.declared.Rate.TheVariants.{One, Two, Five, Eleven}
use Rattle.rules_chips.specs.declared.Counts.{Counts}
use Rattle.rules_symbols.specs.Words.{word_of, p2_of, p3_of, p4_of}

-- I, Q, -I or -Q, as the word's chip is 0, 1, 2 or 3
abbrev pub term : ℕ → Counts → ℤ
term p c = get_or (c.i ∷ c.q ∷ neg_ℤ c.i ∷ neg_ℤ c.q ∷ []) p (pos 0)

-- a word scores the sum over its chips
unfoldable pub score : List ℕ → List Counts → ℤ
score [] cs = pos 0
score (p ∷ w) [] = pos 0
score (p ∷ w) (c ∷ cs) = term p c +ℤ score w cs

-- how many numbers words have at a rate: 256 for CCK, 4 for Barker
abbrev pub numbers : Rate → ℕ
numbers One = 4
numbers Two = 4
numbers Five = 256
numbers Eleven = 256

-- allowed at 11 Mbit/s are all 256 words; at 5.5 those with p3 = 0, p2 odd, p4 even; for Barker the four phases
abbrev pub is_allowed : Rate → ℕ → Bool
is_allowed One n = true
is_allowed Two n = true
is_allowed Five n = eqb (p3_of n) 0 && eqb (p2_of n % 2) 1 && eqb (p4_of n % 2) 0
is_allowed Eleven n = true

-- the numbers below n that pass a test, rising
unfoldable pub those : (ℕ → Bool) → ℕ → List ℕ
those test zero = []
those test (suc n) = those test n ++ cond (test n) (n ∷ []) []

abbrev pub allowed : Rate → List ℕ
allowed r = those (is_allowed r) (numbers r)

-- the first of a list at which f is largest: a later one takes the place only of a smaller value
unfoldable pub going : (ℕ → ℤ) → ℕ → List ℕ → ℕ
going f best [] = best
going f best (n ∷ ns) = going f (cond (lt_z (f best) (f n)) n best) ns

unfoldable pub first_largest : (ℕ → ℤ) → List ℕ → ℕ
first_largest f [] = 0
first_largest f (n ∷ ns) = going f n ns

-- the number of the word that a symbol's counts are decided as
unfoldable pub decided : Rate → List Counts → ℕ
decided r cs = first_largest (λ n. score (word_of r n) cs) (allowed r)

-- the numbers of a list but one
unfoldable pub others : ℕ → List ℕ → List ℕ
others w [] = []
others w (n ∷ ns) = cond (eqb n w) (others w ns) (n ∷ others w ns)

-- the lead of the word decided: its score less the best score among the other allowed words, in counts; 0 at a tie.
-- No other scores more, so the difference is never below 0 (`lead_is` of rules_choosing)
unfoldable pub lead_of : Rate → List Counts → ℕ
lead_of r cs =
    let f : ℕ → ℤ = λ n. score (word_of r n) cs in
    nat_abs (f (decided r cs) -ℤ f (first_largest f (others (decided r cs) (allowed r))))
