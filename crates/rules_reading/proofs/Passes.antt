-- The passes of reading over lists that come in parts.
--     past_take                             the last n bits received
--     descramble_take                       only the last seven of them matter
--     growth_two                            a growth as two bits
--     odd_growth_append                      the first odd growth of two parts
--     decided_words_append                   the words of two parts of a recording
-- Assumes nothing.
use mathlib.Core.Path.{◌≡◌, refl, sym, ap, ◌∙◌}
use mathlib.Core.Bool.{Bool, true, false, cond}
use mathlib.Core.List.{List, [], ◌∷◌, ◌++◌}
use Rattle.std.specs.Prelude.{Some}
use Prim.Native.Nat.{ℕ, zero, suc, ◌+◌, ◌*◌, ◌/◌, ◌%◌, ◌≤◌, ◌<◌}
use native.Mathlib.Nat.{mul-suc, mul-zero, suc-add, zero-add, add-zero, add_comm}
use native.Mathlib.Omega.{arith}
use lib.ListN.{length, take, drop}
use lib.Seq.{take-take, drop-drop}
use lib.Dec.{eqb}
use Rattle.rules_rates.specs.declared.Rate.{Rate}
use Rattle.rules_rates.specs.declared.Rate.TheVariants.{One, Two, Five, Eleven}
use Rattle.rules_rates.specs.Rates.{symbol_chips}
use Rattle.rules_chips.specs.Chips.{Taken}
use Rattle.rules_bits.specs.Growths.{growth_bits}
use Rattle.rules_bits.specs.Scrambler.{descramble}
use Rattle.rules_bits.specs.Code.{past_after}
use Rattle.rules_bits.proofs.Scrambler.{descramble_window}
use Rattle.rules_reading.specs.Reading.{or_else, first_odd, odd_growth, decided_words}

-- ---- received bits

take_cons : (n x : ℕ) (p : List ℕ) → take n (x ∷ take n p) ≡ take n (x ∷ p)
take_cons zero x p = refl
take_cons (suc n) x p = ap (λ (l : List ℕ). x ∷ l) (take-take n (suc n) p (omega arith))

pub past_take : (n : ℕ) (p b : List ℕ) → take n (past_after (take n p) b) ≡ take n (past_after p b)
unfolding past_after
past_take n p [] = take-take n n p (omega arith)
past_take n p (x ∷ b) =
    sym (past_take n (x ∷ take n p) b)
    ∙ ap (λ (l : List ℕ). take n (past_after l b)) (take_cons n x p)
    ∙ past_take n (x ∷ p) b

-- ---- unscrambling

pub descramble_take : (j : ℕ) (p os : List ℕ) → 7 ≤ j → descramble (take j p) os ≡ descramble p os
descramble_take j p os h = descramble_window (take j p) p os (take-take 7 j p h)

-- ---- words to bits

-- a growth as two bits
pub growth_two : (g : ℕ) → g < 4 → growth_bits g ≡ g / 2 ∷ (g + 1) / 2 % 2 ∷ []
growth_two zero h = refl
growth_two (suc zero) h = refl
growth_two (suc (suc zero)) h = refl
growth_two (suc (suc (suc zero))) h = refl
growth_two (suc (suc (suc (suc g)))) h = absurd (omega arith)

-- ---- odd growths

first_odd_append : (at : ℕ) (a b : List ℕ) → first_odd at (a ++ b)
    ≡ or_else (first_odd at a) (λ place. Some place) (first_odd (at + 11 * length a) b)
unfolding first_odd
first_odd_append at [] b = rw (mul-zero, add-zero)
first_odd_append at (g ∷ a) b = by (eqb (g % 2) 1)
    (first_odd_append (at + 11) a b
    ∙ ap (λ (k : ℕ). or_else (first_odd (at + 11) a) (λ place. Some place) (first_odd k b))
    (omega (arith, mul-suc 11 (length a))))
  where
    by : (c : Bool) → first_odd (at + 11) (a ++ b)
        ≡ or_else (first_odd (at + 11) a) (λ place. Some place) (first_odd (at + 11 * suc (length a)) b)
        → cond c (Some at) (first_odd (at + 11) (a ++ b))
        ≡ or_else (cond c (Some at) (first_odd (at + 11) a)) (λ place. Some place)
        (first_odd (at + 11 * suc (length a)) b)
    by true e = refl
    by false e = e

pub odd_growth_append : (r : Rate) (at : ℕ) (a b : List ℕ)
    → odd_growth r at (a ++ b) ≡ or_else (odd_growth r at a) (λ place. Some place)
    (odd_growth r (at + symbol_chips r * length a) b)
odd_growth_append One at a b = first_odd_append at a b
odd_growth_append Two at a b = refl
odd_growth_append Five at a b = refl
odd_growth_append Eleven at a b = refl

-- ---- decided words

pub decided_words_append : (r : Rate) (m n : ℕ) (cs : List Taken)
    → decided_words r (m + n) cs ≡ decided_words r m cs ++ decided_words r n (drop (symbol_chips r * m) cs)
unfolding decided_words
decided_words_append r zero n cs = rw (zero-add, mul-zero)
decided_words_append r (suc m) n cs =
    rw (
      suc-add m n,
      decided_words_append r m n (drop (symbol_chips r) cs),
      drop-drop,
      mul-suc (symbol_chips r) m,
      add_comm
          (symbol_chips r * m) (symbol_chips r),
    )
