-- The bits of one word as a number, and numbers of b bits packed into one.
--     half_turned_lem, grown_parity                a growth as the code takes it off, which goes by a number modulo 2
--     word_bits_lem                                a word's bits, by growth and number
--     two_number, four_number, eight_number    the sums that the code makes of them
--     room_2, room_4, room_6, code_small       they fit
--     one_from, two_from, four_from, eight_from    the octet of the first symbols of a row
--     octet_room, count_fits                   an octet's symbols are within a block's, and its octets at most 64
-- Assumes nothing.
use mathlib.Core.Path.{◌≡◌, refl, sym, ap, ◌∙◌}
use mathlib.Core.List.{List, [], ◌∷◌, ◌++◌}
use Prim.Native.Nat.{ℕ, zero, suc, ◌+◌, ◌*◌, ◌/◌, ◌%◌, ◌-◌, ◌^◌, ◌≤◌, ◌<◌}
use native.Mathlib.Nat.{zero-add}
use native.Mathlib.Numerals.{add-one}
use native.Mathlib.Omega.{arith}
use lib.ListN.{length, get_or, take, drop}
use lib.Seq.{drop-cons}
use Rattle.base.proofs.Lists.{run_room}
use Rattle.rules_rates.specs.declared.Rate.{Rate}
use Rattle.rules_rates.specs.declared.Rate.TheVariants.{One, Two, Five, Eleven}
use Rattle.rules_rates.specs.Rates.{symbol_bits, octet_symbols}
use Rattle.rules_chips.specs.Chips.{turned}
use Rattle.rules_symbols.specs.Words.{phase_of, p2_of, p3_of, p4_of}
use Rattle.rules_bits.specs.Bits.{number_of}
use Rattle.rules_bits.specs.Growths.{growth_bits, direct_bits, half_turn, grown_by, heard_bits}
use Rattle.hear_codes.specs.Codes.{grown_for, word_bits, two_bits, four_bits, packed, BlockOf}
use Rattle.rules_reading.proofs.Passes.{growth_two}

pub word_bits_lem : (r : Rate) (k p n : ℕ) → heard_bits r k p n ≡ word_bits r (grown_for r k p (phase_of r n)) n
unfolding heard_bits
word_bits_lem One k p n = refl
word_bits_lem Two k p n = refl
word_bits_lem Five k p n = refl
word_bits_lem Eleven k p n = refl

-- the code's sum before the half turns are taken, and the growth
pub half_turned_lem : (f p q k : ℕ) → f < 2 → p < 4 → q < 4
    → (q + 4 + 2 * f - p + 2 * (k % 2)) % 4 ≡ grown_by (turned p (half_turn (f + k))) q
half_turned_lem zero p q k i h l = rw (zero-add k) (by (k % 2))
  where
    by : (x : ℕ) → (q + 4 + 0 - p + 2 * x) % 4 ≡ grown_by (turned p (2 * x)) q
    by x = omega arith
half_turned_lem (suc zero) p q k i h l = by (k % 2) ((1 + k) % 2) (omega arith)
  where
    -- either is odd, and the other even
    by : (x y : ℕ) → x + y ≡ 1 → (q + 4 + 2 - p + 2 * x) % 4 ≡ grown_by (turned p (2 * y)) q
    by zero y e = let z : y ≡ 1 = omega arith in rw z (omega arith)
    by (suc x) y e = let z : y ≡ 0 = omega arith in let w : x ≡ 0 = omega arith in rw (z, w) (omega arith)
half_turned_lem (suc (suc f)) p q k i h l = absurd (omega arith)

-- a symbol's number counts modulo 2
pub grown_parity : (r : Rate) (j k p q : ℕ) → j % 2 ≡ k % 2 → grown_for r j p q ≡ grown_for r k p q
grown_parity One j k p q e = refl
grown_parity Two j k p q e = refl
grown_parity Five j k p q e = rw e
grown_parity Eleven j k p q e = rw e

pub two_number : (g : ℕ) → g < 4 → two_bits g ≡ number_of (growth_bits g)
unfolding number_of
two_number g h = sym (ap number_of (growth_two g h) ∙ omega arith)

pub four_number : (g n : ℕ) → g < 4 → four_bits g n ≡ number_of (word_bits Five g n)
unfolding number_of
four_number g n h =
    sum (g / 2) ((g + 1) / 2 % 2) _ _
    ∙ ap number_of (λ i. g / 2 ∷ (g + 1) / 2 % 2 ∷ high n i ∷ low n i ∷ [])
    ∙ ap (λ (l : List ℕ). number_of (l ++ (p2_of n / 2 ∷ p4_of n / 2 ∷ []))) (sym (growth_two g h))
  where
    sum : (u v a b : ℕ) → u + 2 * v + 4 * a + 8 * b ≡ number_of (u ∷ v ∷ a ∷ b ∷ [])
    sum u v a b = omega arith

    high : (n : ℕ) → n / 32 % 2 ≡ n / 16 % 4 / 2
    high n = omega arith

    low : (n : ℕ) → n / 2 % 2 ≡ n % 4 / 2
    low n = omega arith

eight_sum : (t a b c d e f u v : ℕ) → t ≡ u + 2 * v
    → t + (4 * a + 8 * b) + (16 * c + 32 * d) + (64 * e + 128 * f)
    ≡ number_of (u ∷ v ∷ a ∷ b ∷ c ∷ d ∷ e ∷ f ∷ [])
unfolding number_of
eight_sum t a b c d e f u v h = omega arith

pub eight_number : (g n t : ℕ) → g < 4 → t ≡ two_bits g
    → t + (4 * (n / 32 % 2) + 8 * (n / 16 % 2)) + (16 * (n / 8 % 2) + 32 * (n / 4 % 2))
    + (64 * (n / 2 % 2) + 128 * (n % 2)) ≡ number_of (word_bits Eleven g n)
eight_number g n t h e =
    eight_sum t _ _ _ _ _ _ (g / 2) ((g + 1) / 2 % 2) e
    ∙ ap number_of (λ i. g / 2 ∷ (g + 1) / 2 % 2 ∷ at_2 n i ∷ at_3 n i ∷ at_4 n i ∷ at_5 n i ∷ at_6 n i ∷ at_7 n i ∷ [])
    ∙ ap (λ (l : List ℕ). number_of (l ++ (direct_bits (p2_of n) ++ (direct_bits (p3_of n) ++ direct_bits (p4_of n)))))
    (sym (growth_two g h))
  where
    at_2 : (n : ℕ) → n / 32 % 2 ≡ n / 16 % 4 / 2
    at_2 n = omega arith

    at_3 : (n : ℕ) → n / 16 % 2 ≡ n / 16 % 4 % 2
    at_3 n = omega arith

    at_4 : (n : ℕ) → n / 8 % 2 ≡ n / 4 % 4 / 2
    at_4 n = omega arith

    at_5 : (n : ℕ) → n / 4 % 2 ≡ n / 4 % 4 % 2
    at_5 n = omega arith

    at_6 : (n : ℕ) → n / 2 % 2 ≡ n % 4 / 2
    at_6 n = omega arith

    at_7 : (n : ℕ) → n % 2 ≡ n % 4 % 2
    at_7 n = omega arith

-- the sums of 11 Mbit/s stay below 256
pub room_2 : (t a b : ℕ) → t < 4 → t + (4 * (a % 2) + 8 * (b % 2)) < 256
room_2 t a b h = omega arith

pub room_4 : (t a b c d : ℕ) → t < 4 → t + (4 * (a % 2) + 8 * (b % 2)) + (16 * (c % 2) + 32 * (d % 2)) < 256
room_4 t a b c d h = omega arith

pub room_6 : (t a b c d e f : ℕ) → t < 4
    → t + (4 * (a % 2) + 8 * (b % 2)) + (16 * (c % 2) + 32 * (d % 2)) + (64 * (e % 2) + 128 * (f % 2)) < 256
room_6 t a b c d e f h = omega arith

-- a code has as many bits as the rate carries
pub code_small : (r : Rate) (g n : ℕ) → g < 4 → number_of (word_bits r g n) < 2 ^ symbol_bits r
unfolding number_of
code_small One g n h = omega arith
code_small Two g n h = rw (← two_number g h) (omega arith)
code_small Five g n h = rw (← four_number g n h) (by (two_bits g) (n / 32) (n / 2) (omega arith))
  where
    by : (t a b : ℕ) → t < 4 → t + 4 * (a % 2) + 8 * (b % 2) < 16
    by t a b h = omega arith
code_small Eleven g n h =
    rw (← eight_number g n (two_bits g) h refl)
    (room_6 (two_bits g) (n / 32) (n / 16) (n / 8) (n / 4) (n / 2) n (omega arith))

-- ---- the first symbols of a row, listed

pub next : (ws : List ℕ) (n i j : ℕ) {b : List ℕ} → i + 1 ≡ j → i < length ws → take n (drop j ws) ≡ b
    → take (suc n) (drop i ws) ≡ get_or ws i 0 ∷ b
next ws n i j e h f =
    rw (drop-cons ws i 0 h, ← add-one) (ap (λ (l : List ℕ). get_or ws i 0 ∷ l) (ap (λ (k : ℕ). take n (drop k ws)) e ∙ f))

pub one_from : (ws : List ℕ) (k : ℕ) → k + 1 ≤ length ws → get_or ws k 0 ≡ packed 8 (take 1 (drop k ws))
unfolding packed
one_from ws k h =
    add_zero (get_or ws k 0)
    ∙ ap (packed 8) (sym (next ws 0 k (k + 1) refl (omega arith) refl))
  where
    add_zero : (x : ℕ) → x ≡ x + 2 ^ 8 * 0
    add_zero x = omega arith

pub two_from : (ws : List ℕ) (k : ℕ) → k + 2 ≤ length ws → take 2 (drop k ws) ≡ get_or ws k 0 ∷ get_or ws (k + 1) 0 ∷ []
two_from ws k h = next ws 1 k (k + 1) refl (omega arith) (next ws 0 (k + 1) (k + 2) (omega arith) (omega arith) refl)

pub four_from : (ws : List ℕ) (k : ℕ) → k + 4 ≤ length ws
    → take 4 (drop k ws) ≡ get_or ws k 0 ∷ get_or ws (k + 1) 0 ∷ get_or ws (k + 2) 0 ∷ get_or ws (k + 3) 0 ∷ []
four_from ws k h =
    next ws 3 k (k + 1) refl (omega arith)
    (next ws 2 (k + 1) (k + 2) (omega arith) (omega arith)
    (next ws 1 (k + 2) (k + 3) (omega arith) (omega arith)
    (next ws 0 (k + 3) (k + 4) (omega arith) (omega arith) refl)))

pub eight_from : (ws : List ℕ) (k : ℕ) → k + 8 ≤ length ws
    → take 8 (drop k ws)
    ≡ get_or ws k 0 ∷ get_or ws (k + 1) 0 ∷ get_or ws (k + 2) 0 ∷ get_or ws (k + 3) 0 ∷ get_or ws (k + 4) 0 ∷ get_or ws (k + 5) 0
    ∷ get_or ws (k + 6) 0 ∷ get_or ws (k + 7) 0 ∷ []
eight_from ws k h =
    next ws 7 k (k + 1) refl (omega arith)
    (next ws 6 (k + 1) (k + 2) (omega arith) (omega arith)
    (next ws 5 (k + 2) (k + 3) (omega arith) (omega arith)
    (next ws 4 (k + 3) (k + 4) (omega arith) (omega arith)
    (next ws 3 (k + 4) (k + 5) (omega arith) (omega arith)
    (next ws 2 (k + 5) (k + 6) (omega arith) (omega arith)
    (next ws 1 (k + 6) (k + 7) (omega arith) (omega arith)
    (next ws 0 (k + 7) (k + 8) (omega arith) (omega arith) refl)))))))

-- an octet of a block has room where the block has
pub octet_room : (r : Rate) (o n m : ℕ) → o < n → octet_symbols r * n ≤ m → octet_symbols r * o + octet_symbols r ≤ m
octet_room r o n m h l = run_room (octet_symbols r) o n m h l

-- a block has at most 64 octets
pub count_fits : (r : Rate) (n : ℕ) → octet_symbols r * n ≤ 64 → n ≤ 64
count_fits One n h = omega arith
count_fits Two n h = omega arith
count_fits Five n h = omega arith
count_fits Eleven n h = omega arith

-- what the next block takes of the octets left
module _ (s left : ℕ) where
  pub block_rest : (r : Rate) → s ≡ octet_symbols r → left < 64 / s → BlockOf r left left
  block_rest r e h = record {
    within = omega arith;
    fits = by r (rw e at h);
    some = λ k. k;
    full =
        λ k. absurd (omega arith);
  }
    where
      by : (r : Rate) → left < 64 / octet_symbols r → octet_symbols r * left ≤ 64
      by One k = omega arith
      by Two k = omega arith
      by Five k = omega arith
      by Eleven k = omega arith

  pub block_whole : (r : Rate) → s ≡ octet_symbols r → 64 / s ≤ left → BlockOf r left (64 / s)
  block_whole r e h = rw e (by r (rw e at h))
    where
      by : (r : Rate) → 64 / octet_symbols r ≤ left → BlockOf r left (64 / octet_symbols r)
      by One k = record { within = k; fits = omega arith; some = λ k. omega arith; full = λ k. refl }
      by Two k = record { within = k; fits = omega arith; some = λ k. omega arith; full = λ k. refl }
      by Five k = record { within = k; fits = omega arith; some = λ k. omega arith; full = λ k. refl }
      by Eleven k = record { within = k; fits = omega arith; some = λ k. omega arith; full = λ k. refl }
