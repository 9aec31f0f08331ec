-- Laws of octets sent one after the other.
--     length_emit, length_run    how many chips they are
--     run_snoc, ran_snoc         one octet more
-- Assumes nothing.
use mathlib.Core.Path.{◌≡◌, refl, sym, ◌∙◌}
use mathlib.Core.List.{List, [], ◌∷◌, ◌++◌, append_assoc, append-nil}
use Prim.Native.Nat.{ℕ, suc, ◌+◌, ◌*◌}
use native.Mathlib.Nat.{mul-suc, mul-zero, add-zero}
use native.Mathlib.Omega.{arith}
use lib.ListN.{length, length-append}
use Rattle.rules_rates.specs.declared.Rate.{Rate}
use Rattle.rules_rates.specs.declared.Rate.TheVariants.{One, Two, Five, Eleven}
use Rattle.rules_rates.specs.Rates.{octet_chips}
use Rattle.rules_symbols.specs.Words.{barker_word, cck_word}
use Rattle.rules_bits.specs.Bits.{bits_of}
use Rattle.rules_bits.specs.Growths.{symbol_of, symbols_from, chips_from}
use Rattle.rules_bits.specs.Scrambler.{mixed, scramble}
use Rattle.write_octets.specs.Sending.{State, symbols_at, emit, step, run, ran}

pub length_emit : (r : Rate) (k : ℕ) (s : State) (x : ℕ) → length (emit r k s x) ≡ octet_chips r
unfolding emit symbols_at bits_of mixed scramble symbol_of symbols_from chips_from barker_word cck_word
length_emit One k s x = refl
length_emit Two k s x = refl
length_emit Five k s x = refl
length_emit Eleven k s x = refl

pub length_run : (r : Rate) (k : ℕ) (s : State) (xs : List ℕ) → length (run r k s xs) ≡ octet_chips r * length xs
unfolding run
length_run r k s [] = sym (mul-zero (octet_chips r))
length_run r k s (x ∷ xs) =
    length-append (emit r k s x) (run r (suc k) (step r k s x) xs)
    ∙ omega (arith, length_emit r k s x, length_run r (suc k) (step r k s x) xs, mul-suc (octet_chips r) (length xs))

pub run_snoc : (r : Rate) (k : ℕ) (s : State) (xs : List ℕ) (x : ℕ)
    → run r k s (xs ++ x ∷ []) ≡ run r k s xs ++ emit r (k + length xs) (ran r k s xs) x
unfolding run ran
run_snoc r k s [] x = rw add-zero (append-nil (emit r k s x))
run_snoc r k s (y ∷ xs) x =
    let n : suc k + length xs ≡ k + suc (length xs) = omega arith in
    rw (run_snoc r (suc k) (step r k s y) xs x, append_assoc, n)

pub ran_snoc : (r : Rate) (k : ℕ) (s : State) (xs : List ℕ) (x : ℕ)
    → ran r k s (xs ++ x ∷ []) ≡ step r (k + length xs) (ran r k s xs) x
unfolding ran
ran_snoc r k s [] x = rw add-zero
ran_snoc r k s (y ∷ xs) x =
    let n : suc k + length xs ≡ k + suc (length xs) = omega arith in
    ran_snoc r (suc k) (step r k s y) xs x ∙ rw n
