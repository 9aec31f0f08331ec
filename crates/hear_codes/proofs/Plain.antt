-- Octets unscrambled one by one, each after the one before it.
--     plain_length, plain_at    how many, and each by the two received octets that it comes of
--     past_last                 the last octet received is the past of what comes next
--     plain_more                one octet more, stored behind the others
-- Assumes nothing.
use mathlib.Core.Path.{◌≡◌, refl, sym, ap, ap₂, ◌∙◌}
use mathlib.Core.List.{List, [], ◌∷◌, ◌++◌}
use Prim.Native.Nat.{ℕ, zero, suc, ◌+◌, ◌≤◌, ◌<◌}
use native.Mathlib.Omega.{arith}
use native.Mathlib.Nat.{le_of_suc-le-suc, not-suc-le-zero}
use native.Mathlib.Numerals.{add-one}
use lib.ListN.{length, get_or, take, drop, set}
use lib.Seq.{take_at, drop_at}
use Rattle.base.proofs.Tables.{length_tabulate, get_or_tabulate}
use Rattle.base.proofs.Over.{over_more}
use Rattle.rules_bits.specs.Bits.{bits_of, number_of, octet_bits, octets_of}
use Rattle.rules_bits.specs.Scrambler.{descramble}
use Rattle.rules_bits.specs.Code.{past_of, past_after}
use Rattle.rules_bits.proofs.Bits.{bits_length, octets_length}
use Rattle.rules_bits.proofs.Scrambler.{descramble_append, descramble_window, descramble_length, past_append}
use Rattle.hear_codes.specs.Codes.{behind, plain}
use Rattle.rules_reading.proofs.Passes.{past_take}

pub plain_length : (n q : ℕ) (xs : List ℕ) → length (plain n q xs) ≡ n
unfolding plain
plain_length n q xs = octets_length n _

-- after an octet's bits they alone are the past
past_octet : (h : List ℕ) (x : ℕ) → take 8 (past_after h (bits_of 8 x)) ≡ past_of x
unfolding bits_of past_after
past_octet h x = refl

window : (h : List ℕ) (x : ℕ) → take 7 (past_after h (bits_of 8 x)) ≡ take 7 (past_of x)
unfolding bits_of past_after
window h x = refl

octets_cons : (n : ℕ) (a b : List ℕ) → length a ≡ 8 → octets_of (suc n) (a ++ b) ≡ number_of a ∷ octets_of n b
unfolding octets_of
octets_cons n a b e = rw (take_at a b 8 e, drop_at a b 8 e)

pub plain_cons : (n q x : ℕ) (xs : List ℕ)
    → plain (suc n) q (x ∷ xs) ≡ number_of (descramble (past_of q) (bits_of 8 x)) ∷ plain n x xs
unfolding plain octet_bits
plain_cons n q x xs =
    let h = past_of q in
    ap (octets_of (suc n))
    (descramble_append h (bits_of 8 x) (octet_bits xs)
    ∙ ap (λ (l : List ℕ). descramble h (bits_of 8 x) ++ l)
    (descramble_window (past_after h (bits_of 8 x)) (past_of x) (octet_bits xs) (window h x)))
    ∙ octets_cons n (descramble h (bits_of 8 x)) _ (descramble_length h (bits_of 8 x) ∙ bits_length 8 x)

pub plain_at : (n q : ℕ) (xs : List ℕ) (i : ℕ) → n ≡ length xs → i < n
    → get_or (plain n q xs) i 0 ≡ number_of (descramble (past_of (get_or (q ∷ xs) i 0)) (bits_of 8 (get_or xs i 0)))
plain_at zero q xs i e h = absurd (not-suc-le-zero h)
plain_at (suc n) q [] i e h = absurd (omega arith)
plain_at (suc n) q (x ∷ xs) zero e h = ap (λ (l : List ℕ). get_or l 0 0) (plain_cons n q x xs)
plain_at (suc n) q (x ∷ xs) (suc i) e h =
    ap (λ (l : List ℕ). get_or l (suc i) 0) (plain_cons n q x xs)
    ∙ plain_at n x xs i (omega arith) (le_of_suc-le-suc h)

-- the last octet received is the past of what comes next
pub past_last : (q : ℕ) (xs : List ℕ)
    → take 8 (past_after (past_of q) (octet_bits xs)) ≡ past_of (get_or (q ∷ xs) (length xs) 0)
unfolding bits_of octet_bits past_after
past_last q [] = refl
past_last q (x ∷ xs) =
    ap (take 8) (past_append (past_of q) (bits_of 8 x) (octet_bits xs))
    ∙ sym (past_take 8 (past_after (past_of q) (bits_of 8 x)) (octet_bits xs))
    ∙ ap (λ (l : List ℕ). take 8 (past_after l (octet_bits xs))) (past_octet (past_of q) x)
    ∙ past_last x xs

-- octets that stand behind another in a row
pub from_first : (raw : List ℕ) (n i : ℕ) → i ≤ n → get_or (get_or raw 0 0 ∷ behind raw n) i 0 ≡ get_or raw i 0
from_first raw n zero h = refl
from_first raw n (suc i) h = get_or_tabulate (λ j. get_or raw (j + 1) 0) n i 0 h ∙ rw add-one refl

-- one octet more unscrambled and stored
pub plain_more : (raw d out : List ℕ) (n i v : ℕ) → out ≡ take i (plain n (get_or raw 0 0) (behind raw n)) ++ drop i d
    → i < n → n ≤ length d → v ≡ number_of (descramble (past_of (get_or raw i 0)) (bits_of 8 (get_or raw (i + 1) 0)))
    → set out i v ≡ take (i + 1) (plain n (get_or raw 0 0) (behind raw n)) ++ drop (i + 1) d
plain_more raw d out n i v e h l f =
    let w = plain n (get_or raw 0 0) (behind raw n) in
    let is : v ≡ get_or w i 0 =
    f
    ∙ ap₂ {C = ℕ} (λ a b. number_of (descramble (past_of a) (bits_of 8 b)))
    (sym (from_first raw n i (omega arith))) (sym (get_or_tabulate (λ j. get_or raw (j + 1) 0) n i 0 h))
    ∙ sym (plain_at n (get_or raw 0 0) (behind raw n) i (sym (length_tabulate _ n)) h) in
    ap (set out i) is ∙ over_more out w d i e (omega (arith, plain_length n (get_or raw 0 0) (behind raw n)))
    (omega arith)
