-- Laws of the report's text (RULES 6.20).
--     places_one, places_more                 how many digits a number has, and one has that ten times it does
--     length_decimal, decimal_most, decimal_least    a number's digits are so many, at most 20, and at least one
--     decimal_value, decimal_injective        below 10 ^ 20 the digits are those of the number, and of no other
--     decimal_digit, decimal_front            each is one of the octets 48 to 57, and there is no zero in front
--     spelled_whole, spelled_refused          what the call answers and leaves, with room for the text and without
--     rate_most, refused_most, airtime_most, lead_most, text_most    lines, and the text: 980 octets at most
-- Assumes nothing.
use mathlib.Core.Path.{◌≡◌, refl, sym, ap, ◌∙◌}
use mathlib.Core.List.{List, [], ◌∷◌, ◌++◌}
use Prim.Native.String.{String}
use Prim.Native.Nat.{ℕ, zero, suc, ◌+◌, ◌-◌, ◌*◌, ◌^◌, ◌/◌, ◌%◌, ◌≤◌, ◌<◌}
use native.Mathlib.Nat.{le_refl, pow-succ', not-suc-le-zero}
use native.Mathlib.Decide.{dec_lt}
use native.Mathlib.Omega.{arith}
use lib.Dec.{eqb, ltb, lit≤}
use lib.ListN.{length, get_or, replicate, length-append, get_or-append}
use lib.Seq.{get_or_at, take_all}
use borrow.Author.Tests.{lt-ltb, le-ltb}
use Rattle.base.proofs.Tests.{branch}
use Rattle.rules_report.specs.declared.Report.{Report}
use Rattle.rules_report.specs.Text.{
  word,
  digits,
  places,
  decimal,
  rate_line,
  refused_line,
  refused_lines,
  airtime_line,
  lead_line,
  text_of,
  spelled_of,
  text_left,
}
use Rattle.rules_report.specs.Said.{value_from, IsDigit}
use Rattle.rules_report.proofs.TextFacts.{code_digits}

-- ---- how many digits

pub places_one : (m n : ℕ) → n < 10 → places m n ≡ 1
unfolding places
places_one zero n h = refl
places_one (suc m) n h = rw (lt-ltb n 10 h)

pub places_more : (m n : ℕ) → 10 ≤ n → places (suc m) n ≡ suc (places m (n / 10))
unfolding places
places_more m n h = rw (le-ltb n 10 h)

places_most : (m n : ℕ) → places m n ≤ suc m
unfolding places
places_most zero n = lit≤ tt
places_most (suc m) n =
    branch (λ k. k ≤ suc (suc m)) (ltb n 10) 1 (suc (places m (n / 10))) (omega arith)
    (λ t. omega (arith, places_most m (n / 10)))

places_least : (m n : ℕ) → 1 ≤ places m n
unfolding places
places_least zero n = lit≤ tt
places_least (suc m) n =
    branch (λ k. 1 ≤ k) (ltb n 10) 1 (suc (places m (n / 10))) (lit≤ tt) (λ t. omega arith)

length_digits : (k n : ℕ) → length (digits k n) ≡ k
unfolding digits
length_digits zero n = refl
length_digits (suc k) n = rw (length-append, length_digits k (n / 10)) (omega arith)

pub length_decimal : (n : ℕ) → length (decimal n) ≡ places 19 n
unfolding decimal
length_decimal n = length_digits (places 19 n) n

pub decimal_most : (n : ℕ) → length (decimal n) ≤ 20
decimal_most n = rw (length_decimal n) (places_most 19 n)

pub decimal_least : (n : ℕ) → 1 ≤ length (decimal n)
decimal_least n = rw (length_decimal n) (places_least 19 n)

-- ---- what number the digits are of

value_more : (before d : ℕ) (ds : List ℕ) → value_from before (ds ++ (d ∷ []))
    ≡ 10 * value_from before ds + (d - 48)
unfolding value_from
value_more before d [] = refl
value_more before d (x ∷ ds) = value_more (10 * before + (x - 48)) d ds

digits_value : (k n : ℕ) → n < 10 ^ k → value_from 0 (digits k n) ≡ n
unfolding digits value_from
digits_value zero n h = omega arith
digits_value (suc k) n h =
    let more : 10 ^ suc k ≡ 10 * 10 ^ k = pow-succ' 10 k in
    let rest : value_from 0 (digits k (n / 10)) ≡ n / 10 = digits_value k (n / 10) (omega arith) in
    value_more 0 (48 + n % 10) (digits k (n / 10)) ∙ rw rest (omega arith)

places_enough : (m n : ℕ) → n < 10 ^ suc m → n < 10 ^ places m n
places_enough zero n h = unfold places in h
places_enough (suc m) n h =
    let more : 10 ^ suc (suc m) ≡ 10 * 10 ^ suc m = pow-succ' 10 (suc m) in
    by (dec_lt n 10) (places_enough m (n / 10) (omega arith))
  where
    by : Dec (n < 10) → n / 10 < 10 ^ places m (n / 10) → n < 10 ^ places (suc m) n
    by (yes p) rest = rw (places_one (suc m) n p) (omega arith)
    by (no q) rest = rw (places_more m n (omega arith), pow-succ' 10) (omega arith)

-- promise: A number's decimal digits give it back, are digits, and begin with no zero, for all of 64 bits; no two
-- numbers have the same
-- rule: 6.20
-- code: put_number
-- with: decimal_digit, decimal_front, decimal_injective
pub decimal_value : (n : ℕ) → n < 10 ^ 20 → value_from 0 (decimal n) ≡ n
unfolding decimal
decimal_value n h = digits_value (places 19 n) n (places_enough 19 n h)

pub decimal_injective : (n m : ℕ) → n < 10 ^ 20 → m < 10 ^ 20 → decimal n ≡ decimal m → n ≡ m
decimal_injective n m h k e = sym (decimal_value n h) ∙ ap (value_from 0) e ∙ decimal_value m k

-- ---- which octets they are

digits_digit : (k n i : ℕ) → i < k → IsDigit (get_or (digits k n) i 0)
unfolding digits
digits_digit zero n i h = absurd (not-suc-le-zero h)
digits_digit (suc k) n i h = by (dec_lt i k) (digits_digit k (n / 10) i)
  where
    by : Dec (i < k) → (i < k → IsDigit (get_or (digits k (n / 10)) i 0))
        → IsDigit (get_or (digits k (n / 10) ++ ((48 + n % 10) ∷ [])) i 0)
    by (yes p) rest =
        rw (get_or-append (digits k (n / 10)) ((48 + n % 10) ∷ []) 0 i (omega (arith, length_digits k (n / 10))))
        (rest p)
    by (no q) rest =
        rw (get_or_at (digits k (n / 10)) (48 + n % 10) [] 0 i (omega (arith, length_digits k (n / 10)))) (omega arith)

pub decimal_digit : (n i : ℕ) → i < length (decimal n) → IsDigit (get_or (decimal n) i 0)
unfolding decimal
decimal_digit n i h = digits_digit (places 19 n) n i (omega (arith, length_digits (places 19 n) n))

-- the first of some digits stays the first with one more behind them
digits_first : (k n : ℕ) → 1 ≤ k → get_or (digits (suc k) n) 0 0 ≡ get_or (digits k (n / 10)) 0 0
unfolding digits
digits_first k n h =
    get_or-append (digits k (n / 10)) ((48 + n % 10) ∷ []) 0 0 (omega (arith, length_digits k (n / 10)))

digits_front : (m n : ℕ) → 0 < n → n < 10 ^ suc m → 48 < get_or (digits (places m n) n) 0 0
unfolding digits places
digits_front zero n z h = omega arith
digits_front (suc m) n z h =
    let more : 10 ^ suc (suc m) ≡ 10 * 10 ^ suc m = pow-succ' 10 (suc m) in
    by (dec_lt n 10) (λ q. digits_front m (n / 10) (omega arith) (omega arith))
  where
    by : Dec (n < 10) → (10 ≤ n → 48 < get_or (digits (places m (n / 10)) (n / 10)) 0 0)
        → 48 < get_or (digits (places (suc m) n) n) 0 0
    by (yes p) rest = rw (places_one (suc m) n p) (omega arith)
    by (no q) rest =
        rw (places_more m n (omega arith), digits_first _ n (places_least m (n / 10))) (rest (omega arith))

pub decimal_front : (n : ℕ) → 0 < n → n < 10 ^ 20 → 48 < get_or (decimal n) 0 0
unfolding decimal
decimal_front n z h = digits_front 19 n z h

-- ---- what the call answers and leaves

pub spelled_whole : (p : Report) (room : ℕ) → length (text_of p) ≤ room
    → (spelled_of p room ≡ record { number = 0; octets = length (text_of p) })
    × (text_left p room ≡ text_of p ++ replicate (room - length (text_of p)) 0)
unfolding spelled_of text_left
spelled_whole p room h = (
  rw (le-ltb room (length (text_of p)) h),
  rw (le-ltb room (length (text_of p)) h, take_all (length (text_of p)) (text_of p) (le_refl _)),
)

pub spelled_refused : (p : Report) (room : ℕ) → room < length (text_of p)
    → (spelled_of p room ≡ record { number = 17; octets = 0 }) × (text_left p room ≡ replicate room 0)
unfolding spelled_of text_left
spelled_refused p room h =
    let all : room - 0 ≡ room = omega arith in
    (rw (lt-ltb room (length (text_of p)) h), rw (lt-ltb room (length (text_of p)) h, all))

-- ---- lines, and the text

-- a list of at most so many octets
record Most (k : ℕ) (l : List ℕ) : Type 0 where
  most : length l ≤ k

joined : {j k : ℕ} {a b : List ℕ} → Most j a → Most k b → Most (j + k) (a ++ b)
joined {j} {k} {a} {b} p q = record { most = rw length-append (omega (arith, p.most, q.most)) }

decimals : (n : ℕ) → Most 20 (decimal n)
decimals n = record { most = decimal_most n }

said : (s : String) → Most (length (word s)) (word s)
said s = record { most = le_refl _ }

rate_most : (rate frames octets k : ℕ) → length (decimal rate) ≡ k → Most (62 + k) (rate_line rate frames octets)
unfolding word
rate_most rate frames octets k e = record {
  most = simp length-append (omega (arith, decimal_most frames, decimal_most octets));
}

refused_most : (number count : ℕ) → Most (36 + length (decimal number)) (refused_line number count)
unfolding word
refused_most number count =
    branch (Most (36 + length (decimal number))) (eqb count 0) []
    (word "refused " ++ decimal number ++ word " count " ++ decimal count ++ word "\n")
    (record { most = omega arith }) (λ t. record { most = simp length-append (omega (arith, decimal_most count)) })

-- the longest that lines of refusals up to a number can be
lines_most : ℕ → ℕ
lines_most zero = 0
lines_most (suc m) = lines_most m + (36 + length (decimal (suc m)))

lines_most_lem : (m : ℕ) (refused : List ℕ) → Most (lines_most m) (refused_lines m refused)
unfolding refused_lines lines_most
lines_most_lem zero refused = record { most = lit≤ tt }
lines_most_lem (suc m) refused = joined (lines_most_lem m refused) (refused_most (suc m) (get_or refused (suc m) 0))

airtime_most : (airtime : ℕ) → Most 29 (airtime_line airtime)
unfolding word
airtime_most airtime = joined (joined (said "airtime ") (decimals airtime)) (said "\n")

lead_most : (some lead recording : ℕ) → Most 57 (lead_line some lead recording)
unfolding word
lead_most some lead recording =
    branch (Most 57) (eqb some 0) (word "lead none\n")
    (word "lead " ++ decimal lead ++ word " recording " ++ decimal recording ++ word "\n")
    (record { most = lit≤ tt })
    (λ t. joined (joined (joined (joined (said "lead ") (decimals lead)) (said " recording ")) (decimals recording))
    (said "\n"))

-- 64 three times, 65, 637, 29 and 57
pub text_most : (p : Report) → length (text_of p) ≤ 980
unfolding text_of lines_most decimal digits places
text_most p =
    let rates =
    joined
    (joined
    (joined (rate_most 10 (get_or p.frames 0 0) (get_or p.octets 0 0) 2 code_digits.0)
    (rate_most 20 (get_or p.frames 1 0) (get_or p.octets 1 0) 2 code_digits.1))
    (rate_most 55 (get_or p.frames 2 0) (get_or p.octets 2 0) 2 code_digits.2))
    (rate_most 110 (get_or p.frames 3 0) (get_or p.octets 3 0) 3 code_digits.3) in
    (joined (joined (joined rates (lines_most_lem 17 p.refused)) (airtime_most p.airtime))
    (lead_most p.some p.lead p.recording)).most
