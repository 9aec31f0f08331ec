-- The CRC's register as a number: its bits, lowest first, are the terms, highest first.
--     stepped_none    one term more
--     at_once     an octet's bits, all at once
--     turned_bits the number of sixteen bits turned round
--     nots        the bits of a number's complement
-- Assumes nothing.
use Rattle.std.proofs.Common.{◌≡◌, ℕ, zero, suc, ◌+◌, ◌-◌, ◌*◌, ◌/◌, ◌%◌, ◌^◌, ◌<◌, List, [], ◌∷◌, ◌++◌, drop, replicate, refl, sym, ap, ap₂, ◌∙◌, arith}
use native.Mathlib.Nat.{pow-suc}
use lib.Bits.{bit_xor, xor_zero_r, xor_comm, xor_assoc}
use Rattle.std.specs.Int.{reverse_bits_onto}
use Rattle.std.proofs.lemmas.Nat.{xor_shr, xor_of_16}
use Rattle.std.proofs.lemmas.Nat.Bits.{bit_at_xor, bit_at_lowest}
use Rattle.rules_bits.specs.Bits.{◌⊕◌, bits_of, highest_first}
use Rattle.rules_bits.specs.Crc.{polynomial, add_where, crc_step, remainder, complement}
use Rattle.rules_bits.proofs.Bits.{bits_length}

unfoldable sums : List ℕ → List ℕ → List ℕ
sums [] bs = []
sums (a ∷ xs) [] = []
sums (a ∷ xs) (b ∷ bs) = (a ⊕ b) ∷ sums xs bs

lowest : (a b : ℕ) → bit_xor a b % 2 ≡ (a % 2) ⊕ (b % 2)
lowest a b = sym (bit_at_lowest (bit_xor a b)) ∙ bit_at_xor a b 0 ∙ ap₂ (λ x y. x ⊕ y) (bit_at_lowest a) (bit_at_lowest b)

bits_sum : (n a b : ℕ) → bits_of n (bit_xor a b) ≡ sums (bits_of n a) (bits_of n b)
unfolding bits_of sums
bits_sum zero a b = refl
bits_sum (suc n) a b =
    ap₂ {B = List ℕ} (λ x xs. x ∷ xs) (lowest a b) (ap (bits_of n) (xor_shr a b 1) ∙ bits_sum n (a / 2) (b / 2))

same : (x : ℕ) → (x % 2 + 0) % 2 ≡ x % 2
same x = omega arith

gone : (r : ℕ) → r < 65536 → r / 2 / 2 / 2 / 2 / 2 / 2 / 2 / 2 / 2 / 2 / 2 / 2 / 2 / 2 / 2 / 2 % 2 ≡ 0
gone r l = omega arith

-- the sum with the polynomial f times, of the register moved by one term
moved : (f r : ℕ) → f < 2 → r < 65536
    → sums (bits_of 16 (r / 2)) (bits_of 16 (f * 33800)) ≡ add_where f (drop 1 (bits_of 16 r) ++ (0 ∷ [])) polynomial
unfolding sums bits_of add_where
moved zero r h l = simp (same, gone r l)
moved (suc zero) r h l = simp (same, gone r l)
moved (suc (suc f)) r h l = absurd (omega arith)

stepped : (r b : ℕ) → r < 65536
    → bits_of 16 (bit_xor (r / 2) ((r % 2 + b % 2) % 2 * 33800)) ≡ crc_step (bits_of 16 r) b
unfolding crc_step bits_of
stepped r b l =
    bits_sum 16 (r / 2) ((r % 2 + b % 2) % 2 * 33800)
    ∙ moved ((r % 2 + b % 2) % 2) r (omega arith) l
    ∙ ap (λ (f : ℕ). add_where f (drop 1 (bits_of 16 r) ++ (0 ∷ [])) polynomial) (either r b)
  where
    either : (r b : ℕ) → (r % 2 + b % 2) % 2 ≡ (r % 2) ⊕ b
    either r b = omega arith

pub stepped_none : (r : ℕ) → r < 65536 → bits_of 16 (bit_xor (r / 2) (r % 2 * 33800)) ≡ crc_step (bits_of 16 r) 0
stepped_none r l = ap (λ (f : ℕ). bits_of 16 (bit_xor (r / 2) (f * 33800))) (alone r) ∙ stepped r 0 l
  where
    alone : (r : ℕ) → r % 2 ≡ (r % 2 + 0 % 2) % 2
    alone r = omega arith

-- the bits of x one by one, or all at once and then as many zeros
pub at_once : (n r x : ℕ) → r < 65536 → x < 65536 → x < 2 ^ n
    → remainder (bits_of 16 (bit_xor r x)) (replicate n 0) ≡ remainder (bits_of 16 r) (bits_of n x)
unfolding remainder bits_of
at_once zero r x l m h =
    let none : x ≡ 0 = omega arith in ap (bits_of 16) (ap (bit_xor r) none ∙ xor_zero_r r)
at_once (suc n) r x l m h =
    let k : x < 2 ^ n * 2 = rw pow-suc at h in
    let f : ℕ = (r % 2 + x % 2 % 2) % 2 in
    let next : ℕ = bit_xor (r / 2) (f * 33800) in
    let small : next < 65536 = xor_of_16 (r / 2) (f * 33800) (omega arith) (omega arith) in
    ap (λ (s : List ℕ). remainder s (replicate n 0))
    (sym (stepped_none (bit_xor r x) (xor_of_16 r x l m)) ∙ ap (bits_of 16) (both r x))
    ∙ at_once n next (x / 2) small (omega arith) (half x (2 ^ n) k)
    ∙ ap (λ (s : List ℕ). remainder s (bits_of n (x / 2))) (stepped r (x % 2) l)
  where
    half : (x p : ℕ) → x < p * 2 → x / 2 < p
    half x p h = omega arith

    twice : (x : ℕ) → x % 2 ≡ x % 2 % 2
    twice x = omega arith

    aside : (a b c : ℕ) → bit_xor (bit_xor a b) c ≡ bit_xor (bit_xor a c) b
    aside a b c = xor_assoc a b c ∙ ap (bit_xor a) (xor_comm b c) ∙ sym (xor_assoc a c b)

    both : (r x : ℕ)
        → bit_xor (bit_xor r x / 2) (bit_xor r x % 2 * 33800)
        ≡ bit_xor (bit_xor (r / 2) ((r % 2 + x % 2 % 2) % 2 * 33800)) (x / 2)
    both r x =
        ap₂ {C = ℕ} (λ (a f : ℕ). bit_xor a (f * 33800)) (xor_shr r x 1)
        (lowest r x ∙ ap (λ (b : ℕ). (r % 2 + b) % 2) (twice x))
        ∙ aside (r / 2) (x / 2) ((r % 2 + x % 2 % 2) % 2 * 33800)

pub turned_bits : (k n a : ℕ) → reverse_bits_onto k n a ≡ a * 2 ^ k + highest_first (bits_of k n)
unfolding reverse_bits_onto bits_of highest_first
turned_bits zero n a = omega arith
turned_bits (suc k) n a =
    turned_bits k (n / 2) (a * 2 + n % 2)
    ∙ rw (bits_length k (n / 2), pow-suc 2 k) (sum a (n % 2) (2 ^ k) (highest_first (bits_of k (n / 2))))
  where
    sum : (a b p h : ℕ) → (a * 2 + b) * p + h ≡ a * (p * 2) + (b * p + h)
    sum a b p h = omega arith

pub nots : (n r : ℕ) → r < 2 ^ n → bits_of n (2 ^ n - 1 - r) ≡ complement (bits_of n r)
unfolding bits_of
nots zero r h = refl
nots (suc n) r h =
    let l : r < 2 ^ n * 2 = rw pow-suc at h in
    rw (pow-suc 2 n)
    (ap₂ {B = List ℕ} (λ x xs. x ∷ xs) (low (2 ^ n) r l)
    (ap (bits_of n) (high (2 ^ n) r l) ∙ nots n (r / 2) (half (2 ^ n) r l)))
  where
    low : (p r : ℕ) → r < p * 2 → (p * 2 - 1 - r) % 2 ≡ (r % 2) ⊕ 1
    low p r h = omega arith

    high : (p r : ℕ) → r < p * 2 → (p * 2 - 1 - r) / 2 ≡ p - 1 - r / 2
    high p r h = omega arith

    half : (p r : ℕ) → r < p * 2 → r / 2 < p
    half p r h = omega arith
