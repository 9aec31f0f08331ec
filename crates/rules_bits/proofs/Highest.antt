-- Laws of bits that go highest first, as the CRC does (RULES 5.13).
--     highest_append, highest_below    a number of two rows, and how large one of so many bits can be
--     highest_at                       the bit that is sent as number i of so many has the weight 2 ^ (so many - 1 - i)
--     highest_only                     rows of one length with one number are the same
-- By induction on the bits. Assumes nothing.
use mathlib.Core.Path.{◌≡◌, refl, sym, ap, ◌∙◌}
use mathlib.Core.List.{List, [], ◌∷◌, ◌++◌}
use Prim.Native.Nat.{ℕ, zero, suc, ◌+◌, ◌-◌, ◌*◌, ◌/◌, ◌%◌, ◌^◌, ◌<◌}
use native.Mathlib.Nat.{mul_assoc, mul-add-div_right}
use native.Mathlib.Omega.{arith}
use lib.Arith.{digits_div}
use lib.ListN.{length, get_or, length-append}
use lib.Pow.{pow_pos, pow-add}
use lib.Seq.{ext_get_or}
use Rattle.rules_bits.specs.Bits.{highest_first}
use Rattle.base.specs.Below.{Below}
use Rattle.base.proofs.Below.{below_head, below_tail}

-- the first that is sent is the highest
first_is_highest : highest_first (1 ∷ 0 ∷ 1 ∷ 1 ∷ []) ≡ 11
unfolding highest_first
first_is_highest = refl

pub highest_append : (a b : List ℕ) → highest_first (a ++ b) ≡ highest_first a * 2 ^ length b + highest_first b
unfolding highest_first
highest_append [] b = omega arith
highest_append (x ∷ a) b =
    let more : 2 ^ length (a ++ b) ≡ 2 ^ length a * 2 ^ length b =
    ap (λ (n : ℕ). 2 ^ n) (length-append a b) ∙ pow-add 2 (length a) (length b) in
    rw (highest_append a b, more) (spread x (highest_first a) (2 ^ length a) (2 ^ length b) (highest_first b))
  where
    spread : (x a m n b : ℕ) → x * (m * n) + (a * n + b) ≡ (x * m + a) * n + b
    spread x a m n b = omega arith

pub highest_below : (bs : List ℕ) → Below 2 bs → highest_first bs < 2 ^ length bs
unfolding highest_first
highest_below [] h = omega arith
highest_below (b ∷ bs) h = more b (below_head h) (highest_first bs) (length bs) (highest_below bs (below_tail h))
  where
    more : (b : ℕ) → b < 2 → (x n : ℕ) → x < 2 ^ n → b * 2 ^ n + x < 2 ^ suc n
    more zero h x n l = omega arith
    more (suc zero) h x n l = omega arith
    more (suc (suc b)) h x n l = absurd (omega arith)

-- promise: In the number of bits sent highest first, bit i of so many has the weight 2 ^ (so many - 1 - i), and nothing
-- else is in it; rows of one length with one number are the same
-- rule: 5.13, 6.22
-- code: highest_first
-- with: highest_below, highest_only
pub highest_at : (bs : List ℕ) → Below 2 bs → (i : ℕ) → i < length bs
    → highest_first bs / 2 ^ (length bs - suc i) % 2 ≡ get_or bs i 0
unfolding highest_first
highest_at [] h i l = absurd (omega arith)
highest_at (b ∷ bs) h zero l =
    let e : length (b ∷ bs) - 1 ≡ length bs = omega arith in
    rw (e, digits_div b (highest_below bs (below_tail h))) (low b (below_head h))
  where
    low : (b : ℕ) → b < 2 → b % 2 ≡ b
    low b h = omega arith
highest_at (b ∷ bs) h (suc i) l =
    let m = length bs - suc i in
    let e : length (b ∷ bs) - suc (suc i) ≡ m = omega arith in
    let x = highest_first bs in
    ap (λ (j : ℕ). (b * 2 ^ length bs + x) / 2 ^ j % 2) e
    ∙ ap (λ (y : ℕ). (y + x) / 2 ^ m % 2) (weighed b i (length bs) (omega arith))
    ∙ ap (λ (y : ℕ). y % 2) (mul-add-div_right (pow_pos m) (b * 2 ^ suc i) x)
    ∙ even (b * 2 ^ i) (b * 2 ^ suc i) (x / 2 ^ m) (doubled b (2 ^ i) (2 ^ suc i) (omega arith))
    ∙ highest_at bs (below_tail h) i (omega arith)
  where
    weighed : (b i n : ℕ) → i < n → b * 2 ^ n ≡ b * 2 ^ suc i * 2 ^ (n - suc i)
    weighed b i n l =
        let e : n ≡ suc i + (n - suc i) = omega arith in
        ap (λ (j : ℕ). b * 2 ^ j) e
        ∙ ap (λ (y : ℕ). b * y) (pow-add 2 (suc i) (n - suc i)) ∙ sym (mul_assoc b (2 ^ suc i) (2 ^ (n - suc i)))

    doubled : (b p q : ℕ) → q ≡ 2 * p → b * q ≡ 2 * (b * p)
    doubled b p q e = rw e (omega arith)

    even : (c d x : ℕ) → d ≡ 2 * c → (d + x) % 2 ≡ x % 2
    even c d x e = omega arith

pub highest_only : (a b : List ℕ) → length a ≡ length b → Below 2 a → Below 2 b → highest_first a ≡ highest_first b
    → a ≡ b
highest_only a b e h k q =
    ext_get_or 0 a b e (λ i l. sym (highest_at a h i l)
    ∙ (λ j. q j / 2 ^ (e j - suc i) % 2)
    ∙ highest_at b k i (omega arith))
