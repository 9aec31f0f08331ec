-- Laws of bits, numbers and octets.
--     bits_push, bits_length, bits_below, bits_mod, bits_two      bits of a number
--     number_bits, bits_number, number_append, number_below      a number of its bits, and bits of their number
--     octet_bits_length, octet_bits_below, octet_bits_append     bits of octets
--     octets_back, octets_bits                                   octets of their bits, and bits of their octets
--     octets_append, octets_more, octets_length, octets_below    octets of bits
--     number_one, number_two, octets_same                        numbers of octets, and octets told by their bits
-- By induction on the bits or the octets, with what `omega` knows of a half. Assumes nothing.
use mathlib.Core.Path.{◌≡◌, refl, sym, ap, ap₂, ◌∙◌}
use mathlib.Core.List.{List, [], ◌∷◌, ◌++◌, append_assoc, append-nil}
use Prim.Native.Nat.{ℕ, zero, suc, ◌+◌, ◌*◌, ◌/◌, ◌%◌, ◌^◌, ◌<◌, ◌≤◌}
use native.Mathlib.Nat.{pow-suc, mul_assoc, mul_comm, suc-add, zero-add, lt_of_lt_of_le, pow-le-pow_right}
use native.Mathlib.Omega.{arith}
use lib.Arith.{mod-mul}
use lib.Dec.{lit<}
use lib.ListN.{length, take, drop, length-drop, length-take}
use lib.Pow.{pow_pos}
use lib.Seq.{take-append-le, drop-append-le, take_at, drop_at, take-add, length-take-le}
use Rattle.rules_bits.specs.Bits.{bits_of, number_of, octet_bits, octets_of}
use Rattle.base.specs.Below.{Below}
use Rattle.base.proofs.Below.{below_nil, below_cons, below_head, below_tail, below_append, below_take, below_drop}

-- a bit put below a number
pub bits_push : (n c t : ℕ) → c < 2 → bits_of (suc n) (c + 2 * t) ≡ c ∷ bits_of n t
unfolding bits_of
bits_push n c t h = ap₂ {B = List ℕ} (λ x xs. x ∷ xs) (low c t h) (ap (bits_of n) (high c t h))
  where
    low : (c t : ℕ) → c < 2 → (c + 2 * t) % 2 ≡ c
    low c t h = omega arith

    high : (c t : ℕ) → c < 2 → (c + 2 * t) / 2 ≡ t
    high c t h = omega arith

pub bits_length : (n x : ℕ) → length (bits_of n x) ≡ n
unfolding bits_of
bits_length zero x = refl
bits_length (suc n) x = ap suc (bits_length n (x / 2))

pub bits_below : (n x : ℕ) → Below 2 (bits_of n x)
unfolding bits_of
bits_below zero x = below_nil 2 (omega arith)
bits_below (suc n) x = below_cons (omega arith) (bits_below n (x / 2))

bits_suc : (n x : ℕ) → bits_of (suc n) x ≡ x % 2 ∷ bits_of n (x / 2)
unfolding bits_of
bits_suc n x = refl

-- n bits are those of the remainder modulo 2 ^ n
pub bits_mod : (n x : ℕ) → bits_of n (x % 2 ^ n) ≡ bits_of n x
bits_mod zero x = unfold bits_of in refl
bits_mod (suc n) x =
    rw (pow-suc 2 n, mod-mul x {m = 2 ^ n} {c = 2} (pow_pos n) (lit< tt), swapped (x / 2 % 2 ^ n) (x % 2))
    (bits_push n (x % 2) (x / 2 % 2 ^ n) (omega arith)
    ∙ ap {B = List ℕ} (λ l. x % 2 ∷ l) (bits_mod n (x / 2)) ∙ sym (bits_suc n x))
  where
    swapped : (t c : ℕ) → t * 2 + c ≡ c + 2 * t
    swapped t c = omega arith

-- sixteen bits are two octets', the lower first
pub bits_two : (x : ℕ) → bits_of 16 x ≡ bits_of 8 (x % 256) ++ bits_of 8 (x / 256)
bits_two x = halves x ∙ ap (λ (l : List ℕ). l ++ bits_of 8 (x / 256)) (sym (bits_mod 8 x))
  where
    eighth : (x : ℕ) → x / 2 / 2 / 2 / 2 / 2 / 2 / 2 / 2 ≡ x / 256
    eighth x = omega arith

    halves : (x : ℕ) → bits_of 16 x ≡ bits_of 8 x ++ bits_of 8 (x / 256)
    halves x = unfold bits_of in ap (λ (y : ℕ). bits_of 8 x ++ bits_of 8 y) (eighth x)

pub number_bits : (n x : ℕ) → x < 2 ^ n → number_of (bits_of n x) ≡ x
unfolding number_of bits_of
number_bits zero x h = omega arith
number_bits (suc n) x h =
    ap (λ (y : ℕ). x % 2 + 2 * y) (number_bits n (x / 2) (less x (2 ^ n) (rw pow-suc at h))) ∙ whole x
  where
    less : (x k : ℕ) → x < k * 2 → x / 2 < k
    less x k h = omega arith

    whole : (x : ℕ) → x % 2 + 2 * (x / 2) ≡ x
    whole x = omega arith

pub bits_number : (n : ℕ) (bs : List ℕ) → length bs ≡ n → Below 2 bs → bits_of n (number_of bs) ≡ bs
unfolding number_of
bits_number zero [] e h = unfold bits_of in refl
bits_number zero (b ∷ bs) e h = absurd (omega arith)
bits_number (suc n) [] e h = absurd (omega arith)
bits_number (suc n) (b ∷ bs) e h =
    bits_push n b (number_of bs) (below_head h)
    ∙ ap {B = List ℕ} (λ l. b ∷ l) (bits_number n bs (omega arith) (below_tail h))

pub number_append : (a b : List ℕ) → number_of (a ++ b) ≡ number_of a + 2 ^ length a * number_of b
unfolding number_of
number_append [] b = omega arith
number_append (x ∷ a) b =
    rw (number_append a b, pow-suc 2 (length a)) (spread x (number_of a) (2 ^ length a) (number_of b))
  where
    spread : (x a k b : ℕ) → x + 2 * (a + k * b) ≡ x + 2 * a + k * 2 * b
    spread x a k b = omega (arith, mul_assoc k 2 b, mul_comm 2 b, mul_assoc k b 2)

pub number_below : (bs : List ℕ) → Below 2 bs → number_of bs < 2 ^ length bs
unfolding number_of
number_below [] h = omega arith
number_below (b ∷ bs) h =
    rw (pow-suc 2 (length bs)) (more b (number_of bs) (2 ^ length bs) (below_head h) (number_below bs (below_tail h)))
  where
    more : (b x k : ℕ) → b < 2 → x < k → b + 2 * x < k * 2
    more b x k h l = omega arith

-- ---- octets

pub octet_bits_length : (xs : List ℕ) → length (octet_bits xs) ≡ 8 * length xs
unfolding octet_bits bits_of
octet_bits_length [] = refl
octet_bits_length (x ∷ xs) = omega (arith, octet_bits_length xs)

pub octet_bits_below : (xs : List ℕ) → Below 2 (octet_bits xs)
unfolding octet_bits
octet_bits_below [] = below_nil 2 (omega arith)
octet_bits_below (x ∷ xs) = below_append (bits_below 8 x) (octet_bits_below xs)

pub octet_bits_append : (a b : List ℕ) → octet_bits (a ++ b) ≡ octet_bits a ++ octet_bits b
unfolding octet_bits
octet_bits_append [] b = refl
octet_bits_append (x ∷ a) b = rw (octet_bits_append a b) (sym (append_assoc (bits_of 8 x) (octet_bits a) (octet_bits b)))

pub octets_length : (n : ℕ) (bs : List ℕ) → length (octets_of n bs) ≡ n
unfolding octets_of
octets_length zero bs = refl
octets_length (suc n) bs = ap suc (octets_length n (drop 8 bs))

pub octets_back : (xs : List ℕ) → Below 256 xs → octets_of (length xs) (octet_bits xs) ≡ xs
unfolding octets_of octet_bits
octets_back [] h = refl
octets_back (x ∷ xs) h =
    ap₂ {C = List ℕ} (λ y ys. y ∷ ys)
    (ap number_of (take_at (bits_of 8 x) (octet_bits xs) 8 (bits_length 8 x)) ∙ number_bits 8 x (below_head h))
    (ap (octets_of (length xs)) (drop_at (bits_of 8 x) (octet_bits xs) 8 (bits_length 8 x))
    ∙ octets_back xs (below_tail h))

pub octets_bits : (n : ℕ) (bs : List ℕ) → 8 * n ≤ length bs → Below 2 bs → octet_bits (octets_of n bs) ≡ take (8 * n) bs
unfolding octets_of octet_bits
octets_bits zero bs l h = refl
octets_bits (suc n) bs l h =
    let m : 8 * suc n ≡ 8 + 8 * n = omega arith in
    let first : bits_of 8 (number_of (take 8 bs)) ≡ take 8 bs =
    bits_number 8 (take 8 bs) (length-take-le 8 bs (omega arith)) (below_take 8 h) in
    let rest : octet_bits (octets_of n (drop 8 bs)) ≡ take (8 * n) (drop 8 bs) =
    octets_bits n (drop 8 bs) (rw length-drop (omega arith)) (below_drop 8 h) in
    rw (m, take-add 8 (8 * n) bs, first, rest)

pub octets_append : (m n : ℕ) (a b : List ℕ) → length a ≡ 8 * m
    → octets_of (m + n) (a ++ b) ≡ octets_of m a ++ octets_of n b
unfolding octets_of
octets_append zero n [] b e = rw (zero-add n)
octets_append zero n (x ∷ a) b e = absurd (omega arith)
octets_append (suc m) n a b e =
    let l : 8 ≤ length a = omega arith in
    let rest : length (drop 8 a) ≡ 8 * m = rw length-drop (omega arith) in
    rw (suc-add m n, take-append-le 8 a b l, drop-append-le 8 a b l, octets_append m n (drop 8 a) b rest)

pub octets_more : (n : ℕ) (a b : List ℕ) → 8 * n ≤ length a → octets_of n (a ++ b) ≡ octets_of n a
unfolding octets_of
octets_more zero a b l = refl
octets_more (suc n) a b l =
    let k : 8 ≤ length a = omega arith in
    let rest : 8 * n ≤ length (drop 8 a) = rw length-drop (omega arith) in
    rw (take-append-le 8 a b k, drop-append-le 8 a b k, octets_more n (drop 8 a) b rest)

pub octets_below : (n : ℕ) (bs : List ℕ) → Below 2 bs → Below 256 (octets_of n bs)
unfolding octets_of
octets_below zero bs h = below_nil 256 (omega arith)
octets_below (suc n) bs h =
    below_cons (small (take 8 bs) (below_take 8 h) (omega (arith, length-take 8 bs)))
    (octets_below n (drop 8 bs) (below_drop 8 h))
  where
    small : (ds : List ℕ) → Below 2 ds → length ds ≤ 8 → number_of ds < 256
    small ds h l = lt_of_lt_of_le (number_below ds h) (pow-le-pow_right (omega arith) l)

-- the numbers of one octet and of two, the lower first
pub number_one : (a : ℕ) → a < 256 → number_of (octet_bits (a ∷ [])) ≡ a
unfolding octet_bits
number_one a h = rw append-nil (number_bits 8 a h)

pub number_two : (a b : ℕ) → a < 256 → b < 256 → number_of (octet_bits (a ∷ b ∷ [])) ≡ a + 256 * b
unfolding octet_bits
number_two a b h k =
    rw append-nil
    (number_append (bits_of 8 a) (bits_of 8 b)
    ∙ rw (bits_length 8 a) (ap₂ {C = ℕ} (λ x y. x + 256 * y) (number_bits 8 a h) (number_bits 8 b k)))

-- octets with the same bits are the same
pub octets_same : (a b : List ℕ) → length a ≡ length b → Below 256 a → Below 256 b → octet_bits a ≡ octet_bits b → a ≡ b
octets_same a b e h k q =
    sym (octets_back a h) ∙ ap₂ {C = List ℕ} (λ n bs. octets_of n bs) e q ∙ octets_back b k
