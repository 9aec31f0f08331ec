-- An octet through the scrambler and back, as a number: exclusive or of numbers is exclusive or of their bits, so that
-- an octet's eight outputs are the octet, the octet before it moved by 4 and by 1, and its first four outputs moved
-- by 4 and its first by 7.
--     scrambled_octet, unscrambled_number    the two ways
-- Assumes nothing.
use mathlib.Core.Path.{◌≡◌, refl, sym, ap, ap₂, ◌∙◌}
use mathlib.Core.List.{List, [], ◌∷◌, reverse}
use Prim.Native.Nat.{ℕ, zero, suc, ◌+◌, ◌*◌, ◌/◌, ◌%◌, ◌<◌}
use native.Mathlib.Nat.{mod-add-mod}
use native.Mathlib.Omega.{arith}
use lib.ListN.{get_or}
use lib.Bits.{bit_xor, differ, xor_step, xor_lt}
use Rattle.rules_bits.specs.Bits.{bits_of, number_of}
use Rattle.rules_bits.specs.Scrambler.{mixed, scramble, descramble}
use Rattle.rules_bits.specs.Code.{past_of}
use Rattle.rules_bits.proofs.Bits.{number_bits}

-- bit by bit
unfoldable xor_bits : List ℕ → List ℕ → List ℕ
xor_bits [] bs = []
xor_bits (a ∷ xs) [] = []
xor_bits (a ∷ xs) (b ∷ bs) = (a + b) % 2 ∷ xor_bits xs bs

differ_sum : (x y : ℕ) → x < 2 → y < 2 → differ x y ≡ (x + y) % 2
differ_sum zero zero h k = refl
differ_sum zero (suc zero) h k = refl
differ_sum (suc zero) zero h k = refl
differ_sum (suc zero) (suc zero) h k = refl
differ_sum zero (suc (suc y)) h k = absurd (omega arith)
differ_sum (suc zero) (suc (suc y)) h k = absurd (omega arith)
differ_sum (suc (suc x)) y h k = absurd (omega arith)

xor_is : (a b : ℕ) → bit_xor a b ≡ bit_xor (a / 2) (b / 2) * 2 + (a % 2 + b % 2) % 2
xor_is a b = xor_step a b ∙ ap (λ (k : ℕ). bit_xor (a / 2) (b / 2) * 2 + k)
    (differ_sum (a % 2) (b % 2) (omega arith) (omega arith))

bits_xor : (n a b : ℕ) → bits_of n (bit_xor a b) ≡ xor_bits (bits_of n a) (bits_of n b)
unfolding bits_of xor_bits
bits_xor zero a b = refl
bits_xor (suc n) a b =
    ap₂ {B = List ℕ} (λ x xs. x ∷ xs) (low _ _ _ (xor_is a b))
    (ap (bits_of n) (high _ _ _ (xor_is a b)) ∙ bits_xor n (a / 2) (b / 2))
  where
    low : (z h s : ℕ) → z ≡ h * 2 + s % 2 → z % 2 ≡ s % 2
    low z h s e = omega arith

    high : (z h s : ℕ) → z ≡ h * 2 + s % 2 → z / 2 ≡ h
    high z h s e = omega arith

-- the octet before, moved by 4 and by 1
moved_4 : (q : ℕ) → q < 256
    → bits_of 8 (q / 16)
    ≡ q / 2 / 2 / 2 / 2 % 2 ∷ q / 2 / 2 / 2 / 2 / 2 % 2 ∷ q / 2 / 2 / 2 / 2 / 2 / 2 % 2
    ∷ q / 2 / 2 / 2 / 2 / 2 / 2 / 2 % 2 ∷ 0 ∷ 0 ∷ 0 ∷ 0 ∷ []
unfolding bits_of
moved_4 q l =
    λ i.
    at_0 q i ∷ at_1 q i ∷ at_2 q i ∷ at_3 q i ∷ none (q / 16) (omega arith) i ∷ none (q / 16 / 2) (omega arith) i
    ∷ none (q / 16 / 2 / 2) (omega arith) i ∷ none (q / 16 / 2 / 2 / 2) (omega arith) i ∷ []
  where
    at_0 : (q : ℕ) → q / 16 % 2 ≡ q / 2 / 2 / 2 / 2 % 2
    at_0 q = omega arith

    at_1 : (q : ℕ) → q / 16 / 2 % 2 ≡ q / 2 / 2 / 2 / 2 / 2 % 2
    at_1 q = omega arith

    at_2 : (q : ℕ) → q / 16 / 2 / 2 % 2 ≡ q / 2 / 2 / 2 / 2 / 2 / 2 % 2
    at_2 q = omega arith

    at_3 : (q : ℕ) → q / 16 / 2 / 2 / 2 % 2 ≡ q / 2 / 2 / 2 / 2 / 2 / 2 / 2 % 2
    at_3 q = omega arith

    none : (q : ℕ) → q < 16 → q / 2 / 2 / 2 / 2 % 2 ≡ 0
    none q l = omega arith

moved_1 : (q : ℕ) → q < 256
    → bits_of 8 (q / 2)
    ≡ q / 2 % 2 ∷ q / 2 / 2 % 2 ∷ q / 2 / 2 / 2 % 2 ∷ q / 2 / 2 / 2 / 2 % 2 ∷ q / 2 / 2 / 2 / 2 / 2 % 2
    ∷ q / 2 / 2 / 2 / 2 / 2 / 2 % 2 ∷ q / 2 / 2 / 2 / 2 / 2 / 2 / 2 % 2 ∷ 0 ∷ []
unfolding bits_of
moved_1 q l = λ i. q / 2 % 2 ∷ q / 2 / 2 % 2 ∷ q / 2 / 2 / 2 % 2 ∷ q / 2 / 2 / 2 / 2 % 2 ∷ q / 2 / 2 / 2 / 2 / 2 % 2
    ∷ q / 2 / 2 / 2 / 2 / 2 / 2 % 2 ∷ q / 2 / 2 / 2 / 2 / 2 / 2 / 2 % 2 ∷ none q l i ∷ []
  where
    none : (q : ℕ) → q < 256 → q / 2 / 2 / 2 / 2 / 2 / 2 / 2 / 2 % 2 ≡ 0
    none q l = omega arith

-- the octet's own first outputs, moved by 4 and by 7
again_4 : (t : ℕ) → bits_of 8 (t % 16 * 16) ≡ 0 ∷ 0 ∷ 0 ∷ 0 ∷ t % 2 ∷ t / 2 % 2 ∷ t / 2 / 2 % 2 ∷ t / 2 / 2 / 2 % 2 ∷ []
unfolding bits_of
again_4 t = λ i. at_0 t i ∷ at_1 t i ∷ at_2 t i ∷ at_3 t i ∷ at_4 t i ∷ at_5 t i ∷ at_6 t i ∷ at_7 t i ∷ []
  where
    at_0 : (t : ℕ) → (t % 16 * 16) % 2 ≡ 0
    at_0 t = omega arith

    at_1 : (t : ℕ) → (t % 16 * 16) / 2 % 2 ≡ 0
    at_1 t = omega arith

    at_2 : (t : ℕ) → (t % 16 * 16) / 2 / 2 % 2 ≡ 0
    at_2 t = omega arith

    at_3 : (t : ℕ) → (t % 16 * 16) / 2 / 2 / 2 % 2 ≡ 0
    at_3 t = omega arith

    at_4 : (t : ℕ) → (t % 16 * 16) / 2 / 2 / 2 / 2 % 2 ≡ t % 2
    at_4 t = omega arith

    at_5 : (t : ℕ) → (t % 16 * 16) / 2 / 2 / 2 / 2 / 2 % 2 ≡ t / 2 % 2
    at_5 t = omega arith

    at_6 : (t : ℕ) → (t % 16 * 16) / 2 / 2 / 2 / 2 / 2 / 2 % 2 ≡ t / 2 / 2 % 2
    at_6 t = omega arith

    at_7 : (t : ℕ) → (t % 16 * 16) / 2 / 2 / 2 / 2 / 2 / 2 / 2 % 2 ≡ t / 2 / 2 / 2 % 2
    at_7 t = omega arith

again_7 : (t : ℕ) → bits_of 8 (t % 2 * 128) ≡ 0 ∷ 0 ∷ 0 ∷ 0 ∷ 0 ∷ 0 ∷ 0 ∷ t % 2 ∷ []
unfolding bits_of
again_7 t = λ i. at_0 t i ∷ at_1 t i ∷ at_2 t i ∷ at_3 t i ∷ at_4 t i ∷ at_5 t i ∷ at_6 t i ∷ at_7 t i ∷ []
  where
    at_0 : (t : ℕ) → (t % 2 * 128) % 2 ≡ 0
    at_0 t = omega arith

    at_1 : (t : ℕ) → (t % 2 * 128) / 2 % 2 ≡ 0
    at_1 t = omega arith

    at_2 : (t : ℕ) → (t % 2 * 128) / 2 / 2 % 2 ≡ 0
    at_2 t = omega arith

    at_3 : (t : ℕ) → (t % 2 * 128) / 2 / 2 / 2 % 2 ≡ 0
    at_3 t = omega arith

    at_4 : (t : ℕ) → (t % 2 * 128) / 2 / 2 / 2 / 2 % 2 ≡ 0
    at_4 t = omega arith

    at_5 : (t : ℕ) → (t % 2 * 128) / 2 / 2 / 2 / 2 / 2 % 2 ≡ 0
    at_5 t = omega arith

    at_6 : (t : ℕ) → (t % 2 * 128) / 2 / 2 / 2 / 2 / 2 / 2 % 2 ≡ 0
    at_6 t = omega arith

    at_7 : (t : ℕ) → (t % 2 * 128) / 2 / 2 / 2 / 2 / 2 / 2 / 2 % 2 ≡ t % 2
    at_7 t = omega arith

same : (z : ℕ) → ((z % 2 + 0) % 2 + 0) % 2 ≡ z % 2
same z = omega arith

middle : (x u v : ℕ) → ((((x + 0) % 2 + v) % 2 + u) % 2 + 0) % 2 ≡ ((x + u) % 2 + v) % 2
middle x u v = simp mod-add-mod (omega arith)

last : (x u v : ℕ) → ((((x + 0) % 2 + 0) % 2 + u) % 2 + v) % 2 ≡ ((x + u) % 2 + v) % 2
last x u v = simp mod-add-mod (omega arith)

-- the octet and the octet before, moved; then with its own first outputs, moved
unfoldable before : List ℕ → List ℕ → List ℕ
before x q =
    xor_bits (xor_bits x (get_or q 4 0 ∷ get_or q 5 0 ∷ get_or q 6 0 ∷ get_or q 7 0 ∷ 0 ∷ 0 ∷ 0 ∷ 0 ∷ []))
    (get_or q 1 0 ∷ get_or q 2 0 ∷ get_or q 3 0 ∷ get_or q 4 0 ∷ get_or q 5 0 ∷ get_or q 6 0 ∷ get_or q 7 0 ∷ 0 ∷ [])

unfoldable within : List ℕ → List ℕ
within t =
    xor_bits (xor_bits t (0 ∷ 0 ∷ 0 ∷ 0 ∷ get_or t 0 0 ∷ get_or t 1 0 ∷ get_or t 2 0 ∷ get_or t 3 0 ∷ []))
    (0 ∷ 0 ∷ 0 ∷ 0 ∷ 0 ∷ 0 ∷ 0 ∷ get_or t 0 0 ∷ [])

outputs : (x0 x1 x2 x3 x4 x5 x6 x7 q0 q1 q2 q3 q4 q5 q6 q7 : ℕ)
    → within (before (x0 ∷ x1 ∷ x2 ∷ x3 ∷ x4 ∷ x5 ∷ x6 ∷ x7 ∷ []) (q0 ∷ q1 ∷ q2 ∷ q3 ∷ q4 ∷ q5 ∷ q6 ∷ q7 ∷ []))
    ≡ scramble (reverse (q0 ∷ q1 ∷ q2 ∷ q3 ∷ q4 ∷ q5 ∷ q6 ∷ q7 ∷ [])) (x0 ∷ x1 ∷ x2 ∷ x3 ∷ x4 ∷ x5 ∷ x6 ∷ x7 ∷ [])
unfolding before within xor_bits mixed scramble
outputs x0 x1 x2 x3 x4 x5 x6 x7 q0 q1 q2 q3 q4 q5 q6 q7 =
    let e0 = (x0 + q4) % 2 + q1 in
    let e1 = (x1 + q5) % 2 + q2 in
    let e2 = (x2 + q6) % 2 + q3 in
    let e3 = (x3 + q7) % 2 + q4 in
    λ i.
    same e0 i ∷ same e1 i ∷ same e2 i ∷ same e3 i ∷ middle x4 (e0 % 2) q5 i ∷ middle x5 (e1 % 2) q6 i
    ∷ middle x6 (e2 % 2) q7 i
    ∷ last x7 (e3 % 2) (e0 % 2) i ∷ []

-- an octet x after the octet q: t has x and q moved, r has t and its first outputs moved
pub scrambled_octet : (q x t r : ℕ) → q < 256 → t ≡ bit_xor (bit_xor x (q / 16)) (q / 2)
    → r ≡ bit_xor (bit_xor t (t % 16 * 16)) (t % 2 * 128) → bits_of 8 r ≡ scramble (past_of q) (bits_of 8 x)
scrambled_octet q x t r l e f = second ∙ ap within first ∙ named
  where
    first : bits_of 8 t ≡ before (bits_of 8 x) (bits_of 8 q)
    first = rw (e, bits_xor, bits_xor, moved_4 q l, moved_1 q l) (unfold before bits_of in refl)

    second : bits_of 8 r ≡ within (bits_of 8 t)
    second = rw (f, bits_xor, bits_xor, again_4 t, again_7 t) (unfold within bits_of in refl)

    named : within (before (bits_of 8 x) (bits_of 8 q)) ≡ scramble (reverse (bits_of 8 q)) (bits_of 8 x)
    named = unfold bits_of in outputs _ _ _ _ _ _ _ _ _ _ _ _ _ _ _ _

-- the octet, the octet before it moved by 4 and by 1, and itself moved by 4 and by 7
unfoldable taps : List ℕ → List ℕ → List ℕ
taps x q =
    xor_bits
    (xor_bits
    (xor_bits (xor_bits x (get_or q 4 0 ∷ get_or q 5 0 ∷ get_or q 6 0 ∷ get_or q 7 0 ∷ 0 ∷ 0 ∷ 0 ∷ 0 ∷ []))
    (get_or q 1 0 ∷ get_or q 2 0 ∷ get_or q 3 0 ∷ get_or q 4 0 ∷ get_or q 5 0 ∷ get_or q 6 0 ∷ get_or q 7 0 ∷ 0 ∷ []))
    (0 ∷ 0 ∷ 0 ∷ 0 ∷ get_or x 0 0 ∷ get_or x 1 0 ∷ get_or x 2 0 ∷ get_or x 3 0 ∷ []))
    (0 ∷ 0 ∷ 0 ∷ 0 ∷ 0 ∷ 0 ∷ 0 ∷ get_or x 0 0 ∷ [])

received : (x0 x1 x2 x3 x4 x5 x6 x7 q0 q1 q2 q3 q4 q5 q6 q7 : ℕ)
    → taps (x0 ∷ x1 ∷ x2 ∷ x3 ∷ x4 ∷ x5 ∷ x6 ∷ x7 ∷ []) (q0 ∷ q1 ∷ q2 ∷ q3 ∷ q4 ∷ q5 ∷ q6 ∷ q7 ∷ [])
    ≡ descramble (reverse (q0 ∷ q1 ∷ q2 ∷ q3 ∷ q4 ∷ q5 ∷ q6 ∷ q7 ∷ [])) (x0 ∷ x1 ∷ x2 ∷ x3 ∷ x4 ∷ x5 ∷ x6 ∷ x7 ∷ [])
unfolding taps xor_bits mixed descramble
received x0 x1 x2 x3 x4 x5 x6 x7 q0 q1 q2 q3 q4 q5 q6 q7 =
    λ i.
    same ((x0 + q4) % 2 + q1) i ∷ same ((x1 + q5) % 2 + q2) i ∷ same ((x2 + q6) % 2 + q3) i
    ∷ same ((x3 + q7) % 2 + q4) i ∷ middle x4 x0 q5 i ∷ middle x5 x1 q6 i ∷ middle x6 x2 q7 i ∷ last x7 x3 x0 i ∷ []

-- an octet x received after the octet q
unscrambled_octet : (q x : ℕ) → q < 256
    → bits_of 8 (bit_xor (bit_xor (bit_xor (bit_xor x (q / 16)) (q / 2)) (x % 16 * 16)) (x % 2 * 128))
    ≡ descramble (past_of q) (bits_of 8 x)
unscrambled_octet q x l = moved ∙ named
  where
    moved : bits_of 8 (bit_xor (bit_xor (bit_xor (bit_xor x (q / 16)) (q / 2)) (x % 16 * 16)) (x % 2 * 128))
        ≡ taps (bits_of 8 x) (bits_of 8 q)
    moved = rw (bits_xor, bits_xor, bits_xor, bits_xor, moved_4 q l, moved_1 q l, again_4 x, again_7 x)
        (unfold taps bits_of in refl)

    named : taps (bits_of 8 x) (bits_of 8 q) ≡ descramble (past_of q) (bits_of 8 x)
    named = unfold bits_of in received _ _ _ _ _ _ _ _ _ _ _ _ _ _ _ _

sixteenth : (q : ℕ) → q < 256 → q / 16 < 256
sixteenth q l = omega arith

half : (q : ℕ) → q < 256 → q / 2 < 256
half q l = omega arith

pub unscrambled_number : (q x : ℕ) → q < 256 → x < 256
    → bit_xor (bit_xor (bit_xor (bit_xor x (q / 16)) (q / 2)) (x % 16 * 16)) (x % 2 * 128)
    ≡ number_of (descramble (past_of q) (bits_of 8 x))
unscrambled_number q x l m =
    sym
    (number_bits 8 _
    (xor_lt 8 _ _ (xor_lt 8 _ _ (xor_lt 8 _ _ (xor_lt 8 _ _ m (sixteenth q l)) (half q l)) (omega arith))
    (omega arith)))
    ∙ ap number_of (unscrambled_octet q x l)
