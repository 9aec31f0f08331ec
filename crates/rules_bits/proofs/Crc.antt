-- Laws of the CRC.
--     remainder_append                  the remainder runs on from one part to the next
--     crc_length, crc_below             it is sixteen bits
--     complement_below, complement_eight    complements are bits, and eight of them
--     crc_is                            the CRC of four octets, octet by octet
-- By induction on the bits. Assumes nothing.
use mathlib.Core.Path.{◌≡◌, refl, ap, ◌∙◌}
use mathlib.Core.List.{List, [], ◌∷◌, ◌++◌, map-append, append-nil}
use Prim.Native.Nat.{ℕ, zero, suc, ◌+◌, ◌-◌}
use native.Mathlib.Omega.{arith}
use lib.ListN.{length, drop, replicate, length-append, length-drop, length-map}
use Rattle.rules_bits.specs.Bits.{◌⊕◌, bits_of, octet_bits}
use Rattle.rules_bits.specs.Crc.{polynomial, add_where, crc_step, remainder, complement, crc_bits}
use Rattle.base.specs.Below.{Below}
use Rattle.base.proofs.Below.{below_nil, below_cons}

pub remainder_append : (r a b : List ℕ) → remainder r (a ++ b) ≡ remainder (remainder r a) b
unfolding remainder
remainder_append r [] b = refl
remainder_append r (x ∷ a) b = remainder_append (crc_step r x) a b

add_where_length : (f : ℕ) (r p : List ℕ) → length r ≡ length p → length (add_where f r p) ≡ length p
unfolding add_where
add_where_length f r [] e = refl
add_where_length f [] (y ∷ p) e = absurd (omega arith)
add_where_length f (x ∷ r) (zero ∷ p) e = ap suc (add_where_length f r p (omega arith))
add_where_length f (x ∷ r) (suc y ∷ p) e = ap suc (add_where_length f r p (omega arith))

pub step_length : (r : List ℕ) (b : ℕ) → length r ≡ 16 → length (crc_step r b) ≡ 16
unfolding crc_step
step_length r b e =
    add_where_length _ (drop 1 r ++ (0 ∷ [])) polynomial
    (length-append (drop 1 r) (0 ∷ []) ∙ ap (λ (n : ℕ). n + 1) (length-drop 1 r ∙ ap (λ (n : ℕ). n - 1) e))

pub remainder_length : (r bs : List ℕ) → length r ≡ 16 → length (remainder r bs) ≡ 16
unfolding remainder
remainder_length r [] e = e
remainder_length r (b ∷ bs) e = remainder_length (crc_step r b) bs (step_length r b e)

pub crc_length : (bs : List ℕ) → length (crc_bits bs) ≡ 16
unfolding crc_bits
crc_length bs =
    length-map (remainder (replicate 16 1) bs) (λ (b : ℕ). b ⊕ 1) ∙ remainder_length (replicate 16 1) bs refl

pub complement_below : (bs : List ℕ) → Below 2 (complement bs)
complement_below [] = below_nil 2 (omega arith)
complement_below (b ∷ bs) = below_cons (omega arith) (complement_below bs)

pub crc_below : (bs : List ℕ) → Below 2 (crc_bits bs)
unfolding crc_bits
crc_below bs = complement_below (remainder (replicate 16 1) bs)

-- the CRC of four octets, octet by octet: r1 to r3 are the register after one to three of them, f and g its halves
-- after four
pub crc_is : (a b c d x y : ℕ) (ones r1 r2 r3 f g : List ℕ)
    → ones ≡ bits_of 8 255 → r1 ≡ remainder (ones ++ ones) (bits_of 8 a)
    → r2 ≡ remainder r1 (bits_of 8 b) → r3 ≡ remainder r2 (bits_of 8 c) → f ++ g ≡ remainder r3 (bits_of 8 d)
    → bits_of 8 x ≡ complement f → bits_of 8 y ≡ complement g
    → octet_bits (x ∷ y ∷ []) ≡ crc_bits (octet_bits (a ∷ b ∷ c ∷ d ∷ []))
unfolding octet_bits crc_bits
crc_is a b c d x y ones r1 r2 r3 f g e e1 e2 e3 e4 ex ey =
    let first : r1 ≡ remainder (replicate 16 1) (bits_of 8 a) =
    e1 ∙ unfold bits_of in ap (λ (l : List ℕ). remainder (l ++ l) (bits_of 8 a)) e in
    simp append-nil
    (rw (remainder_append, remainder_append, remainder_append, ← first, ← e2, ← e3, ← e4, map-append, ex, ey))

-- eight bits, each a complement
pub complement_eight : (x0 x1 x2 x3 x4 x5 x6 x7 b0 b1 b2 b3 b4 b5 b6 b7 : ℕ)
    → b0 ≡ x0 ⊕ 1 → b1 ≡ x1 ⊕ 1 → b2 ≡ x2 ⊕ 1 → b3 ≡ x3 ⊕ 1 → b4 ≡ x4 ⊕ 1 → b5 ≡ x5 ⊕ 1 → b6 ≡ x6 ⊕ 1 → b7 ≡ x7 ⊕ 1
    → b0 ∷ b1 ∷ b2 ∷ b3 ∷ b4 ∷ b5 ∷ b6 ∷ b7 ∷ [] ≡ complement (x0 ∷ x1 ∷ x2 ∷ x3 ∷ x4 ∷ x5 ∷ x6 ∷ x7 ∷ [])
complement_eight x0 x1 x2 x3 x4 x5 x6 x7 b0 b1 b2 b3 b4 b5 b6 b7 e0 e1 e2 e3 e4 e5 e6 e7 = cc
