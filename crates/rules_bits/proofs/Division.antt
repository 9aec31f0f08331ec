-- The CRC as a division (RULES 5.13), for every register of sixteen bits and every row of bits: a step that were wrong
-- beside one register only is refused here. A row of bits is a polynomial over two elements, highest term first.
--     divided             the register with zeros after it, plus the bits with sixteen zeros after them, is a multiple
--                         of x^16 + x^12 + x^5 + 1 and the remainder
--     divided_only        and no other row of sixteen bits remains
--     crc_divided, crc_only    so of the CRC: complemented it is what remains after the preset of ones, and nothing
--                         else is
-- By induction on the bits. Assumes nothing.
use mathlib.Core.Path.{◌≡◌, refl, sym, ap, ap₂, ◌∙◌}
use mathlib.Core.List.{List, [], ◌∷◌, ◌++◌, map, append-nil, append_assoc}
use Prim.Native.Nat.{ℕ, zero, suc, ◌+◌, ◌*◌, ◌<◌}
use native.Mathlib.Omega.{arith}
use lib.ListN.{length, get_or, drop, replicate, length-append, length-replicate}
use Rattle.base.specs.Below.{Below}
use Rattle.base.proofs.Below.{below_nil, below_cons, below_head, below_tail, below_append, below_drop, below_replicate}
use Rattle.rules_bits.specs.Bits.{◌⊕◌}
use Rattle.rules_bits.specs.Crc.{polynomial, add_where, crc_step, remainder, complement, crc_bits}
use Rattle.rules_bits.proofs.Crc.{step_length, remainder_length}

-- ---- polynomials

-- rows of one length are added term by term
unfoldable pub plus : List ℕ → List ℕ → List ℕ
plus [] ys = []
plus (x ∷ xs) [] = []
plus (x ∷ xs) (y ∷ ys) = (x ⊕ y) ∷ plus xs ys

-- x^16 + x^12 + x^5 + 1
abbrev pub divisor : List ℕ
divisor = 1 ∷ 0 ∷ 0 ∷ 0 ∷ 1 ∷ 0 ∷ 0 ∷ 0 ∷ 0 ∷ 0 ∷ 0 ∷ 1 ∷ 0 ∷ 0 ∷ 0 ∷ 0 ∷ 1 ∷ []

-- a row times the divisor: sixteen terms more
unfoldable pub times : List ℕ → List ℕ
times [] = replicate 16 0
times (q ∷ qs) = plus (map (λ (t : ℕ). q * t) divisor ++ replicate (length qs) 0) (0 ∷ times qs)

-- what remains, s, of a register r and the bits bs after it
pub record Divided (r bs s : List ℕ) : Type 0 where
  pub quotient : List ℕ
  pub long : length quotient ≡ length bs
  pub bits : Below 2 quotient
  pub sum : plus (r ++ replicate (length bs) 0) (bs ++ replicate 16 0)
      ≡ plus (times quotient) (replicate (length bs) 0 ++ s)

-- ---- laws of sums

plus_assoc : (a b c : List ℕ) → plus (plus a b) c ≡ plus a (plus b c)
unfolding plus
plus_assoc [] b c = refl
plus_assoc (x ∷ a) [] c = refl
plus_assoc (x ∷ a) (y ∷ b) [] = refl
plus_assoc (x ∷ a) (y ∷ b) (z ∷ c) =
    ap₂ {C = List ℕ} (λ (u : ℕ) (l : List ℕ). u ∷ l) (omega arith) (plus_assoc a b c)

plus_comm : (a b : List ℕ) → plus a b ≡ plus b a
unfolding plus
plus_comm [] [] = refl
plus_comm [] (y ∷ b) = refl
plus_comm (x ∷ a) [] = refl
plus_comm (x ∷ a) (y ∷ b) = ap₂ {C = List ℕ} (λ (u : ℕ) (l : List ℕ). u ∷ l) (omega arith) (plus_comm a b)

plus_append : (a b c d : List ℕ) → length a ≡ length b → plus (a ++ c) (b ++ d) ≡ plus a b ++ plus c d
unfolding plus
plus_append [] [] c d e = refl
plus_append [] (y ∷ b) c d e = absurd (omega arith)
plus_append (x ∷ a) [] c d e = absurd (omega arith)
plus_append (x ∷ a) (y ∷ b) c d e = ap (λ (l : List ℕ). (x ⊕ y) ∷ l) (plus_append a b c d (omega arith))

plus_zeros : (n : ℕ) → plus (replicate n 0) (replicate n 0) ≡ replicate n 0
unfolding plus
plus_zeros zero = refl
plus_zeros (suc n) = ap (λ (l : List ℕ). 0 ∷ l) (plus_zeros n)

plus_length : (a b : List ℕ) → length a ≡ length b → length (plus a b) ≡ length b
unfolding plus
plus_length [] b e = e
plus_length (x ∷ a) [] e = absurd (omega arith)
plus_length (x ∷ a) (y ∷ b) e = ap suc (plus_length a b (omega arith))

plus_below : (a b : List ℕ) → Below 2 (plus a b)
unfolding plus
plus_below [] b = below_nil 2 (omega arith)
plus_below (x ∷ a) [] = below_nil 2 (omega arith)
plus_below (x ∷ a) (y ∷ b) = below_cons (omega arith) (plus_below a b)

-- what is added to a row of as many terms can be taken off
cancel : (a u v : List ℕ) → length a ≡ length u → length a ≡ length v → Below 2 u → Below 2 v
    → plus a u ≡ plus a v → u ≡ v
unfolding plus
cancel [] [] [] eu ev hu hv e = refl
cancel [] [] (z ∷ v) eu ev hu hv e = absurd (omega arith)
cancel [] (y ∷ u) v eu ev hu hv e = absurd (omega arith)
cancel (x ∷ a) [] v eu ev hu hv e = absurd (omega arith)
cancel (x ∷ a) (y ∷ u) [] eu ev hu hv e = absurd (omega arith)
cancel (x ∷ a) (y ∷ u) (z ∷ v) eu ev hu hv e =
    let head : x ⊕ y ≡ x ⊕ z = ap (λ (l : List ℕ). get_or l 0 0) e in
    let first : y < 2 = below_head hu in
    let second : z < 2 = below_head hv in
    ap₂ {C = List ℕ} (λ (w : ℕ) (l : List ℕ). w ∷ l) (omega arith)
    (cancel a u v (omega arith) (omega arith) (below_tail hu) (below_tail hv) (ap (λ (l : List ℕ). drop 1 l) e))

times_length : (q : List ℕ) → length (times q) ≡ length q + 16
unfolding times
times_length [] = refl
times_length (x ∷ q) =
    plus_length (map (λ (t : ℕ). x * t) divisor ++ replicate (length q) 0) (0 ∷ times q)
    (omega (
      arith,
      length-append (map (λ (t : ℕ). x * t) divisor) (replicate (length q) 0),
      length-replicate {A = ℕ} (length q) 0,
      times_length q,
    ))
    ∙ omega (arith, times_length q)

-- ---- a step

-- the polynomial, added where the step adds it, is taken off by adding it once more
undone : (f : ℕ) (xs ts : List ℕ) → f < 2 → Below 2 xs → Below 2 ts → length xs ≡ length ts
    → plus (map (λ (t : ℕ). f * t) ts) (add_where f xs ts) ≡ xs
unfolding plus add_where
undone f [] [] hf hx ht e = refl
undone f (x ∷ xs) [] hf hx ht e = absurd (omega arith)
undone f [] (t ∷ ts) hf hx ht e = absurd (omega arith)
undone f (x ∷ xs) (zero ∷ ts) hf hx ht e =
    let bit : x < 2 = below_head hx in
    ap₂ {C = List ℕ} (λ (w : ℕ) (l : List ℕ). w ∷ l) (omega arith)
    (undone f xs ts hf (below_tail hx) (below_tail ht) (omega arith))
undone f (x ∷ xs) (suc zero ∷ ts) hf hx ht e =
    let bit : x < 2 = below_head hx in
    ap₂ {C = List ℕ} (λ (w : ℕ) (l : List ℕ). w ∷ l) (omega arith)
    (undone f xs ts hf (below_tail hx) (below_tail ht) (omega arith))
undone f (x ∷ xs) (suc (suc t) ∷ ts) hf hx ht e = let term : suc (suc t) < 2 = below_head ht in absurd (omega arith)

add_where_below : (f : ℕ) (xs ts : List ℕ) → Below 2 xs → Below 2 (add_where f xs ts)
unfolding add_where
add_where_below f xs [] h = below_nil 2 (omega arith)
add_where_below f [] (t ∷ ts) h = h
add_where_below f (x ∷ xs) (zero ∷ ts) h = below_cons (below_head h) (add_where_below f xs ts (below_tail h))
add_where_below f (x ∷ xs) (suc t ∷ ts) h = below_cons (omega arith) (add_where_below f xs ts (below_tail h))

terms : Below 2 polynomial
terms =
    below_append (below_replicate {x = 0} 3 (omega arith))
    (below_cons {x = 1} (omega arith)
    (below_append (below_replicate {x = 0} 6 (omega arith))
    (below_cons {x = 1} (omega arith)
    (below_append (below_replicate {x = 0} 4 (omega arith))
    (below_cons {x = 1} (omega arith) (below_nil 2 (omega arith)))))))

step_below : (r : List ℕ) (b : ℕ) → Below 2 r → Below 2 (crc_step r b)
unfolding crc_step
step_below r b h =
    add_where_below _ (drop 1 r ++ (0 ∷ [])) polynomial
    (below_append (below_drop 1 h) (below_cons (omega arith) (below_nil 2 (omega arith))))

remainder_below : (r bs : List ℕ) → Below 2 r → Below 2 (remainder r bs)
unfolding remainder
remainder_below r [] h = h
remainder_below r (b ∷ bs) h = remainder_below (crc_step r b) bs (step_below r b h)

-- of a register whose first term is x
step_undone : (x : ℕ) (xs : List ℕ) (b : ℕ) → length xs ≡ 15 → Below 2 xs
    → plus (map (λ (t : ℕ). (x ⊕ b) * t) polynomial) (crc_step (x ∷ xs) b) ≡ xs ++ (0 ∷ [])
unfolding crc_step
step_undone x xs b e h =
    undone (x ⊕ b) (xs ++ (0 ∷ [])) polynomial (omega arith)
    (below_append h (below_cons (omega arith) (below_nil 2 (omega arith)))) terms
    (omega (arith, length-append xs (0 ∷ [])))

-- ---- the division

-- one bit more before the others; x is the register's first term
divided_more : (x b : ℕ) (xs bs s q : List ℕ) → length xs ≡ 15 → Below 2 xs
    → plus (crc_step (x ∷ xs) b ++ replicate (length bs) 0) (bs ++ replicate 16 0)
    ≡ plus (times q) (replicate (length bs) 0 ++ s)
    → length q ≡ length bs
    → plus (xs ++ (0 ∷ replicate (length bs) 0)) (bs ++ replicate 16 0)
    ≡ plus (plus (map (λ (t : ℕ). (x ⊕ b) * t) polynomial ++ replicate (length q) 0) (times q))
    (replicate (length bs) 0 ++ s)
divided_more x b xs bs s q e h known long =
    let more : List ℕ = map (λ (t : ℕ). (x ⊕ b) * t) polynomial in
    let zeros : List ℕ = replicate (length bs) 0 in
    let left : length more ≡ length (crc_step (x ∷ xs) b) = sym (step_length (x ∷ xs) b (omega arith)) in
    let joined : plus (more ++ zeros) (crc_step (x ∷ xs) b ++ zeros) ≡ xs ++ (0 ∷ zeros) =
    plus_append more (crc_step (x ∷ xs) b) zeros zeros left
    ∙ ap₂ {C = List ℕ} (λ (u v : List ℕ). u ++ v) (step_undone x xs b e h) (plus_zeros (length bs))
    ∙ append_assoc xs (0 ∷ []) zeros in
    rw long
    (sym
    (plus_assoc (more ++ zeros) (times q) (zeros ++ s)
    ∙ ap (λ (l : List ℕ). plus (more ++ zeros) l) (sym known)
    ∙ sym (plus_assoc (more ++ zeros) (crc_step (x ∷ xs) b ++ zeros) (bs ++ replicate 16 0))
    ∙ ap (λ (l : List ℕ). plus l (bs ++ replicate 16 0)) joined))

pub divided : (r bs : List ℕ) → length r ≡ 16 → Below 2 r → Below 2 bs → Divided r bs (remainder r bs)
unfolding remainder plus times
divided r [] e h k =
    record {
      quotient = [];
      long = refl;
      bits = below_nil 2 (omega arith);
      sum = ap (λ (l : List ℕ). plus l (replicate 16 0)) (append-nil r) ∙ plus_comm r (replicate 16 0);
    }
divided [] (b ∷ bs) e h k = absurd (omega arith)
divided (x ∷ xs) (b ∷ bs) e h k =
    let rest = divided (crc_step (x ∷ xs) b) bs (step_length (x ∷ xs) b e) (step_below (x ∷ xs) b h) (below_tail k)
    in
    record {
      quotient = (x ⊕ b) ∷ rest.quotient;
      long = ap suc rest.long;
      bits = below_cons (omega arith) rest.bits;
      sum =
          ap₂ {C = List ℕ} (λ (u : ℕ) (l : List ℕ). u ∷ l) (omega arith)
          (divided_more x b xs bs _ rest.quotient (omega arith) (below_tail h) rest.sum rest.long);
    }

more_length : (x n : ℕ) → length (map (λ (t : ℕ). x * t) polynomial ++ replicate n 0) ≡ n + 16
more_length x n =
    omega
    (arith, length-append (map (λ (t : ℕ). x * t) polynomial) (replicate n 0), length-replicate {A = ℕ} n 0)

sum_length : (n : ℕ) (q s : List ℕ) → length q ≡ n → length s ≡ 16
    → length (plus (times q) (replicate n 0 ++ s)) ≡ n + 16
sum_length n q s e es =
    let zeros = length-replicate {A = ℕ} n 0 in
    let whole = length-append (replicate n 0) s in
    plus_length (times q) (replicate n 0 ++ s) (omega (arith, times_length q)) ∙ omega arith

-- two rows of sixteen bits that remain of one sum are equal, whatever the quotients
remains_once : (q p s t : List ℕ) → length q ≡ length p → Below 2 q → Below 2 p
    → length s ≡ 16 → length t ≡ 16 → Below 2 s → Below 2 t
    → plus (times q) (replicate (length q) 0 ++ s) ≡ plus (times p) (replicate (length q) 0 ++ t) → s ≡ t
unfolding plus times
remains_once [] [] s t e hq hp es et hs ht known = cancel (replicate 16 0) s t (sym es) (sym et) hs ht known
remains_once [] (y ∷ p) s t e hq hp es et hs ht known = absurd (omega arith)
remains_once (x ∷ q) [] s t e hq hp es et hs ht known = absurd (omega arith)
remains_once (x ∷ q) (y ∷ p) s t e hq hp es et hs ht known =
    let more : List ℕ = map (λ (t : ℕ). x * t) polynomial ++ replicate (length q) 0 in
    let zeros : List ℕ = replicate (length q) 0 in
    let head : ((x * 1 ⊕ 0) ⊕ 0) ≡ ((y * 1 ⊕ 0) ⊕ 0) = ap (λ (l : List ℕ). get_or l 0 0) known in
    let bit : x < 2 = below_head hq in
    let other : y < 2 = below_head hp in
    let same : y ≡ x = omega arith in
    let long : length q ≡ length p = omega arith in
    let first : plus (plus more (times q)) (zeros ++ s) ≡ plus (plus more (times p)) (zeros ++ t) =
    ap (λ (l : List ℕ). drop 1 l) known
    ∙ ap₂ {C = List ℕ}
    (λ (v n : ℕ). plus (plus (map (λ (t : ℕ). v * t) polynomial ++ replicate n 0) (times p)) (zeros ++ t))
    same (sym long) in
    remains_once q p s t long (below_tail hq) (below_tail hp) es et hs ht
    (cancel more (plus (times q) (zeros ++ s)) (plus (times p) (zeros ++ t))
    (more_length x (length q) ∙ sym (sum_length (length q) q s refl es))
    (more_length x (length q) ∙ sym (sum_length (length q) p t (sym long) et))
    (plus_below (times q) (zeros ++ s)) (plus_below (times p) (zeros ++ t))
    (sym (plus_assoc more (times q) (zeros ++ s)) ∙ first ∙ plus_assoc more (times p) (zeros ++ t)))

pub divided_only : (r bs s : List ℕ) → length r ≡ 16 → Below 2 r → Below 2 bs → length s ≡ 16 → Below 2 s
    → Divided r bs s → s ≡ remainder r bs
divided_only r bs s e h k es hs d =
    let right = divided r bs e h k in
    remains_once d.quotient right.quotient s (remainder r bs) (d.long ∙ sym right.long) d.bits
    right.bits es (remainder_length r bs e) hs (remainder_below r bs h)
    (rw d.long (sym d.sum ∙ right.sum))

-- ---- the CRC

complement_twice : (bs : List ℕ) → Below 2 bs → complement (complement bs) ≡ bs
complement_twice [] h = refl
complement_twice (b ∷ bs) h =
    let bit : b < 2 = below_head h in
    ap₂ {C = List ℕ} (λ (x : ℕ) (l : List ℕ). x ∷ l) (omega arith) (complement_twice bs (below_tail h))

ones : Below 2 (replicate 16 1)
ones = below_replicate 16 (omega arith)

-- promise: The CRC is what remains of a division by x^16 + x^12 + x^5 + 1, for every register and every row of bits,
-- and nothing else remains
-- rule: 5.13
-- code: crc_octets
-- with: crc_only, divided, divided_only
pub crc_divided : (bs : List ℕ) → Below 2 bs → Divided (replicate 16 1) bs (complement (crc_bits bs))
unfolding crc_bits
crc_divided bs h =
    rw (complement_twice (remainder (replicate 16 1) bs) (remainder_below (replicate 16 1) bs ones))
    (divided (replicate 16 1) bs refl ones h)

pub crc_only : (bs s : List ℕ) → Below 2 bs → length s ≡ 16 → Below 2 s
    → Divided (replicate 16 1) bs s → complement s ≡ crc_bits bs
unfolding crc_bits
crc_only bs s h e k d = ap complement (divided_only (replicate 16 1) bs s refl ones h e k d)
