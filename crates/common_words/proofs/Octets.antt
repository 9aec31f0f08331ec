-- Small numbers side by side in one, an octet for each, taken apart again: `quarters_octets`; the words made so.
--     cck_sums       a CCK word
--     five_sums      a word of 5.5 Mbit/s, from that of p1 = 0
-- By induction: the lowest octet leaves a remainder and the others a quotient. Assumes nothing.
use mathlib.Core.Path.{◌≡◌, refl, ap, ap₂, ◌∙◌}
use mathlib.Core.List.{List, [], ◌∷◌, map}
use Prim.Native.Nat.{ℕ, ◌+◌, ◌*◌, ◌/◌, ◌%◌, ◌<◌}
use native.Mathlib.Omega.{arith}
use Rattle.std.specs.Int.{from_le_bytes, w64}
use lib.ListN.{length, get_or}
use Rattle.base.specs.Below.{Below}
use Rattle.base.proofs.Below.{below_head, below_tail, below_eight}
use Rattle.rules_chips.specs.Chips.{turned}
use Rattle.rules_symbols.specs.Words.{cck_word}
use Rattle.common_words.specs.Octets.{together, quarters}
use Rattle.rules_symbols.proofs.Words.{five_table, five_word, five_at_lem, cck_turned}

quarters_octets : (cs : List ℕ) → Below 256 cs → quarters (length cs) (together cs) ≡ map (λ (c : ℕ). c % 4) cs
unfolding together quarters
quarters_octets [] h = refl
quarters_octets (c ∷ cs) h =
    ap₂ {B = List ℕ} (λ x xs. x ∷ xs) (low c (together cs) (below_head h))
    (ap (quarters (length cs)) (high c (together cs) (below_head h)) ∙ quarters_octets cs (below_tail h))
  where
    low : (c t : ℕ) → c < 256 → (c + 256 * t) % 4 ≡ c % 4
    low c t l = omega arith

    high : (c t : ℕ) → c < 256 → (c + 256 * t) / 256 ≡ t
    high c t l = omega arith

-- each octet of eight is a phase
pub quarters_small : (w : ℕ) (q : List ℕ) → q ≡ quarters 8 w → (get_or q 3 0 < 4) × (get_or q 6 0 < 4)
unfolding quarters
quarters_small w q e = rw e (omega arith, omega arith)

-- ---- a CCK word: eight sums of phases below 64, two of them half a turn on
module _ (p1 p2 p3 p4 : ℕ) where
  abbrev sums : List ℕ
  sums =
      (p1 + p2 + p3 + p4)
      ∷ (p1 + p3 + p4)
      ∷ (p1 + p2 + p4)
      ∷ (p1 + p4)
      ∷ (p1 + p2 + p3)
      ∷ (p1 + p3)
      ∷ (p1 + p2)
      ∷ p1
      ∷ []

  sums_below : p1 < 64 → p2 < 64 → p3 < 64 → p4 < 64 → Below 256 sums
  sums_below h1 h2 h3 h4 =
      below_eight (omega arith) (omega arith) (omega arith) (omega arith) (omega arith) (omega arith) (omega arith)
      (omega arith)

  sums_together :
      0x0101010101010101 * p1 + 0x0001000100010001 * p2 + 0x0000010100000101 * p3 + 0x0000000001010101 * p4
      ≡ together sums
  unfolding together
  sums_together = omega arith

-- the eight entries, two of them half a turn on
abbrev halved : List ℕ → List ℕ
halved q =
    get_or q 0 0 ∷ get_or q 1 0 ∷ get_or q 2 0 ∷ (get_or q 3 0 + 2) % 4 ∷ get_or q 4 0 ∷ get_or q 5 0 ∷ (get_or q 6 0 + 2) % 4
    ∷ get_or q 7 0 ∷ []

pub cck_sums : (p1 p2 p3 p4 w : ℕ) (q : List ℕ)
    → w
    ≡ 0x0101010101010101 * (p1 % 64) + 0x0001000100010001 * (p2 % 64) + 0x0000010100000101 * (p3 % 64)
    + 0x0000000001010101 * (p4 % 64)
    → q ≡ quarters 8 w → halved q ≡ cck_word p1 p2 p3 p4
unfolding cck_word
cck_sums p1 p2 p3 p4 w q e f =
    ap halved
    (f ∙ ap (quarters 8) (e ∙ sums_together (p1 % 64) (p2 % 64) (p3 % 64) (p4 % 64))
    ∙ quarters_octets (sums (p1 % 64) (p2 % 64) (p3 % 64) (p4 % 64))
    (sums_below _ _ _ _ (omega arith) (omega arith) (omega arith) (omega arith)))
    ∙ (λ i.
    four p1 p2 p3 p4 i ∷ three p1 p3 p4 i ∷ three p1 p2 p4 i ∷ half p1 p4 i ∷ three p1 p2 p3 i ∷ two p1 p3 i
    ∷ half p1 p2 i ∷ one p1 i ∷ [])
  where
    front : (a b x y : ℕ) → (a % 64 + b % 64 + x + y) % 4 ≡ (a + b + x + y) % 4
    front a b x y = omega arith

    back : (x c d : ℕ) → (x + c % 64 + d % 64) % 4 ≡ (x + c + d) % 4
    back x c d = omega arith

    four : (a b c d : ℕ) → (a % 64 + b % 64 + c % 64 + d % 64) % 4 ≡ (a + b + c + d) % 4
    four a b c d = front a b (c % 64) (d % 64) ∙ back (a + b) c d

    three : (a b c : ℕ) → (a % 64 + b % 64 + c % 64) % 4 ≡ (a + b + c) % 4
    three a b c = omega arith

    two : (a b : ℕ) → (a % 64 + b % 64) % 4 ≡ (a + b) % 4
    two a b = omega arith

    half : (a b : ℕ) → ((a % 64 + b % 64) % 4 + 2) % 4 ≡ (a + b + 2) % 4
    half a b = omega arith

    one : (a : ℕ) → a % 64 % 4 ≡ a % 4
    one a = omega arith

-- ---- a row of phases turned
module _ (c0 c1 c2 c3 c4 c5 c6 c7 p : ℕ) (h0 : c0 < 4) (h1 : c1 < 4) (h2 : c2 < 4) (h3 : c3 < 4) (h4 : c4 < 4)
    (h5 : c5 < 4) (h6 : c6 < 4) (h7 : c7 < 4) where
  abbrev row : List ℕ
  row = c0 ∷ c1 ∷ c2 ∷ c3 ∷ c4 ∷ c5 ∷ c6 ∷ c7 ∷ []

  raised : together row + 0x0101010101010101 * (p % 4) ≡ together (map (λ (c : ℕ). c + p % 4) row)
  unfolding together
  raised = omega arith

  row_turned : quarters 8 (together row + 0x0101010101010101 * (p % 4)) ≡ map (turned p) row
  row_turned =
      ap (quarters 8) raised
      ∙ quarters_octets (map (λ (c : ℕ). c + p % 4) row)
      (below_eight (omega arith) (omega arith) (omega arith) (omega arith) (omega arith) (omega arith) (omega arith)
      (omega arith))
      ∙ (λ i. on c0 i ∷ on c1 i ∷ on c2 i ∷ on c3 i ∷ on c4 i ∷ on c5 i ∷ on c6 i ∷ on c7 i ∷ [])
    where
      on : (c : ℕ) → (c + p % 4) % 4 ≡ (p + c) % 4
      on c = omega arith

-- ---- the words of 5.5 Mbit/s, from the table's row
abbrev pub entries : List ℕ → List ℕ
entries r =
    get_or r 0 0 ∷ get_or r 1 0 ∷ get_or r 2 0 ∷ get_or r 3 0 ∷ get_or r 4 0 ∷ get_or r 5 0 ∷ get_or r 6 0 ∷ get_or r 7 0 ∷ []

pub bytes_together : (r : List ℕ) → from_le_bytes w64 r ≡ together (entries r)
unfolding together
bytes_together r = omega arith

entries_word : (p1 p2 p3 p4 : ℕ) → entries (cck_word p1 p2 p3 p4) ≡ cck_word p1 p2 p3 p4
unfolding cck_word
entries_word p1 p2 p3 p4 = refl

word_turned : (p p1 p2 p3 p4 : ℕ)
    → quarters 8 (together (cck_word p1 p2 p3 p4) + 0x0101010101010101 * (p % 4)) ≡ map (turned p) (cck_word p1 p2 p3 p4)
unfolding cck_word
word_turned p p1 p2 p3 p4 =
    row_turned _ _ _ _ _ _ _ _ p (omega arith) (omega arith) (omega arith) (omega arith) (omega arith) (omega arith)
    (omega arith) (omega arith)

row_is : (d : ℕ) → entries (get_or five_table (d % 4) []) ≡ five_word 0 (d % 4)
row_is d = ap entries (five_at_lem (d % 4) (omega arith)) ∙ entries_word _ _ _ _

pub five_sums : (p d w : ℕ) (q : List ℕ) → w ≡ together (entries (get_or five_table (d % 4) []))
    → q ≡ quarters 8 (w + 0x0101010101010101 * (p % 4)) → q ≡ cck_word p (2 * (d / 2 % 2) + 1) 0 (2 * (d % 2))
five_sums p d w q e f =
    let high : d % 4 / 2 ≡ d / 2 % 2 = omega arith in
    let low : d % 4 % 2 ≡ d % 2 = omega arith in
    f
    ∙ ap (λ (t : ℕ). quarters 8 (t + 0x0101010101010101 * (p % 4))) (e ∙ ap together (row_is d))
    ∙ word_turned p 0 _ _ _ ∙ cck_turned p _ _ _ ∙ rw (high, low)
