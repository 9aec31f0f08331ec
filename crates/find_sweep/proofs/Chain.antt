-- Halves at every chip to marks, step by step: each row is what its definition at a place of the recording says, as far
-- as the halves are known.
-- Assumes nothing.
use mathlib.Core.Path.{◌≡◌, refl, sym, ap, ◌∙◌}
use mathlib.Core.List.{List}
use Prim.Native.Nat.{ℕ, zero, suc, ◌+◌, ◌*◌, ◌/◌, ◌%◌, ◌≤◌, ◌<◌}
use native.Mathlib.Nat.{mod-eq_of_lt}
use native.Mathlib.Omega.{arith}
use lib.Bits.{bit_xor}
use lib.ListN.{get_or}
use Rattle.base.specs.Tables.{tabulate}
use Rattle.rules_rates.specs.declared.Rate.TheVariants.{One}
use Rattle.rules_chips.specs.Chips.{Taken}
use Rattle.rules_bits.specs.Bits.{◌⊕◌, number_of}
use Rattle.rules_choosing.proofs.Decided.{decided_below}
use Rattle.choose_recorded.specs.Recorded.{symbol_at}
use Rattle.find_sweep.specs.Sweep.{
  half_at,
  bit_at,
  plain_at,
  octet_at,
  Row,
  bit_of,
  plain_of,
  joined_of,
  Small,
  MarkedOf,
  Marked,
}

half_lt : (rec : List Taken) (p : ℕ) → half_at rec p < 2
unfolding half_at
half_lt rec p = omega (arith, decided_below One (symbol_at One rec p))

bit_lt : (rec : List Taken) (p : ℕ) → bit_at rec p < 2
unfolding bit_at
bit_lt rec p = omega arith

plain_lt : (rec : List Taken) (p : ℕ) → plain_at rec p < 2
unfolding plain_at
plain_lt rec p = omega arith

-- of two bits
xor_bits_lem : (a b : ℕ) → a < 2 → b < 2 → bit_xor a b ≡ a ⊕ b
xor_bits_lem zero zero h k = refl
xor_bits_lem zero (suc zero) h k = refl
xor_bits_lem (suc zero) zero h k = refl
xor_bits_lem (suc zero) (suc zero) h k = refl
xor_bits_lem zero (suc (suc b)) h k = absurd (omega arith)
xor_bits_lem (suc zero) (suc (suc b)) h k = absurd (omega arith)
xor_bits_lem (suc (suc a)) b h k = absurd (omega arith)

-- and of three
xor_three : (a b c : ℕ) → a < 2 → b < 2 → c < 2 → bit_xor (bit_xor a b) c % 2 ≡ a ⊕ b ⊕ c
xor_three a b c h k l =
    let e : bit_xor (bit_xor a b) c ≡ a ⊕ b ⊕ c =
    ap (λ (x : ℕ). bit_xor x c) (xor_bits_lem a b h k) ∙ xor_bits_lem (a ⊕ b) c (omega arith) l in
    ap (λ (x : ℕ). x % 2) e ∙ mod-eq_of_lt (omega arith)

-- ---- numbers joined
pub plains_small : {f : ℕ → ℕ} {row : List ℕ} → ((j : ℕ) → f j < 2) → Row f 424 row → Small 424 row
plains_small h r = record { long = r.long; each = λ j l. omega (arith, r.each j l, h j) }

pub twos_small : {f : ℕ → ℕ} {plains row : List ℕ} → ((j : ℕ) → f j < 2) → Row f 424 plains
    → Row (joined_of 11 2 plains) 413 row → Small 413 row
twos_small h p r = record {
  long = r.long;
  each = λ j l. omega (arith, r.each j l, p.each j (omega arith), p.each (j + 11) (omega arith), h j, h (j + 11));
}

-- two and four bits from a place, a symbol apart, as numbers
abbrev two_at : List Taken → ℕ → ℕ
two_at rec p = plain_at rec p + 2 * plain_at rec (p + 11)

abbrev four_at : List Taken → ℕ → ℕ
four_at rec p = two_at rec p + 4 * two_at rec (p + 22)

octet_fours : (rec : List Taken) (p : ℕ) → octet_at rec p ≡ four_at rec p + 16 * four_at rec (p + 44)
unfolding octet_at tabulate number_of
octet_fours rec p =
    omega (
      arith,
      is p 0 (omega arith),
      is (p + 11) 1 (omega arith),
      is (p + 22) 2 (omega arith),
      is (p + 22 + 11) 3 (omega arith),
      is (p + 44) 4 (omega arith),
      is (p + 44 + 11) 5 (omega arith),
      is (p + 44 + 22) 6 (omega arith),
      is (p + 44 + 22 + 11) 7 (omega arith),
    )
  where
    is : (q j : ℕ) → q ≡ p + 11 * j → plain_at rec q ≡ plain_at rec (p + 11 * j)
    is q j e = ap (plain_at rec) e

four_lt : (rec : List Taken) (p : ℕ) → four_at rec p < 16
four_lt rec p =
    omega (arith, plain_lt rec p, plain_lt rec (p + 11), plain_lt rec (p + 22), plain_lt rec (p + 22 + 11))

module _ (rec : List Taken) (at m : ℕ) (few : m ≤ 256) where
  -- an entry so many further on
  further : (f : ℕ → ℕ) (j k : ℕ) → f (at + (j + k)) ≡ f (at + j + k)
  further f j k = let e : at + (j + k) ≡ at + j + k = omega arith in ap f e

  pub bits_row : (halves row : List ℕ) → Row (λ j. half_at rec (at + j)) (m + 253) halves → Row (bit_of halves) 501 row
      → Row (λ j. bit_at rec (at + j)) (m + 242) row
  unfolding bit_at
  bits_row halves row p r = record { long = r.long; each = λ j l. r.each j (omega arith) ∙ one j l }
    where
      one : (j : ℕ) → j < m + 242 → bit_of halves j ≡ half_at rec (at + j) ⊕ half_at rec (at + j + 11)
      one j l =
          let here = p.each j (omega arith) in
          let next = p.each (j + 11) (omega arith) ∙ further (half_at rec) j 11 in
          (λ i. bit_xor (here i) (next i)) ∙ xor_bits_lem _ _ (half_lt rec _) (half_lt rec _)

  pub plains_row : (bits row : List ℕ) → Row (λ j. bit_at rec (at + j)) (m + 242) bits → Row (plain_of bits) 424 row
      → Row (λ j. plain_at rec (at + j)) (m + 165) row
  unfolding plain_at
  plains_row bits row b r = record { long = r.long; each = λ j l. r.each j (omega arith) ∙ one j l }
    where
      one : (j : ℕ) → j < m + 165
          → plain_of bits j ≡ bit_at rec (at + j + 77) ⊕ bit_at rec (at + j + 33) ⊕ bit_at rec (at + j)
      one j l =
          let seven = b.each j (omega arith) in
          let four = b.each (j + 33) (omega arith) ∙ further (bit_at rec) j 33 in
          let last = b.each (j + 77) (omega arith) ∙ further (bit_at rec) j 77 in
          (λ i. bit_xor (bit_xor (last i) (four i)) (seven i) % 2)
          ∙ xor_three _ _ _ (bit_lt rec _) (bit_lt rec _) (bit_lt rec _)

  -- numbers by one rule joined
  joined_row : (f : ℕ → ℕ) (apart by n c : ℕ) (xs row : List ℕ) → Row (λ j. f (at + j)) (n + apart) xs → n ≤ c
      → Row (joined_of apart by xs) c row → Row (λ j. f (at + j) + by * f (at + j + apart)) n row
  joined_row f apart by n c xs row x h r = record { long = r.long; each = λ j l. r.each j (omega arith) ∙ one j l }
    where
      one : (j : ℕ) → j < n → joined_of apart by xs j ≡ f (at + j) + by * f (at + j + apart)
      one j l =
          let here = x.each j (omega arith) in
          let next = x.each (j + apart) (omega arith) ∙ further f j apart in
          λ i. here i + by * next i

  pub twos_row : (plains row : List ℕ) → Row (λ j. plain_at rec (at + j)) (m + 165) plains
      → Row (joined_of 11 2 plains) 413 row → Row (λ j. two_at rec (at + j)) (m + 154) row
  twos_row plains row p r = joined_row (plain_at rec) 11 2 (m + 154) 413 plains row (less p) (omega arith) r
    where
      less : Row (λ j. plain_at rec (at + j)) (m + 165) plains → Row (λ j. plain_at rec (at + j)) (m + 154 + 11) plains
      less q = record { long = q.long; each = λ j l. q.each j (omega arith) }

  pub fours_row : (twos row : List ℕ) → Row (λ j. two_at rec (at + j)) (m + 154) twos
      → Row (joined_of 22 4 twos) 391 row → Row (λ j. four_at rec (at + j)) (m + 132) row
  fours_row twos row t r = joined_row (two_at rec) 22 4 (m + 132) 391 twos row (less t) (omega arith) r
    where
      less : Row (λ j. two_at rec (at + j)) (m + 154) twos → Row (λ j. two_at rec (at + j)) (m + 132 + 22) twos
      less q = record { long = q.long; each = λ j l. q.each j (omega arith) }

  pub marked_row : (low high : ℕ) (fours marks : List ℕ) → Row (λ j. four_at rec (at + j)) (m + 132) fours
      → MarkedOf low high fours 256 marks → Marked low high rec at m marks
  marked_row low high fours marks o r = record { long = r.long; each = one }
    where
      here : (j k : ℕ) → j + k < m + 132 → get_or fours (j + k) 0 ≡ four_at rec (at + j + k)
      here j k l = o.each (j + k) l ∙ further (four_at rec) j k

      -- the two numbers of an octet
      lower : (p x : ℕ) → octet_at rec p ≡ x → four_at rec p ≡ x % 16
      lower p x e = omega (arith, octet_fours rec p, four_lt rec p)

      upper : (p x : ℕ) → octet_at rec p ≡ x → four_at rec (p + 44) ≡ x / 16
      upper p x e = omega (arith, octet_fours rec p, four_lt rec p)

      one : (j : ℕ) → j < m → octet_at rec (at + j) ≡ low → octet_at rec (at + j + 88) ≡ high → get_or marks j 0 ≡ 0 → ⊥
      one j l x y =
          let far : at + j + 88 + 44 ≡ at + j + 132 = omega arith in
          r.each j (omega arith) (o.each j (omega arith) ∙ lower (at + j) low x)
          (here j 44 (omega arith) ∙ upper (at + j) low x) (here j 88 (omega arith) ∙ lower (at + j + 88) high y)
          (here j 132 (omega arith) ∙ sym (ap (four_at rec) far) ∙ upper (at + j + 88) high y)
