-- One key of all 128 pairs of opposite words: 16 times the key within a group, and 15 less the group's number.
--     raised           the sums of a group are 16 times the scores of its words, and 4 more
--     one_of, alike    the better word of a pair, and that there is one
--     lifted_key ..    what is read off a key that is lifted by 11
--     size_at_lem, size_is what it scores, from its key within its group
-- Assumes nothing.
use mathlib.Core.Path.{◌≡◌, refl, sym, ap, ◌∙◌}
use mathlib.Core.List.{List}
use mathlib.Core.Logic.{⊎_elim}
use Prim.Native.Nat.{ℕ, ◌+◌, ◌*◌, ◌-◌, ◌/◌, ◌%◌, ◌≤◌, ◌<◌}
use native.Mathlib.Nat.{mod-add-mod}
use native.Mathlib.Omega.{arith}
use lib.IntN.{ℤ, pos, negsuc, neg_ℤ, nat_abs, ◌+ℤ◌}
use lib.Signed.{◌≤ℤ◌}
use Rattle.base.specs.Whole.{up, dn}
use Rattle.base.proofs.Whole.{add, of_le, le_of, up_pos, dn_pos}
use Rattle.rules_rates.specs.declared.Rate.TheVariants.{Eleven}
use Rattle.rules_chips.specs.declared.Counts.{Counts}
use Rattle.rules_symbols.specs.Words.{cck_word, cck_of}
use Rattle.rules_symbols.specs.Choice.{score}
use Rattle.rules_choosing.specs.Scores.{score_at}
use Rattle.rules_choosing.specs.Keys.{key_of}
use Rattle.rules_choosing.proofs.HalfTurns.{cck_half}
use Rattle.rules_choosing.proofs.KeyLaws.{Better, better, number_below}
use Rattle.choose_sums.specs.Sums.{rows, every_row}
use Rattle.rules_choosing.proofs.Wide.{key_abs}
use Rattle.choose_walsh.specs.Rows.{Entered, Paired, evens, odds}
use Rattle.choose_walsh.proofs.Turns.{turn}
use Rattle.choose_walsh.proofs.Tops.{Lifted, sides}
use Rattle.choose_walsh.proofs.Groups.{key_in, Raised}
use Rattle.choose_walsh.proofs.Scores.{column_sum}

-- ---- one key of two
joined : (m g : ℕ) (z : ℤ) → m < 8 → g < 16 → key_of 128 (16 * m + g) z ≡ 16 * key_of 8 m z + (15 - g)
unfolding key_of
joined m g (pos s) h k = omega arith
joined m g (negsuc s) h k = omega arith

-- the word of number 16 m + g
word_is : (m g : ℕ) → m < 8 → g < 16 → cck_word (m / 4) (m % 4) (g / 4) (g % 4) ≡ cck_of (16 * m + g)
word_is m g h k = λ i. cck_word (e1 i) (e2 i) (e3 i) (e4 i)
  where
    e1 : m / 4 ≡ (16 * m + g) / 64 % 4
    e1 = let d : (16 * m + g) / 64 ≡ m / 4 = omega arith in rw d (omega arith)

    e2 : m % 4 ≡ (16 * m + g) / 16 % 4
    e2 = let d : (16 * m + g) / 16 ≡ m = omega arith in rw d refl

    e3 : g / 4 ≡ (16 * m + g) / 4 % 4
    e3 = let d : (16 * m + g) / 4 ≡ 4 * m + g / 4 = omega arith in rw d (omega arith)

    e4 : g % 4 ≡ (16 * m + g) % 4
    e4 = omega arith

-- ---- the number read off a key that is lifted
pub lifted_key : (v : ℤ) (k : ℕ) → Lifted 11 k v → pos 0 ≤ℤ v → k ≡ nat_abs v + 11
lifted_key (pos n) k h l = omega (arith, h.is, up_pos n, dn_pos n)
lifted_key (negsuc n) k h l = absurd l.le

pub number_read : (n k g : ℕ) → k ≡ n + 11 → g < 16
    → 255 - (16 * k + (15 - g)) % 256 ≡ 16 * (15 - (n % 16 + 11) % 16) + g
number_read n k g e h =
    let a : (16 * k + (15 - g)) % 256 ≡ 16 * (k % 16) + (15 - g) = omega arith in
    let b : (n % 16 + 11) % 16 ≡ k % 16 = mod-add-mod n 16 11 ∙ ap (λ (j : ℕ). j % 16) (sym e) in
    let c : k % 16 < 16 = omega arith in
    rw (a, b) (last (k % 16) g c h)
  where
    last : (r g : ℕ) → r < 16 → g < 16 → 255 - (16 * r + (15 - g)) ≡ 16 * (15 - r) + g
    last r g a b = omega arith

pub lifted_one : {n m : ℕ} {z : ℤ} → Lifted 11 n z → Lifted 11 m z → n ≡ m
lifted_one h k = omega (arith, h.is, k.is)

pub raise : (n m : ℕ) → n ≤ m → pos n ≤ℤ pos m
raise n m h = le_of (pos n) (pos m) (omega (arith, up_pos n, dn_pos n, up_pos m, dn_pos m))

pub up_minus : (up (negsuc 1) ≡ 0) × (dn (negsuc 1) ≡ 2)
unfolding up dn
up_minus = (refl, refl)

-- a key that is not far below 0, lifted
pub size_lifted : (z : ℤ) → negsuc 1 ≤ℤ z → Lifted 11 (nat_abs (z +ℤ pos 11)) z
unfolding up dn
size_lifted z h =
    let l = of_le (negsuc 1) z h in
    let s = add z (pos 11) in
    ⊎_elim (λ x. record { is = omega arith }) (λ x. record { is = omega arith }) (sides (z +ℤ pos 11))

sixteenth : (k s n i g : ℕ) → k ≡ 256 * s + (255 - n) → n < 256 → k ≡ 16 * i + (15 - g) → g < 16 → s ≡ i / 16
sixteenth k s n i g e l d q = omega arith

-- ---- a column
module _ (row z a : List ℤ) (l : ℕ) (few : l < 16) (h : Entered row z) (p : Paired z a) where
  abbrev pub symbol : List Counts
  symbol = rows (every_row row l 8) (every_row row (16 + l) 8)

  abbrev pub f : ℕ → ℤ
  f = score_at Eleven symbol

  abbrev pub y : ℕ → Counts
  y g = odds a l (g / 4) (g % 4)

  abbrev pub x : ℕ → Counts
  x g = evens a l (g / 4) (g % 4)

  abbrev pub raised : (g : ℕ) → g < 16 → Raised (y g) (x g)
  raised g k = record {
    of = λ m. score (cck_word (m / 4) (m % 4) (g / 4) (g % 4)) symbol;
    is = λ m b. column_sum row z a l few h p (g / 4) (g % 4) (omega arith) (turn g) (m / 4) (m % 4) (omega arith)
        (turn m);
  }

  -- the keys of a group are those of its words
  key_is : (m g : ℕ) → m < 8 → g < 16 → key_in (y g) (x g) m ≡ key_of 8 m (f (16 * m + g))
  key_is m g b k =
      ap (λ (s : ℤ). nat_abs s + (11 - m)) ((raised g k).is m b)
      ∙ key_abs 4 m (score (cck_word (m / 4) (m % 4) (g / 4) (g % 4)) symbol) b
      ∙ ap (λ (w : List ℕ). key_of 8 m (score w symbol)) (word_is m g b k)

  abbrev pub key : ℕ → ℕ
  key j = key_of 128 j (f j)

  pub whole : (m g : ℕ) → m < 8 → g < 16 → key (16 * m + g) ≡ 16 * key_in (y g) (x g) m + (15 - g)
  whole m g b k = joined m g (f (16 * m + g)) b k ∙ ap (λ (n : ℕ). 16 * n + (15 - g)) (sym (key_is m g b k))

  -- the better word of two opposite ones, and its score
  opposite : (j : ℕ) → j < 128 → f (j + 128) ≡ neg_ℤ (f j)
  opposite j b =
      let e : j + 128 ≡ 128 + j = omega arith in
      ap f e ∙ sym (cck_half symbol j b)

  pub one_of : (j : ℕ) → j < 128 → Better 128 f j (key j)
  one_of j b = better 128 f j (f j) b refl (opposite j b)

  pub size_at_lem : (m g : ℕ) (b : m < 8) (k : g < 16) (c : 16 * m + g < 128)
      → (one_of (16 * m + g) c).size ≡ key_in (y g) (x g) m / 16
  size_at_lem m g b k c =
      sixteenth (key (16 * m + g)) (one_of (16 * m + g) c).size (one_of (16 * m + g) c).number (key_in (y g) (x g) m) g
      (one_of (16 * m + g) c).is (number_below 128 f c (one_of (16 * m + g) c)) (whole m g b k) k

  pub size_is : (j : ℕ) (b : j < 128) → (one_of j b).size ≡ key_in (y (j % 16)) (x (j % 16)) (j / 16) / 16
  size_is j b =
      let e : 16 * (j / 16) + j % 16 ≡ j = omega arith in
      let k = ap key (sym e) ∙ whole (j / 16) (j % 16) (omega arith) (omega arith) in
      sixteenth (key j) (one_of j b).size (one_of j b).number _ (j % 16) (one_of j b).is
      (number_below 128 f b (one_of j b)) k (omega arith)

  -- a pair has one better word
  pub alike : (i j : ℕ) (b : i < 128) (c : j < 128) → i ≡ j → (one_of i b).number ≡ (one_of j c).number
  alike i j b c e =
      unique (key i) (key j) (one_of i b).size (one_of i b).number (one_of j c).size (one_of j c).number (ap key e)
      (one_of i b).is (one_of j c).is (number_below 128 f b (one_of i b)) (number_below 128 f c (one_of j c))
    where
      unique : (k q s n r m : ℕ) → k ≡ q → k ≡ 256 * s + (255 - n) → q ≡ 256 * r + (255 - m) → n < 256 → m < 256 → n ≡ m
      unique k q s n r m d e g a c = omega arith
