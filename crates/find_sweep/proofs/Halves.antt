-- Which half of the phases a Barker symbol is decided as. The phases 0 to 3 score I, Q, -I and -Q, its sums by signs,
-- and of equals the first wins: one of the last two wins where I and Q together are below 0. A chip's I and Q together
-- are its side less 1.
--     by_two        the half by two sums
--     side_is       a side, as the code has it
--     half_is       the half by the sides of eleven octets
--     half_there    and by two rows of sides
-- Assumes nothing.
use mathlib.Core.Path.{◌≡◌, refl, sym, ap, ◌∙◌, subst}
use mathlib.Core.Bool.{Bool, true, false}
use mathlib.Core.List.{List, [], ◌∷◌, map}
use Prim.Native.Nat.{ℕ, zero, suc, ◌+◌, ◌-◌, ◌/◌, ◌≤◌, ◌<◌}
use native.Mathlib.Decide.{dec_le}
use native.Mathlib.Omega.{arith}
use lib.Dec.{lit<, leb, eqb}
use lib.ListN.{length, get_or}
use lib.IntN.{ℤ, neg_ℤ}
use lib.Signed.{◌≤ℤ◌, ◌<ℤ◌}
use mir.Val.{bool_byte}
use borrow.Author.Tests.{le-leb, lt-leb, ne_eqb}
use Rattle.base.specs.Tables.{tabulate}
use Rattle.base.specs.Whole.{up, dn}
use Rattle.base.proofs.Whole.{up_pos, dn_pos, add, neg_up, neg_dn, of_le, of_lt}
use Rattle.rules_rates.specs.declared.Rate.TheVariants.{One}
use Rattle.choose_axes.specs.declared.Axis.{Axis}
use Rattle.choose_axes.specs.declared.Axis.TheVariants.{I, Q}
use Rattle.choose_axes.specs.Axes.{along, units_along}
use Rattle.rules_chips.specs.Chips.{pair, full_chip, hard_recording}
use Rattle.rules_symbols.specs.Words.{barker_signs}
use Rattle.rules_symbols.specs.Choice.{term, decided}
use Rattle.rules_choosing.specs.Scores.{score_at, DecidedAs}
use Rattle.rules_choosing.proofs.Decided.{decided_best}
use Rattle.choose_sums.specs.Sums.{signed, by_signs, as_chip}
use Rattle.choose_sums.proofs.Four.{score_chip}
use Rattle.choose_sums.proofs.Apart.{units_barker}
use Rattle.choose_recorded.specs.Recorded.{hard_part}
use Rattle.choose_recorded.proofs.HardLeads.{hard_decided}
use Rattle.find_sweep.specs.Sweep.{side_of, half_of_eleven, half_at, Sides, half_of}
use Rattle.choose_recorded.proofs.Units.{units_part}

-- ---- the choice by two sums
module _ (i q : ℤ) where
  abbrev f : ℕ → ℤ
  f m = score_at One (as_chip i q) m

  abbrev t : ℕ → ℤ
  t m = term m (pair i q)

  at_most_lem : (m r : ℕ) → m < 4 → r < 4 → f m ≤ℤ f r → up (t m) + dn (t r) ≤ up (t r) + dn (t m)
  at_most_lem m r a b h =
      of_le (t m) (t r)
      (subst (λ (z : ℤ). z ≤ℤ t r) (score_chip i q m a) (subst (λ (z : ℤ). f m ≤ℤ z) (score_chip i q r b) h))

  less : (m r : ℕ) → m < 4 → r < 4 → f m <ℤ f r → up (t m) + dn (t r) < up (t r) + dn (t m)
  less m r a b h =
      of_lt (t m) (t r)
      (subst (λ (z : ℤ). z <ℤ t r) (score_chip i q m a) (subst (λ (z : ℤ). f m <ℤ z) (score_chip i q r b) h))

  below : (r : ℕ) → DecidedAs One (as_chip i q) r → up i + up q < dn i + dn q → r / 2 ≡ 1
  below zero b h =
      absurd (omega (arith, at_most_lem 3 0 (lit< tt) (lit< tt) (b.top 3 (lit< tt) tt), neg_up q, neg_dn q))
  below (suc zero) b h =
      absurd (omega (arith, at_most_lem 2 1 (lit< tt) (lit< tt) (b.top 2 (lit< tt) tt), neg_up i, neg_dn i))
  below (suc (suc zero)) b h = refl
  below (suc (suc (suc zero))) b h = refl
  below (suc (suc (suc (suc r)))) b h = absurd (omega (arith, b.among))

  above : (r : ℕ) → DecidedAs One (as_chip i q) r → dn i + dn q ≤ up i + up q → r / 2 ≡ 0
  above zero b h = refl
  above (suc zero) b h = refl
  above (suc (suc zero)) b h =
      absurd (omega (arith, less 1 2 (lit< tt) (lit< tt) (b.first 1 (lit< tt) tt), neg_up i, neg_dn i))
  above (suc (suc (suc zero))) b h =
      absurd (omega (arith, less 0 3 (lit< tt) (lit< tt) (b.first 0 (lit< tt) tt), neg_up q, neg_dn q))
  above (suc (suc (suc (suc r)))) b h = absurd (omega (arith, b.among))

  -- by two numbers that differ as the sums together do, and 1 more
  -- promise: A symbol is decided as phase 2 or 3 just where I and Q together are below 0; in a front that tells, a bit
  -- is by the halves of two symbols
  -- rule: 6.17
  -- code: find_sweep::decide
  -- with: front_even, front_bit
  by_two : (p m : ℕ) → up i + up q + m + 1 ≡ dn i + dn q + p → bool_byte (leb p m) ≡ decided One (as_chip i q) / 2
  by_two p m e = by (dec_le p m)
    where
      best : DecidedAs One (as_chip i q) (decided One (as_chip i q))
      best = decided_best One (as_chip i q)

      by : Dec (p ≤ m) → bool_byte (leb p m) ≡ decided One (as_chip i q) / 2
      by (yes h) = rw (le-leb p m h) (sym (below _ best (omega arith)))
      by (no h) = rw (lt-leb p m (omega arith)) (sym (above _ best (omega arith)))

-- ---- sides
pub byte_most : (b : Bool) → bool_byte b ≤ 1
byte_most true = omega arith
byte_most false = omega arith

pub side_is : (x : ℕ) → 1 + bool_byte (eqb (x / 2) 0) - bool_byte (eqb (x / 2) 1) ≡ side_of x
side_is zero = refl
side_is (suc zero) = refl
side_is (suc (suc zero)) = refl
side_is (suc (suc (suc zero))) = refl
side_is (suc (suc (suc (suc x)))) =
    let h : ℕ = suc (suc (suc (suc x))) / 2 in
    rw (ne_eqb h 0 (λ e. omega arith), ne_eqb h 1 (λ e. omega arith))

pub side_most : (x : ℕ) → side_of x ≤ 2
side_most zero = omega arith
side_most (suc zero) = omega arith
side_most (suc (suc zero)) = omega arith
side_most (suc (suc (suc zero))) = omega arith
side_most (suc (suc (suc (suc x)))) = omega arith

abbrev unit : Axis → ℕ → ℤ
unit a x = along a (full_chip 1 x)

unit_side : (x : ℕ) → up (unit I x) + up (unit Q x) + 1 ≡ dn (unit I x) + dn (unit Q x) + side_of x
unfolding up dn
unit_side zero = refl
unit_side (suc zero) = refl
unit_side (suc (suc zero)) = refl
unit_side (suc (suc (suc zero))) = refl
unit_side (suc (suc (suc (suc x)))) = refl

-- the sum of f over the numbers that have a sign
unfoldable having : (ℕ → ℕ) → Bool → List Bool → List ℕ → ℕ
having f s [] xs = 0
having f s (b ∷ ss) [] = 0
having f true (true ∷ ss) (x ∷ xs) = f x + having f true ss xs
having f true (false ∷ ss) (x ∷ xs) = having f true ss xs
having f false (true ∷ ss) (x ∷ xs) = having f false ss xs
having f false (false ∷ ss) (x ∷ xs) = f x + having f false ss xs

abbrev one : ℕ → ℕ
one x = 1

abbrev sum_on : Axis → List Bool → List ℕ → ℤ
sum_on a ss xs = signed ss (map (unit a) xs)

balance : (ss : List Bool) (xs : List ℕ)
    → up (sum_on I ss xs) + up (sum_on Q ss xs) + (having side_of false ss xs + having one true ss xs)
    ≡ dn (sum_on I ss xs) + dn (sum_on Q ss xs) + (having side_of true ss xs + having one false ss xs)
unfolding signed having
balance [] xs = omega (arith, up_pos 0, dn_pos 0)
balance (s ∷ ss) [] = omega (arith, up_pos 0, dn_pos 0)
balance (true ∷ ss) (x ∷ xs) =
    omega (arith, balance ss xs, unit_side x, add (unit I x) (sum_on I ss xs), add (unit Q x) (sum_on Q ss xs))
balance (false ∷ ss) (x ∷ xs) =
    omega (
      arith,
      balance ss xs,
      unit_side x,
      add (neg_ℤ (unit I x)) (sum_on I ss xs),
      add (neg_ℤ (unit Q x)) (sum_on Q ss xs),
      neg_up (unit I x),
      neg_dn (unit I x),
      neg_up (unit Q x),
      neg_dn (unit Q x),
    )

-- ---- a hard recording's symbol
module _ (xs : List ℕ) (at : ℕ) (h : at + 11 ≤ length xs) where
  abbrev side : ℕ → ℕ
  side j = side_of (get_or xs (at + j) 0)

  abbrev octets : List ℕ
  octets = tabulate (λ j. get_or xs (at + j) 0) 11

  abbrev sums : Axis → ℤ
  sums a = by_signs (units_along a (hard_part xs at 11))

  sums_are : (a : Axis) → sums a ≡ sum_on a barker_signs octets
  unfolding tabulate
  sums_are a = ap by_signs (units_part a xs at 11)

  together : up (sums I) + up (sums Q) + (side 1 + side 4 + side 8 + side 9 + side 10) + 1
      ≡ dn (sums I) + dn (sums Q) + (side 0 + side 2 + side 3 + side 5 + side 6 + side 7)
  unfolding having tabulate
  together = rw (sums_are I, sums_are Q) (omega (arith, balance barker_signs octets))

  half_is :
      half_of_eleven (side 0) (side 1) (side 2) (side 3) (side 4) (side 5) (side 6) (side 7) (side 8) (side 9) (side 10)
      ≡ half_at (hard_recording xs) at
  unfolding half_at
  half_is =
      by_two (sums I) (sums Q) _ _ together
      ∙ ap (λ (n : ℕ). n / 2) ((units_barker (hard_part xs at 11) (refl, refl)).0 ∙ hard_decided 11 One xs at h)

module _ (xs : List ℕ) (at m : ℕ) {evens odds : List ℕ} (x : Sides xs at m evens) (y : Sides xs at m odds) where
  pub half_there : (s : ℕ) → s + 11 ≤ m → at + s + 11 ≤ length xs
      → half_of evens odds s ≡ half_at (hard_recording xs) (at + s)
  half_there s h k =
      (λ i. half_of_eleven (first i) (o 1 (omega arith) i) (e 2 (omega arith) i) (o 3 (omega arith) i)
      (e 4 (omega arith) i) (o 5 (omega arith) i) (e 6 (omega arith) i) (o 7 (omega arith) i) (e 8 (omega arith) i)
      (o 9 (omega arith) i) (e 10 (omega arith) i))
      ∙ half_is xs (at + s) k
    where
      sided : {i j : ℕ} → i ≡ j → side_of (get_or xs i 0) ≡ side_of (get_or xs j 0)
      sided = ap (λ (i : ℕ). side_of (get_or xs i 0))

      first : get_or evens s 0 ≡ side_of (get_or xs (at + s + 0) 0)
      first = x.each s (omega arith) ∙ sided (omega arith)

      e : (j : ℕ) → j < 11 → get_or evens (s + j) 0 ≡ side_of (get_or xs (at + s + j) 0)
      e j l = x.each (s + j) (omega arith) ∙ sided (omega arith)

      o : (j : ℕ) → j < 11 → get_or odds (s + j) 0 ≡ side_of (get_or xs (at + s + j) 0)
      o j l = y.each (s + j) (omega arith) ∙ sided (omega arith)

  -- none is more than 2
  pub sides_most : (row : List ℕ) → Sides xs at m row → (j : ℕ) → j < m → get_or row j 0 ≤ 2
  sides_most row z j l = omega (arith, z.each j l, side_most (get_or xs (at + j) 0))
