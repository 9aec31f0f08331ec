-- The sum of a row by signs: the loop that makes it, the Barker scores by it, and the choice by two sums.
-- Assumes nothing.
use mathlib.Core.Path.{◌≡◌, refl, sym, ap, ◌∙◌, subst}
use mathlib.Core.Bool.{Bool, true, false, not}
use mathlib.Core.List.{List, [], ◌∷◌, map}
use Prim.Native.Nat.{ℕ, zero, suc, ◌+◌, ◌*◌, ◌≤◌, ◌<◌}
use native.Mathlib.Numerals.{add-one}
use native.Mathlib.Omega.{arith}
use lib.Dec.{T, lit<, lit≤, eqb}
use native.Mathlib.Nat.{mul-suc, mul-le-mul_left}
use borrow.Author.Tests.{eq-eqb, ne_eqb}
use lib.ListN.{length, get_or, drop, drop_of_length-le}
use lib.Seq.{drop-cons}
use lib.IntN.{ℤ, pos, neg_ℤ, ◌+ℤ◌, ◌-ℤ◌, +ℤ_idl, +ℤ_idr, +ℤ_assoc}
use Rattle.base.specs.Whole.{Within}
use Rattle.base.proofs.Whole.{within_add, within_neg, within_zero, within_more}
use Rattle.base.proofs.Tests.{all_at, implies, implied}
use Rattle.rules_rates.specs.declared.Rate.TheVariants.{One}
use Rattle.rules_chips.specs.declared.Counts.{Counts}
use Rattle.rules_chips.specs.Chips.{pair}
use Rattle.choose_axes.specs.declared.Axis.{Axis}
use Rattle.choose_axes.specs.declared.Axis.TheVariants.{I, Q}
use Rattle.choose_axes.specs.Axes.{along, phase_on}
use Rattle.rules_symbols.specs.Words.{barker_signs, sign_chip, barker_word}
use Rattle.rules_symbols.specs.Choice.{score, term}
use Rattle.rules_symbols.proofs.Words.{barker_turns}
use Rattle.rules_choosing.specs.Scores.{RowWithin, score_at, ChosenAs}
use Rattle.choose_sums.specs.Sums.{by_sign, signed, by_signs, as_chip}
use Rattle.rules_choosing.proofs.Chosen.{chosen_alike}
use Rattle.rules_choosing.proofs.HalfTurns.{barker_half}
use Rattle.choose_sums.proofs.Four.{score_chip}

-- ---- the scores of the phases 0 and 1 are the sums of I and of Q
score_signed : (x : Axis) (ss : List Bool) (cs : List Counts) → score (map (sign_chip (phase_on x)) ss) cs
    ≡ signed ss (map (along x) cs)
unfolding score signed
score_signed x [] cs = refl
score_signed x (s ∷ ss) [] = refl
score_signed I (true ∷ ss) (c ∷ cs) = ap (λ (z : ℤ). c.i +ℤ z) (score_signed I ss cs)
score_signed I (false ∷ ss) (c ∷ cs) = ap (λ (z : ℤ). neg_ℤ c.i +ℤ z) (score_signed I ss cs)
score_signed Q (true ∷ ss) (c ∷ cs) = ap (λ (z : ℤ). c.q +ℤ z) (score_signed Q ss cs)
score_signed Q (false ∷ ss) (c ∷ cs) = ap (λ (z : ℤ). neg_ℤ c.q +ℤ z) (score_signed Q ss cs)

barker_along : (x : Axis) (cs : List Counts) → score (barker_word (phase_on x)) cs ≡ by_signs (map (along x) cs)
unfolding barker_word
barker_along x cs = score_signed x barker_signs cs

-- ---- so the chip of the sums is chosen as the symbol is
module _ (cs : List Counts) where
  abbrev sum_on : Axis → ℤ
  sum_on x = by_signs (map (along x) cs)

  sums_score : (n : ℕ) → n < 4 → score_at One (as_chip (sum_on I) (sum_on Q)) n ≡ score_at One cs n
  sums_score n l = score_chip (sum_on I) (sum_on Q) n l ∙ sym (four_is n l)
    where
      four_is : (n : ℕ) → n < 4 → score_at One cs n ≡ term n (pair (sum_on I) (sum_on Q))
      four_is zero l = barker_along I cs
      four_is (suc zero) l = barker_along Q cs
      four_is (suc (suc zero)) l = sym (barker_half cs 0 (lit< tt)) ∙ ap neg_ℤ (barker_along I cs)
      four_is (suc (suc (suc zero))) l = sym (barker_half cs 1 (lit< tt)) ∙ ap neg_ℤ (barker_along Q cs)
      four_is (suc (suc (suc (suc n)))) l = absurd (omega arith)

  pub sums_chosen : {w t : ℕ} → ChosenAs One (as_chip (sum_on I) (sum_on Q)) w t → ChosenAs One cs w t
  sums_chosen = chosen_alike One (as_chip (sum_on I) (sum_on Q)) cs sums_score

-- ---- the loop: the sum so far with that of the rest is the whole. The row's numbers are from -b to b
pub record Summed (b : ℕ) (zs : List ℤ) (sum : ℤ) (k : ℕ) : Type 0 where
  pub within : k ≤ 11
  pub done : sum +ℤ signed (drop k barker_signs) (drop k zs) ≡ by_signs zs
  pub bound : Within (b * k) sum

pub summed_none : (b : ℕ) (zs : List ℤ) {sum : ℤ} → sum ≡ pos 0 → Summed b zs sum 0
summed_none b zs e = record {
  within = lit≤ tt;
  done = ap (λ (z : ℤ). z +ℤ by_signs zs) e ∙ +ℤ_idl (by_signs zs);
  bound = rw e (within_zero _);
}

-- one number more has room where eleven have
pub sum_room : (b k : ℕ) → k < 11 → b * k + b ≤ b * 11
sum_room b k h = omega (arith, mul-le-mul_left b h, mul-suc b k)

-- the signs as the code has them, no turn for a plus
abbrev is_plus : ℕ → Bool
is_plus k = eqb (get_or barker_turns k 0) 0

abbrev sign : ℕ → Bool
sign k = get_or barker_signs k true

pluses : (k : ℕ) → k < 11 → T (implies (is_plus k) (sign k))
pluses = all_at (λ k. implies (is_plus k) (sign k)) 11 tt

minuses : (k : ℕ) → k < 11 → T (implies (not (is_plus k)) (not (sign k)))
minuses = all_at (λ k. implies (not (is_plus k)) (not (sign k))) 11 tt

by_plus : (s : Bool) (z : ℤ) → T s → by_sign s z ≡ z
by_plus true z t = refl
by_plus false z t = absurd t

by_minus : (s : Bool) (z : ℤ) → T (not s) → by_sign s z ≡ neg_ℤ z
by_minus true z t = absurd t
by_minus false z t = refl

sign_within : {b : ℕ} (s : Bool) {z : ℤ} → Within b z → Within b (by_sign s z)
sign_within true w = w
sign_within false w = within_neg w

module _ {b : ℕ} {zs : List ℤ} {sum : ℤ} {k : ℕ} (inv : Summed b zs sum k) (s : RowWithin b zs)
    (l : length zs ≡ 11) (h : k < 11) where
  abbrev z : ℤ
  z = get_or zs k (pos 0)

  rest : signed (drop k barker_signs) (drop k zs)
      ≡ by_sign (sign k) z +ℤ signed (drop (suc k) barker_signs) (drop (suc k) zs)
  unfolding signed
  rest = λ i. signed (drop-cons barker_signs k true h i) (drop-cons zs k (pos 0) (subst (λ (n : ℕ). k < n) (sym l) h) i)

  -- however the next sum is made
  module _ {v : ℤ} (made : v ≡ sum +ℤ by_sign (sign k) z) where
    made_sum : Summed b zs v (k + 1)
    made_sum = record {
      within = omega arith;
      done = rw (add-one k, made)
          (+ℤ_assoc sum (by_sign (sign k) z) _ ∙ ap (λ (y : ℤ). sum +ℤ y) (sym rest) ∙ inv.done);
      bound = rw (add-one k, made, mul-suc b k) (within_add inv.bound (sign_within (sign k) (s.at k)));
    }

  pub plus_sum : get_or barker_turns k 0 ≡ 0 → {v : ℤ} → v ≡ sum +ℤ z → Summed b zs v (k + 1)
  plus_sum e is =
      made_sum
      (is
      ∙ ap (λ (y : ℤ). sum +ℤ y)
      (sym (by_plus (sign k) z (implied (is_plus k) _ (pluses k h) (subst T (sym (eq-eqb _ _ e)) tt)))))

  pub minus_sum : (get_or barker_turns k 0 ≡ 0 → ⊥) → {v : ℤ} → v ≡ sum -ℤ z → Summed b zs v (k + 1)
  minus_sum ne is =
      made_sum
      (is
      ∙ ap (λ (y : ℤ). sum +ℤ y)
      (sym (by_minus (sign k) z
      (implied (not (is_plus k)) _ (minuses k h) (subst (λ (b : Bool). T (not b)) (sym (ne_eqb _ _ ne)) tt)))))

pub summed_all : {b : ℕ} {zs : List ℤ} {sum : ℤ} {k : ℕ} → Summed b zs sum k → 11 ≤ k → sum ≡ by_signs zs
unfolding signed
summed_all {b} {zs} {sum} {k} inv h =
    sym (+ℤ_idr sum)
    ∙ ap (λ (l : List Bool). sum +ℤ signed l (drop k zs)) (sym (drop_of_length-le barker_signs h))
    ∙ inv.done

-- a sum of eleven is within eleven times the bound
pub signed_within : {b : ℕ} (ss : List Bool) (zs : List ℤ) → RowWithin b zs → Within (b * length ss) (signed ss zs)
unfolding signed
signed_within [] zs s = within_zero _
signed_within (p ∷ ss) [] s = within_zero _
signed_within {b} (p ∷ ss) (z ∷ zs) s =
    within_more (within_add (sign_within p (s.at 0)) (signed_within ss zs (record { at = λ k. s.at (suc k) })))
    (rw (mul-suc b (length ss)) (omega arith))

pub by_signs_within : (b : ℕ) (zs : List ℤ) → RowWithin b zs → Within (b * 11) (by_signs zs)
by_signs_within b zs s = signed_within barker_signs zs s
