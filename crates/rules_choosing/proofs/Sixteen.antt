-- The sixteen numbers allowed at 5.5 Mbit/s, and the choice by their places among the sixteen.
-- Assumes nothing.
use mathlib.Core.Path.{◌≡◌, refl, sym, ap, ◌∙◌, subst}
use mathlib.Core.Bool.{Bool, true, ◌&&◌}
use mathlib.Core.List.{List, map}
use Prim.Native.Nat.{ℕ, ◌+◌, ◌*◌, ◌-◌, ◌/◌, ◌%◌, ◌<◌}
use lib.Dec.{T, eqb, ltb, eqb→eq, ltb→lt, lit<}
use lib.IntN.{ℤ, pos}
use lib.Signed.{◌≤ℤ◌}
use Rattle.base.proofs.Tests.{all_at, implies, implied, both_left, both_right}
use Rattle.rules_rates.specs.declared.Rate.TheVariants.{Five}
use Rattle.rules_chips.specs.declared.Counts.{Counts}
use Rattle.rules_symbols.specs.Choice.{is_allowed, those, allowed, first_largest, decided}
use Rattle.rules_choosing.specs.Scores.{up_to, number5, score_at, BestOf, NextTo, NextAs, ChosenAs}
use Rattle.rules_choosing.proofs.Best.{best_unique, up_best, first_map}
use Rattle.rules_choosing.proofs.Decided.{decided_best}
use Rattle.rules_choosing.proofs.Chosen.{chosen_by}

-- they are the allowed ones, in rising order
pub five_allowed : allowed Five ≡ map number5 (up_to 16)
unfolding those
five_allowed = refl

-- the upper eight are the lower ones with p1 a half turn on
pub five_lower : (k : ℕ) → k < 8 → number5 k < 128
five_lower k h = ltb→lt (number5 k) 128 (all_at (λ j. ltb (number5 j) 128) 8 tt k h)

pub five_upper : (k : ℕ) → k < 8 → 128 + number5 k ≡ number5 (8 + k)
five_upper k h = eqb→eq (128 + number5 k) (number5 (8 + k))
    (all_at (λ j. eqb (128 + number5 j) (number5 (8 + j))) 8 tt k h)

-- ---- the place of an allowed number among the sixteen
abbrev place : ℕ → ℕ
place n = 4 * (n / 64) + 2 * (n / 32 % 2) + n / 2 % 2

abbrev placed : ℕ → Bool
placed n = eqb (number5 (place n)) n && ltb (place n) 16

places : (n : ℕ) → n < 256 → T (implies (is_allowed Five n) (placed n))
places = all_at (λ n. implies (is_allowed Five n) (placed n)) 256 tt

place_back : (k : ℕ) → k < 16 → place (number5 k) ≡ k
place_back k l = eqb→eq _ _ (all_at (λ j. eqb (place (number5 j)) j) 16 tt k l)

number_below : (k : ℕ) → k < 16 → number5 k < 256
number_below k l = ltb→lt _ _ (all_at (λ j. ltb (number5 j) 256) 16 tt k l)

number_allowed : (k : ℕ) → k < 16 → T (is_allowed Five (number5 k))
number_allowed = all_at (λ j. is_allowed Five (number5 j)) 16 tt

-- ---- what is best and next among the places is so among the allowed
module _ (cs : List Counts) (w m s t : ℕ) (b : BestOf (λ j. true) 16 (λ k. score_at Five cs (number5 k)) w)
    (x : NextTo (λ j. true) 16 (λ k. score_at Five cs (number5 k)) w m) where
  abbrev f : ℕ → ℤ
  f = score_at Five cs

  decided_place : decided Five cs ≡ number5 w
  unfolding decided those
  decided_place =
      ap (first_largest f) five_allowed
      ∙ first_map f number5 (up_to 16) (lit< tt)
      ∙ ap number5 (best_unique (up_best (λ k. f (number5 k)) 16 (lit< tt)) b)

  next_place : NextAs Five cs (number5 w) (number5 m)
  next_place = record {
    among = number_below m x.among;
    allowed = number_allowed m x.among;
    other = λ e. x.other (sym (place_back m x.among) ∙ ap place e ∙ place_back w b.among);
    top = λ n l a d.
        let o : T (placed n) = implied (is_allowed Five n) _ (places n l) a in
        let e : number5 (place n) ≡ n = eqb→eq _ _ (both_left (eqb (number5 (place n)) n) (ltb (place n) 16) o) in
        let h : place n < 16 = ltb→lt _ _ (both_right (eqb (number5 (place n)) n) (ltb (place n) 16) o) in
        subst (λ (j : ℕ). f j ≤ℤ f (number5 m)) e (x.top (place n) h tt (λ p. d (sym e ∙ ap number5 p)));
  }

  pub chosen_place : f (number5 w) ≡ pos s → f (number5 m) ≡ pos t → ChosenAs Five cs (number5 w) (s - t)
  chosen_place es et =
      chosen_by Five cs (number5 w) (number5 m) s t
      (subst (λ (n : ℕ). BestOf (is_allowed Five) 256 f n) decided_place (decided_best Five cs)) next_place es et
