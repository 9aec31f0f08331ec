-- Eight scores choose among the sixteen words of 5.5 Mbit/s: the other eight are their negatives.
-- Assumes nothing.
use mathlib.Core.Path.{◌≡◌, sym, ap, ◌∙◌, subst}
use mathlib.Core.List.{List}
use Prim.Native.Nat.{ℕ, ◌+◌, ◌*◌, ◌-◌, ◌/◌, ◌%◌, ◌<◌}
use native.Mathlib.Omega.{arith}
use lib.ListN.{get_or}
use lib.IntN.{ℤ, pos, neg_ℤ}
use Rattle.base.specs.Whole.{Within}
use Rattle.base.specs.Tables.{tabulate}
use Rattle.base.proofs.Tables.{get_or_tabulate, tabulate_all}
use Rattle.base.proofs.Whole.{within_zero}
use Rattle.rules_rates.specs.declared.Rate.TheVariants.{Five}
use Rattle.rules_chips.specs.declared.Counts.{Counts}
use Rattle.rules_chips.specs.Chips.{pair, nothing}
use Rattle.rules_chips.specs.Bounds.{Bounded}
use Rattle.rules_choosing.specs.Scores.{number5, score_at, AllBounded, RowWithin, ChosenAs}
use Rattle.rules_choosing.specs.Keys.{TwoLargest}
use Rattle.choose_sums.specs.Sums.{rows, key_at}
use Rattle.rules_choosing.proofs.Sixteen.{chosen_place}
use Rattle.rules_choosing.proofs.HalfTurns.{five_half, cck_within}
use Rattle.rules_choosing.proofs.KeyLaws.{better, ranked}

-- eight scores make the choice
module _ (cs : List Counts) (h : List ℤ) (e : h ≡ tabulate (λ k. score_at Five cs (number5 k)) 8) where
  abbrev f : ℕ → ℤ
  f k = score_at Five cs (number5 k)

  eight_is : (k : ℕ) → k < 8 → get_or h k (pos 0) ≡ f k
  eight_is k l = ap (λ (t : List ℤ). get_or t k (pos 0)) e ∙ get_or_tabulate f 8 k (pos 0) l

  opposite : (k : ℕ) → k < 8 → f (k + 8) ≡ neg_ℤ (get_or h k (pos 0))
  opposite k l =
      let back : k + 8 ≡ 8 + k = omega arith in
      ap f back ∙ sym (five_half cs k l) ∙ ap neg_ℤ (sym (eight_is k l))

  -- the two largest of the eight keys have the word and its lead
  pub eight_by : {x y : ℕ} → TwoLargest (key_at h) 0 8 x y
      → ChosenAs Five cs (number5 (15 - x % 16)) (x / 16 - y / 16)
  eight_by {x} {y} t =
      let r = ranked 8 f (key_at h) (λ j l. better 8 f j (get_or h j (pos 0)) l (sym (eight_is j l)) (opposite j l)) t in
      chosen_place cs (15 - x % 16) r.second (x / 16) (y / 16) r.best r.next r.score r.score_next

-- eight scores of small counts are small
pub eight_within : (b : ℕ) (i q h : List ℤ) → h ≡ tabulate (λ k. score_at Five (rows i q) (number5 k)) 8 → RowWithin b i
    → RowWithin b q → RowWithin (b * 8) h
eight_within b i q h e wi wq = record {
  at = λ k. subst (λ (l : List ℤ). Within (b * 8) (get_or l k (pos 0))) (sym e)
      (tabulate_all (Within (b * 8)) (λ j. score_at Five (rows i q) (number5 j)) 8 (pos 0) (within_zero _)
      (λ j. cck_within b (number5 j) small_rows) k);
}
  where
    small_rows : AllBounded b (rows i q)
    small_rows = record {
      at = tabulate_all (Bounded b) (λ k. pair (get_or i k (pos 0)) (get_or q k (pos 0))) 8 nothing
          (record { real = within_zero _; imag = within_zero _ }) (λ j. record { real = wi.at j; imag = wq.at j });
    }
