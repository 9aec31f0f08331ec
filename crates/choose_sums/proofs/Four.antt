-- Two sums choose among the four phases of a Barker symbol: the larger of their keys has the phase, and both the lead.
-- Assumes nothing.
use mathlib.Core.Path.{◌≡◌}
use Prim.Native.Nat.{ℕ, zero, suc, ◌-◌, ◌/◌, ◌%◌, ◌<◌}
use native.Mathlib.Omega.{arith}
use lib.IntN.{ℤ, neg_ℤ, +ℤ_idr}
use Rattle.rules_rates.specs.declared.Rate.TheVariants.{One}
use Rattle.rules_symbols.specs.Words.{barker_word}
use Rattle.rules_symbols.specs.Choice.{score, term}
use Rattle.rules_chips.specs.Chips.{pair}
use Rattle.rules_choosing.specs.Scores.{score_at, ChosenAs}
use Rattle.rules_choosing.specs.Keys.{key_of, TwoLargest}
use Rattle.choose_sums.specs.Sums.{as_chip}
use Rattle.rules_choosing.proofs.KeyLaws.{Better, better, ranked}
use Rattle.rules_choosing.proofs.Chosen.{chosen_by}

module _ (i q : ℤ) where
  -- the keys of the phases 0 and 1, each the better of it and its opposite
  abbrev pub sum_key : ℕ → ℕ
  sum_key zero = key_of 2 0 i
  sum_key (suc n) = key_of 2 1 q

  pub score_chip : (n : ℕ) → n < 4 → score_at One (as_chip i q) n ≡ term n (pair i q)
  unfolding barker_word score
  score_chip zero l = +ℤ_idr i
  score_chip (suc zero) l = +ℤ_idr q
  score_chip (suc (suc zero)) l = +ℤ_idr (neg_ℤ i)
  score_chip (suc (suc (suc zero))) l = +ℤ_idr (neg_ℤ q)
  score_chip (suc (suc (suc (suc n)))) l = absurd (omega arith)

  keys : (j : ℕ) → j < 2 → Better 2 (score_at One (as_chip i q)) j (sum_key j)
  keys zero l = better 2 _ 0 i l (score_chip 0 (omega arith)) (score_chip 2 (omega arith))
  keys (suc zero) l = better 2 _ 1 q l (score_chip 1 (omega arith)) (score_chip 3 (omega arith))
  keys (suc (suc j)) l = absurd (omega arith)

  pub phase_by : {x y : ℕ} → TwoLargest sum_key 0 2 x y → ChosenAs One (as_chip i q) (3 - x % 4) (x / 4 - y / 4)
  phase_by {x} {y} t =
      let r = ranked 2 (score_at One (as_chip i q)) sum_key keys t in
      chosen_by One (as_chip i q) (3 - x % 4) r.second (x / 4) (y / 4) r.best r.next r.score r.score_next
