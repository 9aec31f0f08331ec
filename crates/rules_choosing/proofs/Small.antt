-- How large terms and scores are, where counts are from -b to b: once for every length.
-- Assumes nothing.
use mathlib.Core.List.{List, [], ◌∷◌}
use Prim.Native.Nat.{ℕ, zero, suc, ◌*◌}
use native.Mathlib.Nat.{mul-suc}
use native.Mathlib.Omega.{arith}
use lib.ListN.{length}
use Rattle.base.specs.Whole.{Within}
use Rattle.base.proofs.Whole.{within_zero, within_neg, within_add, within_more}
use Rattle.rules_chips.specs.declared.Counts.{Counts}
use Rattle.rules_symbols.specs.Choice.{term, score}
use Rattle.rules_chips.specs.Bounds.{Bounded}
use Rattle.rules_choosing.specs.Scores.{AllBounded}

pub term_within : (p : ℕ) {b : ℕ} {c : Counts} → Bounded b c → Within b (term p c)
term_within zero s = s.real
term_within (suc zero) s = s.imag
term_within (suc (suc zero)) s = within_neg s.real
term_within (suc (suc (suc zero))) s = within_neg s.imag
term_within (suc (suc (suc (suc n)))) s = within_zero _

pub score_within : {b : ℕ} (w : List ℕ) (cs : List Counts) → AllBounded b cs → Within (b * length w) (score w cs)
unfolding score
score_within [] cs s = within_zero _
score_within (p ∷ w) [] s = within_zero _
score_within {b} (p ∷ w) (c ∷ cs) s =
    within_more (within_add (term_within p (s.at 0)) (score_within w cs (record { at = λ k. s.at (suc k) })))
    (rw (mul-suc b (length w)) (omega arith))
