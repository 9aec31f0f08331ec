-- Half a turn negates a score: a word turned by a half scores the negative, so half of the words of a rate are told by
-- the other half. And how large a score is.
--     score_half, cck_half, five_half, barker_half    half a turn
--     cck_within                                      a bound on a CCK word's score
-- Assumes nothing.
use mathlib.Core.Path.{◌≡◌, refl, sym, ap, ◌∙◌, subst}
use mathlib.Core.List.{List, [], ◌∷◌, map}
use Prim.Native.Nat.{ℕ, zero, suc, ◌+◌, ◌*◌, ◌<◌}
use native.Mathlib.Omega.{arith}
use lib.ListN.{get_or}
use lib.IntN.{ℤ, neg_ℤ, ◌+ℤ◌, neg_ℤ-+ℤ, neg_ℤ-neg_ℤ}
use Rattle.base.specs.Tables.{tabulate}
use Rattle.base.specs.Whole.{Within}
use Rattle.base.proofs.Tables.{get_or_tabulate}
use Rattle.rules_chips.specs.declared.Counts.{Counts}
use Rattle.rules_chips.specs.Chips.{turned}
use Rattle.rules_symbols.specs.Words.{barker_word, cck_word, cck_of, p1_of, p2_of, p3_of, p4_of}
use Rattle.rules_symbols.specs.Choice.{term, score}
use Rattle.rules_symbols.proofs.Words.{Phases, phases_tail, cck_phases, cck_length, barker_phases}
use Rattle.rules_choosing.specs.Scores.{AllBounded, number5}
use Rattle.rules_choosing.proofs.Small.{score_within}
use Rattle.rules_choosing.proofs.Clean.{phase}
use Rattle.rules_choosing.proofs.Sixteen.{five_lower, five_upper}

-- ---- half a turn
term_half : (p : ℕ) (c : Counts) → p < 4 → term (turned p 2) c ≡ neg_ℤ (term p c)
term_half p c h =
    phase (λ p. term (turned p 2) c ≡ neg_ℤ (term p c)) refl refl (sym (neg_ℤ-neg_ℤ c.i)) (sym (neg_ℤ-neg_ℤ c.q)) p h

pub score_half : (w : List ℕ) (cs : List Counts) → Phases w → score (map (λ p. turned p 2) w) cs ≡ neg_ℤ (score w cs)
unfolding score
score_half [] cs h = refl
score_half (p ∷ w) [] h = refl
score_half (p ∷ w) (c ∷ cs) h =
    (λ i. term_half p c (h.at 0) i +ℤ score_half w cs (phases_tail h) i) ∙ sym (neg_ℤ-+ℤ (term p c) (score w cs))

-- the words of the upper numbers are those of the lower ones, turned by a half
abbrev half_turned : List ℕ → List ℕ
half_turned w = map (λ p. turned p 2) w

cck_halves : tabulate (λ n. cck_of (128 + n)) 128 ≡ tabulate (λ n. half_turned (cck_of n)) 128
unfolding tabulate cck_word
cck_halves = refl

pub cck_half : (cs : List Counts) (n : ℕ) → n < 128 → neg_ℤ (score (cck_of n) cs) ≡ score (cck_of (128 + n)) cs
cck_half cs n h =
    sym (score_half (cck_of n) cs (cck_phases _ _ _ _))
    ∙ ap (λ (w : List ℕ). score w cs)
    (sym (get_or_tabulate (λ j. half_turned (cck_of j)) 128 n [] h)
    ∙ ap (λ (t : List (List ℕ)). get_or t n []) (sym cck_halves)
    ∙ get_or_tabulate (λ j. cck_of (128 + j)) 128 n [] h)

-- the same of the sixteen words of 5.5 Mbit/s
abbrev pub five_score : List Counts → ℕ → ℤ
five_score cs k = score (cck_of (number5 k)) cs

pub five_half : (cs : List Counts) (k : ℕ) → k < 8 → neg_ℤ (five_score cs k) ≡ five_score cs (8 + k)
five_half cs k h = cck_half cs (number5 k) (five_lower k h) ∙ ap (λ (n : ℕ). score (cck_of n) cs) (five_upper k h)

pub barker_half : (cs : List Counts) (p : ℕ) → p < 2 → neg_ℤ (score (barker_word p) cs) ≡ score (barker_word (2 + p)) cs
unfolding barker_word
barker_half cs p h = sym (score_half (barker_word p) cs (barker_phases p)) ∙ ap (λ (w : List ℕ). score w cs) (words p h)
  where
    words : (p : ℕ) → p < 2 → half_turned (barker_word p) ≡ barker_word (2 + p)
    words zero h = refl
    words (suc zero) h = refl
    words (suc (suc p)) h = absurd (omega arith)

-- how large a CCK word's score is
pub cck_within : (b n : ℕ) {cs : List Counts} → AllBounded b cs → Within (b * 8) (score (cck_of n) cs)
cck_within b n {cs} s =
    subst (λ (l : ℕ). Within (b * l) (score (cck_of n) cs)) (cck_length (p1_of n) (p2_of n) (p3_of n) (p4_of n))
    (score_within (cck_of n) cs s)
