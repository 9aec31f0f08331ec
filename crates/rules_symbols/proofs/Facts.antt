-- Worked values that pin the definitions: words, numbers and their phases, the numbers allowed at each rate, the four
-- terms of a score, what nothing and what clean words are decided as, a tie, and leads. Computed. Assumes nothing.
use mathlib.Core.Path.{◌≡◌, refl}
use mathlib.Core.List.{List, [], ◌∷◌, map}
use Prim.Native.Nat.{ℕ}
use lib.ListN.{get_or, replicate}
use lib.IntN.{ℤ, pos, neg_ℤ}
use Rattle.base.specs.Tables.{tabulate}
use Rattle.rules_rates.specs.declared.Rate.{Rate}
use Rattle.rules_rates.specs.declared.Rate.TheVariants.{One, Two, Five, Eleven}
use Rattle.rules_rates.specs.Rates.{symbol_chips}
use Rattle.rules_chips.specs.declared.Counts.{Counts}
use Rattle.rules_chips.specs.Chips.{pair, nothing, full_chip}
use Rattle.rules_symbols.specs.Words.{barker_word, cck_word, cck_number, p1_of, p2_of, p3_of, p4_of, word_of, phase_of}
use Rattle.rules_symbols.specs.Choice.{term, score, those, allowed, going, first_largest, decided, others, lead_of}

-- the words (0,0,0,0), (1,1,0,0) and (0,1,2,3); what each phase alone adds to which chips; the Barker symbols
-- promise: Barker and CCK words, their numbers and phases, and the numbers that each rate allows
-- rule: 3.1 to 3.4, 3.7
-- code: barker_word, cck_word, five_word
-- with: numbered, numbers_words, barker_numbers, five_numbers, eleven_numbers
pub words :
    cck_word 0 0 0 0 ∷ cck_word 1 1 0 0 ∷ cck_word 0 1 2 3 ∷ cck_word 1 0 0 0 ∷ cck_word 0 1 0 0 ∷ cck_word 0 0 1 0
    ∷ cck_word 0 0 0 1 ∷ map barker_word (0 ∷ 1 ∷ 2 ∷ 3 ∷ [])
    ≡ (0 ∷ 0 ∷ 0 ∷ 2 ∷ 0 ∷ 0 ∷ 2 ∷ 0 ∷ [])
    ∷ (2 ∷ 1 ∷ 2 ∷ 3 ∷ 2 ∷ 1 ∷ 0 ∷ 1 ∷ [])
    ∷ (2 ∷ 1 ∷ 0 ∷ 1 ∷ 3 ∷ 2 ∷ 3 ∷ 0 ∷ [])
    ∷ (1 ∷ 1 ∷ 1 ∷ 3 ∷ 1 ∷ 1 ∷ 3 ∷ 1 ∷ [])
    ∷ (1 ∷ 0 ∷ 1 ∷ 2 ∷ 1 ∷ 0 ∷ 3 ∷ 0 ∷ [])
    ∷ (1 ∷ 1 ∷ 0 ∷ 2 ∷ 1 ∷ 1 ∷ 2 ∷ 0 ∷ [])
    ∷ (1 ∷ 1 ∷ 1 ∷ 3 ∷ 0 ∷ 0 ∷ 2 ∷ 0 ∷ [])
    ∷ (0 ∷ 2 ∷ 0 ∷ 0 ∷ 2 ∷ 0 ∷ 0 ∷ 0 ∷ 2 ∷ 2 ∷ 2 ∷ [])
    ∷ (1 ∷ 3 ∷ 1 ∷ 1 ∷ 3 ∷ 1 ∷ 1 ∷ 1 ∷ 3 ∷ 3 ∷ 3 ∷ [])
    ∷ (2 ∷ 0 ∷ 2 ∷ 2 ∷ 0 ∷ 2 ∷ 2 ∷ 2 ∷ 0 ∷ 0 ∷ 0 ∷ [])
    ∷ (3 ∷ 1 ∷ 3 ∷ 3 ∷ 1 ∷ 3 ∷ 3 ∷ 3 ∷ 1 ∷ 1 ∷ 1 ∷ [])
    ∷ []
unfolding barker_word cck_word
words = refl

-- the number of phases 3, 0, 1, 2, its phases, and the symbol phase of a number at each rate
pub numbered :
    cck_number 3 0 1 2 ∷ p1_of 198 ∷ p2_of 198 ∷ p3_of 198 ∷ p4_of 198 ∷ phase_of One 2 ∷ phase_of Two 3 ∷ phase_of Five 198
    ∷ phase_of Eleven 198 ∷ []
    ≡ 198 ∷ 3 ∷ 0 ∷ 1 ∷ 2 ∷ 2 ∷ 3 ∷ 3 ∷ 3 ∷ []
numbered = refl

-- the word of a number at each rate
pub numbers_words :
    word_of One 1 ∷ word_of Two 3 ∷ word_of Five 198 ∷ word_of Eleven 198 ∷ []
    ≡ barker_word 1 ∷ barker_word 3 ∷ cck_word 3 0 1 2 ∷ cck_word 3 0 1 2 ∷ []
numbers_words = refl

pub barker_numbers : allowed One ∷ allowed Two ∷ [] ≡ (0 ∷ 1 ∷ 2 ∷ 3 ∷ []) ∷ (0 ∷ 1 ∷ 2 ∷ 3 ∷ []) ∷ []
unfolding those
barker_numbers = refl

pub eleven_numbers : allowed Eleven ≡ tabulate (λ n. n) 256
unfolding those tabulate
eleven_numbers = refl

pub five_numbers :
    allowed Five
    ≡ 16 ∷ 18 ∷ 48 ∷ 50 ∷ 80 ∷ 82 ∷ 112 ∷ 114 ∷ 144 ∷ 146 ∷ 176 ∷ 178 ∷ 208 ∷ 210 ∷ 240 ∷ 242 ∷ []
unfolding those
five_numbers = refl

abbrev rates : List Rate
rates = One ∷ Two ∷ Five ∷ Eleven ∷ []

-- nothing scores 0 with every word, so the smallest allowed number wins: at 5.5 Mbit/s that is 16
pub nothing_decided : map (λ r. decided r (replicate (symbol_chips r) nothing)) rates ≡ 0 ∷ 0 ∷ 16 ∷ 0 ∷ []
unfolding barker_word cck_word score those going first_largest decided
nothing_decided = refl

-- a word scores a full chip for each of its own
abbrev own : Rate → ℤ
own r = score (word_of r 0) (map (full_chip 1024) (word_of r 0))

pub own_scores : map own rates ≡ pos 11264 ∷ pos 11264 ∷ pos 8192 ∷ pos 8192 ∷ []
unfolding barker_word cck_word score
own_scores = refl

-- promise: A score adds I, Q, -I or -Q as the word's chip is 0, 1, 2 or 3; where nothing was recorded the smallest
-- allowed number wins
-- rule: 3.5, 3.6
-- with: nothing_decided, tie_decided
pub terms :
    map (λ p. term p (pair (pos 3) (pos 5))) (0 ∷ 1 ∷ 2 ∷ 3 ∷ [])
    ≡ pos 3 ∷ pos 5 ∷ neg_ℤ (pos 3) ∷ neg_ℤ (pos 5) ∷ []
terms = refl

-- clean words are decided as themselves
abbrev clean : Rate → ℕ → ℕ
clean r n = decided r (map (full_chip 1024) (word_of r n))

pub clean_decided : clean One 2 ∷ clean Two 3 ∷ clean Five 178 ∷ clean Eleven 198 ∷ [] ≡ 2 ∷ 3 ∷ 178 ∷ 198 ∷ []
unfolding barker_word cck_word score those going first_largest decided
clean_decided = refl

-- a Barker symbol halfway between phases 1 and 2: the smaller number
abbrev between : List Counts
between = map (λ p. get_or (pair (neg_ℤ (pos 1024)) (pos 1024) ∷ []) p (pair (pos 1024) (neg_ℤ (pos 1024)))) (barker_word 0)

pub tie_decided : decided Two between ≡ 1
unfolding barker_word score those going first_largest decided
tie_decided = refl

-- ---- leads
-- a list without one number, which is in it once, not, or more often
pub others_left :
    others 3 (1 ∷ 3 ∷ 5 ∷ []) ∷ others 4 (1 ∷ 3 ∷ 5 ∷ []) ∷ others 0 (0 ∷ []) ∷ others 3 (3 ∷ 1 ∷ 3 ∷ []) ∷ []
    ≡ (1 ∷ 5 ∷ []) ∷ (1 ∷ 3 ∷ 5 ∷ []) ∷ [] ∷ (1 ∷ []) ∷ []
unfolding others
others_left = refl

-- no lead where nothing was recorded, nor halfway between two phases: two words score alike, and one is left out
pub ties_lead : map (λ r. lead_of r (replicate (symbol_chips r) nothing)) rates ≡ 0 ∷ 0 ∷ 0 ∷ 0 ∷ []
unfolding barker_word cck_word score those going first_largest decided others lead_of
ties_lead = refl

pub between_lead : lead_of Two between ≡ 0
unfolding barker_word score those going first_largest decided others lead_of
between_lead = refl

-- clean words lead by 11 full chips of 11, by 8 of 8 among the sixteen of 5.5 Mbit/s, and by 4 of 8 among all
pub clean_lead :
    map (λ r. lead_of r (map (full_chip 1024) (word_of r 178))) (Five ∷ Eleven ∷ [])
    ∷ map (λ r. lead_of r (map (full_chip 1024) (word_of r 3))) (One ∷ Two ∷ [])
    ∷ []
    ≡ (8192 ∷ 4096 ∷ []) ∷ (11264 ∷ 11264 ∷ []) ∷ []
unfolding barker_word cck_word score those going first_largest decided others lead_of
clean_lead = refl

-- the best of the others may have a smaller number than the word decided, or a larger: phases 1, 3, 0 and 0 of one
-- Barker symbol, I and Q of each chip being 3 and 5, 3 and -5, 5 and 3, 5 and 0
abbrev mixed : ℤ → ℤ → List Counts
mixed i q = map (λ p. get_or (pair i q ∷ []) p (pair (neg_ℤ i) (neg_ℤ q))) (barker_word 0)

pub mixed_leads :
    lead_of One (mixed (pos 3) (pos 5)) ∷ lead_of One (mixed (pos 3) (neg_ℤ (pos 5))) ∷ lead_of One (mixed (pos 5) (pos 3))
    ∷ lead_of One (mixed (pos 5) (pos 0)) ∷ []
    ≡ 22 ∷ 22 ∷ 22 ∷ 55 ∷ []
unfolding barker_word score those going first_largest decided others lead_of
mixed_leads = refl
