-- Laws of the words, for every rate: how long a word is, that its chips are phases, that a turn of its phase turns
-- every chip, that words add up, what word a number has, and the rules of the two tables, each once over its table.
-- Assumes nothing.
use mathlib.Core.Path.{◌≡◌, refl, sym, ap, ◌∙◌}
use mathlib.Core.List.{List, [], ◌∷◌, map}
use Prim.Native.Nat.{ℕ, zero, suc, ◌+◌, ◌*◌, ◌/◌, ◌%◌, ◌<◌}
use native.Mathlib.Omega.{arith}
use lib.ListN.{length, get_or}
use lib.Dec.{lit<}
use Rattle.base.specs.Tables.{tabulate}
use Rattle.base.proofs.Tables.{get_or_tabulate, map_tabulate}
use Rattle.rules_rates.specs.declared.Rate.{Rate}
use Rattle.rules_rates.specs.declared.Rate.TheVariants.{One, Two, Five, Eleven}
use Rattle.rules_rates.specs.Rates.{symbol_chips}
use Rattle.rules_chips.specs.Chips.{turned}
use Rattle.rules_symbols.specs.Words.{barker_word, cck_word, word_of}

-- every chip of the list is a phase, and so is what stands for one past its end
pub record Phases (w : List ℕ) : Type 0 where
  pub at : (j : ℕ) → get_or w j 0 < 4

pub phases_none : Phases []
phases_none = record { at = λ j. lit< tt }

pub phases_cons : {x : ℕ} {w : List ℕ} → x < 4 → Phases w → Phases (x ∷ w)
phases_cons {x} {w} h t = record { at = at }
  where
    at : (j : ℕ) → get_or (x ∷ w) j 0 < 4
    at zero = h
    at (suc j) = t.at j

pub phases_tail : {x : ℕ} {w : List ℕ} → Phases (x ∷ w) → Phases w
phases_tail h = record { at = λ j. h.at (suc j) }

pub turn : (x : ℕ) → x % 4 < 4
turn x = omega arith

pub cck_phases : (p1 p2 p3 p4 : ℕ) → Phases (cck_word p1 p2 p3 p4)
unfolding cck_word
cck_phases p1 p2 p3 p4 =
    phases_cons (turn _) (phases_cons (turn _) (phases_cons (turn _) (phases_cons (turn _)
    (phases_cons (turn _) (phases_cons (turn _) (phases_cons (turn _) (phases_cons (turn _) phases_none)))))))

pub barker_phases : (p : ℕ) → Phases (barker_word p)
unfolding barker_word
barker_phases p =
    phases_cons (turn _) (phases_cons (turn _) (phases_cons (turn _) (phases_cons (turn _)
    (phases_cons (turn _) (phases_cons (turn _) (phases_cons (turn _) (phases_cons (turn _)
    (phases_cons (turn _) (phases_cons (turn _) (phases_cons (turn _) phases_none))))))))))

pub word_phases : (r : Rate) (n : ℕ) → Phases (word_of r n)
word_phases One n = barker_phases n
word_phases Two n = barker_phases n
word_phases Five n = cck_phases _ _ _ _
word_phases Eleven n = cck_phases _ _ _ _

pub cck_length : (p1 p2 p3 p4 : ℕ) → length (cck_word p1 p2 p3 p4) ≡ 8
unfolding cck_word
cck_length p1 p2 p3 p4 = refl

pub barker_length : (p : ℕ) → length (barker_word p) ≡ 11
unfolding barker_word
barker_length p = refl

pub word_length : (r : Rate) (n : ℕ) → length (word_of r n) ≡ symbol_chips r
word_length One n = barker_length n
word_length Two n = barker_length n
word_length Five n = cck_length _ _ _ _
word_length Eleven n = cck_length _ _ _ _

-- the chips of two words, each turned by the other's
unfoldable pub together : List ℕ → List ℕ → List ℕ
together [] w = []
together (x ∷ v) [] = []
together (x ∷ v) (y ∷ w) = turned x y ∷ together v w

-- ---- a turn of the phase turns every chip
turn_turn : (p s : ℕ) → turned p (s % 4) ≡ turned p s
turn_turn p s = omega arith

one_turn : (p s t : ℕ) → p + s ≡ t → turned p (s % 4) ≡ t % 4
one_turn p s t e = turn_turn p s ∙ ap (λ (n : ℕ). n % 4) e

-- a phase may be reduced first
pub turn_mod : (p x : ℕ) → turned (p % 4) x ≡ turned p x
turn_mod p x = omega arith

pub cck_turned : (p1 p2 p3 p4 : ℕ) → map (turned p1) (cck_word 0 p2 p3 p4) ≡ cck_word p1 p2 p3 p4
unfolding cck_word
cck_turned p1 p2 p3 p4 =
    λ i.
    one_turn p1 (0 + p2 + p3 + p4) (p1 + p2 + p3 + p4) (omega arith) i
    ∷ one_turn p1 (0 + p3 + p4) (p1 + p3 + p4) (omega arith) i
    ∷ one_turn p1 (0 + p2 + p4) (p1 + p2 + p4) (omega arith) i
    ∷ one_turn p1 (0 + p4 + 2) (p1 + p4 + 2) (omega arith) i
    ∷ one_turn p1 (0 + p2 + p3) (p1 + p2 + p3) (omega arith) i
    ∷ one_turn p1 (0 + p3) (p1 + p3) (omega arith) i
    ∷ one_turn p1 (0 + p2 + 2) (p1 + p2 + 2) (omega arith) i
    ∷ one_turn p1 0 p1 (omega arith) i
    ∷ []

-- the other phases may be reduced first
pub cck_mod : (p1 p2 p3 p4 : ℕ) → cck_word p1 (p2 % 4) (p3 % 4) (p4 % 4) ≡ cck_word p1 p2 p3 p4
unfolding cck_word
cck_mod p1 p2 p3 p4 =
    λ i.
    three p1 p2 p3 p4 i ∷ two p1 p3 p4 i ∷ two p1 p2 p4 i ∷ half p1 p4 i ∷ two p1 p2 p3 i ∷ one p1 p3 i ∷ half p1 p2 i
    ∷ p1 % 4 ∷ []
  where
    one : (x a : ℕ) → (x + a % 4) % 4 ≡ (x + a) % 4
    one x a = omega arith

    half : (x a : ℕ) → (x + a % 4 + 2) % 4 ≡ (x + a + 2) % 4
    half x a = omega arith

    two : (x a b : ℕ) → (x + a % 4 + b % 4) % 4 ≡ (x + a + b) % 4
    two x a b = omega arith

    first : (x a y z : ℕ) → (x + a % 4 + y + z) % 4 ≡ (x + a + y + z) % 4
    first x a y z = omega arith

    three : (x a b c : ℕ) → (x + a % 4 + b % 4 + c % 4) % 4 ≡ (x + a + b + c) % 4
    three x a b c = first x a (b % 4) (c % 4) ∙ two (x + a) b c

-- promise: Every chip of a CCK word is a sum of its phases: words add up, but for the word of (0,0,0,0), for all
-- phases. With the words of each phase alone, which are computed, that leaves one word for each number
-- rule: 3.2
-- code: cck_word
pub cck_adds : (p1 p2 p3 p4 q1 q2 q3 q4 : ℕ)
    → together (cck_word p1 p2 p3 p4) (cck_word q1 q2 q3 q4)
    ≡ together (cck_word (p1 + q1) (p2 + q2) (p3 + q3) (p4 + q4)) (cck_word 0 0 0 0)
unfolding cck_word together
cck_adds p1 p2 p3 p4 q1 q2 q3 q4 =
    λ i.
    both (p1 + p2 + p3 + p4) (q1 + q2 + q3 + q4) (p1 + q1 + (p2 + q2) + (p3 + q3) + (p4 + q4)) 0 (omega arith) i
    ∷ both (p1 + p3 + p4) (q1 + q3 + q4) (p1 + q1 + (p3 + q3) + (p4 + q4)) 0 (omega arith) i
    ∷ both (p1 + p2 + p4) (q1 + q2 + q4) (p1 + q1 + (p2 + q2) + (p4 + q4)) 0 (omega arith) i
    ∷ both (p1 + p4 + 2) (q1 + q4 + 2) (p1 + q1 + (p4 + q4) + 2) 2 (omega arith) i
    ∷ both (p1 + p2 + p3) (q1 + q2 + q3) (p1 + q1 + (p2 + q2) + (p3 + q3)) 0 (omega arith) i
    ∷ both (p1 + p3) (q1 + q3) (p1 + q1 + (p3 + q3)) 0 (omega arith) i
    ∷ both (p1 + p2 + 2) (q1 + q2 + 2) (p1 + q1 + (p2 + q2) + 2) 2 (omega arith) i
    ∷ both p1 q1 (p1 + q1) 0 (omega arith) i
    ∷ []
  where
    sums : (x y : ℕ) → (x % 4 + y % 4) % 4 ≡ (x + y) % 4
    sums x y = omega arith

    both : (x y z w : ℕ) → x + y ≡ z + w → (x % 4 + y % 4) % 4 ≡ (z % 4 + w % 4) % 4
    both x y z w e = sums x y ∙ ap (λ (n : ℕ). n % 4) e ∙ sym (sums z w)

pub barker_turned : (p : ℕ) → map (turned p) (barker_word 0) ≡ barker_word p
unfolding barker_word
barker_turned p = refl

-- a turn of a word that has a phase already
turns_add : (q p : ℕ) (w : List ℕ) → map (turned (turned q p)) w ≡ map (turned q) (map (turned p) w)
turns_add q p [] = refl
turns_add q p (c ∷ w) = λ i. both i ∷ turns_add q p w i
  where
    both : turned (turned q p) c ≡ turned q (turned p c)
    both = omega arith

pub cck_turns : (q p1 p2 p3 p4 : ℕ) → map (turned q) (cck_word p1 p2 p3 p4) ≡ cck_word (turned q p1) p2 p3 p4
cck_turns q p1 p2 p3 p4 =
    ap (map (turned q)) (sym (cck_turned p1 p2 p3 p4)) ∙ sym (turns_add q p1 (cck_word 0 p2 p3 p4))
    ∙ cck_turned (turned q p1) p2 p3 p4

pub barker_turns_lem : (q p : ℕ) → map (turned q) (barker_word p) ≡ barker_word (turned q p)
barker_turns_lem q p =
    ap (map (turned q)) (sym (barker_turned p)) ∙ sym (turns_add q p (barker_word 0)) ∙ barker_turned (turned q p)

-- ---- the tables
abbrev pub barker_turns : List ℕ
barker_turns = 0 ∷ 2 ∷ 0 ∷ 0 ∷ 2 ∷ 0 ∷ 0 ∷ 0 ∷ 2 ∷ 2 ∷ 2 ∷ []

pub barker_rule : barker_turns ≡ barker_word 0
unfolding barker_word
barker_rule = refl

-- the word of 5.5 Mbit/s by d = 2 d2 + d3
abbrev pub five_word : ℕ → ℕ → List ℕ
five_word p1 d = cck_word p1 (2 * (d / 2) + 1) 0 (2 * (d % 2))

abbrev pub five_table : List (List ℕ)
five_table =
    (1 ∷ 0 ∷ 1 ∷ 2 ∷ 1 ∷ 0 ∷ 3 ∷ 0 ∷ [])
    ∷ (3 ∷ 2 ∷ 3 ∷ 0 ∷ 1 ∷ 0 ∷ 3 ∷ 0 ∷ [])
    ∷ (3 ∷ 0 ∷ 3 ∷ 2 ∷ 3 ∷ 0 ∷ 1 ∷ 0 ∷ [])
    ∷ (1 ∷ 2 ∷ 1 ∷ 0 ∷ 3 ∷ 0 ∷ 1 ∷ 0 ∷ [])
    ∷ []

pub five_rule : five_table ≡ tabulate (five_word 0) 4
unfolding tabulate cck_word
five_rule = refl

pub five_at_lem : (d : ℕ) → d < 4 → get_or five_table d [] ≡ five_word 0 d
five_at_lem d h = ap (λ (t : List (List ℕ)). get_or t d []) five_rule ∙ get_or_tabulate (five_word 0) 4 d [] h

-- ---- a loop that turns every sign has made the word
abbrev pub turned_at : ℕ → List ℕ → ℕ → ℕ
turned_at p w j = turned p (get_or w j 0)

pub barker_filled : (p : ℕ) → tabulate (turned_at p barker_turns) 11 ≡ barker_word p
barker_filled p = sym (map_tabulate (turned p) barker_turns 11 0 refl) ∙ ap (map (turned p)) barker_rule
    ∙ barker_turned p

pub barker_turns_phases : Phases barker_turns
barker_turns_phases = rw barker_rule (barker_phases 0)
