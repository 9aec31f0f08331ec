-- The words that a symbol is made of (RULES 3.1 to 3.4). A word is a list of phases, first in time first.
-- Source 001 prints the codeword formula without its two minus signs (the + 2 below), source 004 the Barker sequence
-- negated; IEEE 802.11b-1999 decides.
-- Definitions only. Assumes nothing.
use Rattle.std.specs.Prelude.{ℕ, ◌+◌, ◌*◌, ◌/◌, ◌%◌, Bool, true, false, List, [], ◌∷◌, map}
use Rattle.rules_rates.specs.declared.Rate.{Rate}
use Rattle.rules_rates.specs.declared.Rate.TheVariants.{One, Two, Five, Eleven}
use Rattle.rules_chips.specs.Chips.{turned}

-- signs + - + + - + + + - - -, leftmost first
abbrev pub barker_signs : List Bool
barker_signs = true ∷ false ∷ true ∷ true ∷ false ∷ true ∷ true ∷ true ∷ false ∷ false ∷ false ∷ []

-- with symbol phase p a plus is chip p and a minus chip p + 2
abbrev pub sign_chip : ℕ → Bool → ℕ
sign_chip p true = turned p 0
sign_chip p false = turned p 2

unfoldable pub barker_word : ℕ → List ℕ
barker_word p = map (sign_chip p) barker_signs

-- p1+p2+p3+p4; p1+p3+p4; p1+p2+p4; p1+p4+2; p1+p2+p3; p1+p3; p1+p2+2; p1
unfoldable pub cck_word : ℕ → ℕ → ℕ → ℕ → List ℕ
cck_word p1 p2 p3 p4 =
    (p1 + p2 + p3 + p4) % 4
    ∷ (p1 + p3 + p4) % 4
    ∷ (p1 + p2 + p4) % 4
    ∷ (p1 + p4 + 2) % 4
    ∷ (p1 + p2 + p3) % 4
    ∷ (p1 + p3) % 4
    ∷ (p1 + p2 + 2) % 4
    ∷ p1 % 4
    ∷ []

-- the number of a word is 64 p1 + 16 p2 + 4 p3 + p4, that of a Barker symbol is p
-- working notion: of the code and of facts
abbrev pub cck_number : ℕ → ℕ → ℕ → ℕ → ℕ
cck_number p1 p2 p3 p4 = 64 * p1 + 16 * p2 + 4 * p3 + p4

-- the phases of a number, and its word
abbrev pub p1_of : ℕ → ℕ
p1_of n = n / 64 % 4

abbrev pub p2_of : ℕ → ℕ
p2_of n = n / 16 % 4

abbrev pub p3_of : ℕ → ℕ
p3_of n = n / 4 % 4

abbrev pub p4_of : ℕ → ℕ
p4_of n = n % 4

abbrev pub cck_of : ℕ → List ℕ
cck_of n = cck_word (p1_of n) (p2_of n) (p3_of n) (p4_of n)

-- the word of a number at a rate
abbrev pub word_of : Rate → ℕ → List ℕ
word_of One n = barker_word n
word_of Two n = barker_word n
word_of Five n = cck_of n
word_of Eleven n = cck_of n

-- the symbol phase: p of a Barker symbol, p1 of a CCK word
abbrev pub phase_of : Rate → ℕ → ℕ
phase_of One n = n
phase_of Two n = n
phase_of Five n = p1_of n
phase_of Eleven n = p1_of n
