-- Bits to phases, and decided words back to bits (RULES 4.1 to 4.7).
-- Definitions only. Assumes nothing.
use Rattle.std.specs.Prelude.{ℕ, zero, suc, ◌+◌, ◌-◌, ◌*◌, ◌/◌, ◌%◌, List, [], ◌∷◌, ◌++◌, length, get_or, take, drop}
use Rattle.rules_rates.specs.declared.Rate.{Rate}
use Rattle.rules_rates.specs.declared.Rate.TheVariants.{One, Two, Five, Eleven}
use Rattle.rules_rates.specs.Rates.{symbol_bits}
use Rattle.rules_chips.specs.Chips.{turned}
use Rattle.rules_symbols.specs.Words.{barker_word, cck_word, phase_of, p1_of, p2_of, p3_of, p4_of}

-- two bits, first in time first: growth 0 for 00, 1 for 01, 2 for 11, 3 for 10
abbrev pub growth_table : List ℕ
growth_table = 0 ∷ 1 ∷ 3 ∷ 2 ∷ []

unfoldable pub growth : ℕ → ℕ → ℕ
growth a b = get_or growth_table (2 * a + b) 0

-- two bits directly: 00 is 0, 01 is 1, 10 is 2, 11 is 3
abbrev pub direct : ℕ → ℕ → ℕ
direct a b = 2 * a + b

-- CCK symbols are numbered from 0 at the first payload symbol; odd ones grow by 2 more
abbrev pub half_turn : ℕ → ℕ
half_turn k = 2 * (k % 2)

-- What a symbol's bits ask for: how far the phase grows, and a CCK word's other phases (0 for Barker).
pub record Symbol : Type 0 where
  pub grows : ℕ
  pub p2 : ℕ
  pub p3 : ℕ
  pub p4 : ℕ

-- the symbol of bits d, the k-th of its part
unfoldable pub symbol_of : Rate → ℕ → List ℕ → Symbol
-- 1 Mbit/s: by 0 for bit 0, by 2 for bit 1
symbol_of One k d = record { grows = 2 * get_or d 0 0; p2 = 0; p3 = 0; p4 = 0 }
symbol_of Two k d = record { grows = growth (get_or d 0 0) (get_or d 1 0); p2 = 0; p3 = 0; p4 = 0 }
-- 5.5 Mbit/s, four bits: d0 d1 for p1; p2 = 2 d2 + 1, p3 = 0, p4 = 2 d3
symbol_of Five k d =
    record {
      grows = growth (get_or d 0 0) (get_or d 1 0) + half_turn k;
      p2 = 2 * get_or d 2 0 + 1;
      p3 = 0;
      p4 = 2 * get_or d 3 0;
    }
-- 11 Mbit/s, eight bits: d0 d1 for p1; (d2, d3), (d4, d5), (d6, d7) give p2, p3, p4 directly
symbol_of Eleven k d =
    record {
      grows = growth (get_or d 0 0) (get_or d 1 0) + half_turn k;
      p2 = direct (get_or d 2 0) (get_or d 3 0);
      p3 = direct (get_or d 4 0) (get_or d 5 0);
      p4 = direct (get_or d 6 0) (get_or d 7 0);
    }

-- the symbols of bits at a rate: the first m, numbered from k
unfoldable pub symbols_from : Rate → ℕ → ℕ → List ℕ → List Symbol
symbols_from r k zero bs = []
symbols_from r k (suc m) bs =
    symbol_of r k (take (symbol_bits r) bs) ∷ symbols_from r (suc k) m (drop (symbol_bits r) bs)

unfoldable pub symbols_of : Rate → List ℕ → List Symbol
symbols_of r bs = symbols_from r 0 (length bs / symbol_bits r) bs

-- the chips of a symbol whose phase is p
abbrev pub symbol_word : Rate → ℕ → Symbol → List ℕ
symbol_word One p s = barker_word p
symbol_word Two p s = barker_word p
symbol_word Five p s = cck_word p s.p2 s.p3 s.p4
symbol_word Eleven p s = cck_word p s.p2 s.p3 s.p4

-- each symbol grows from the one before it, the first from phase p
unfoldable pub chips_from : Rate → ℕ → List Symbol → List ℕ
chips_from r p [] = []
chips_from r p (s ∷ ss) = symbol_word r (turned p s.grows) s ++ chips_from r (turned p s.grows) ss

unfoldable pub last_phase : ℕ → List Symbol → ℕ
last_phase p [] = p
last_phase p (s ∷ ss) = last_phase (turned p s.grows) ss

-- Back: how far the phase grew from p to q
abbrev pub grown_by : ℕ → ℕ → ℕ
grown_by p q = (q + 4 - p) % 4

-- two bits of a growth, and two bits directly
abbrev pub growth_bits : ℕ → List ℕ
growth_bits g = get_or ((0 ∷ 0 ∷ []) ∷ (0 ∷ 1 ∷ []) ∷ (1 ∷ 1 ∷ []) ∷ (1 ∷ 0 ∷ []) ∷ []) g []

abbrev pub direct_bits : ℕ → List ℕ
direct_bits p = p / 2 ∷ p % 2 ∷ []

-- the bits of the word with number n, the k-th of its part, after phase p
unfoldable pub heard_bits : Rate → ℕ → ℕ → ℕ → List ℕ
heard_bits One k p n = grown_by p n / 2 ∷ []
heard_bits Two k p n = growth_bits (grown_by p n)
heard_bits Five k p n = growth_bits (grown_by (turned p (half_turn k)) (p1_of n)) ++ (p2_of n / 2 ∷ p4_of n / 2 ∷ [])
heard_bits Eleven k p n =
    growth_bits (grown_by (turned p (half_turn k)) (p1_of n))
    ++ (direct_bits (p2_of n) ++ (direct_bits (p3_of n) ++ direct_bits (p4_of n)))

-- the bits of words at a rate, the first numbered k, after phase p
unfoldable pub heard : Rate → ℕ → ℕ → List ℕ → List ℕ
heard r k p [] = []
heard r k p (n ∷ ns) = heard_bits r k p n ++ heard r (suc k) (phase_of r n) ns

-- how far each word grew from the one before it, and the phase of the last
unfoldable pub growths_of : Rate → ℕ → List ℕ → List ℕ
growths_of r p [] = []
growths_of r p (n ∷ ns) = grown_by p (phase_of r n) ∷ growths_of r (phase_of r n) ns

unfoldable pub last_heard : Rate → ℕ → List ℕ → ℕ
last_heard r p [] = p
last_heard r p (n ∷ ns) = last_heard r (phase_of r n) ns
