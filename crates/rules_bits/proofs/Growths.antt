-- Laws of growths, symbols and their chips.
--     growth_lt, growth_bits_lem, bits_growth               two bits and their growth
--     symbols_from_append, symbols_from_parity, symbols_from_length    symbols of bits; a number counts modulo 2
--     chips_from_append, chips_from_length, last_phase_append, last_phase_lt    chips of symbols, the phase running on
--     chips_from_turned, last_phase_turned                a turn of the phase before symbols turns all their chips
-- By cases of the two bits, and by induction on the symbols. Assumes nothing.
use mathlib.Core.Path.{◌≡◌, refl, sym, ap, ap₂, ◌∙◌}
use mathlib.Core.List.{List, [], ◌∷◌, ◌++◌, map, append_assoc, map-append}
use Prim.Native.Nat.{ℕ, zero, suc, ◌+◌, ◌*◌, ◌%◌, ◌<◌, ◌≤◌}
use native.Mathlib.Nat.{zero-add, add-zero, suc-add, add-suc, suc-mul, zero-mul, mul-zero, mul-suc}
use native.Mathlib.Omega.{arith}
use lib.ListN.{length, get_or, take, drop, length-append, length-drop}
use lib.Seq.{take-append-le, drop-append-le}
use Rattle.rules_rates.specs.declared.Rate.{Rate}
use Rattle.rules_rates.specs.declared.Rate.TheVariants.{One, Two, Five, Eleven}
use Rattle.rules_rates.specs.Rates.{symbol_bits, symbol_chips}
use Rattle.rules_chips.specs.Chips.{turned}
use Rattle.rules_symbols.proofs.Words.{barker_length, cck_length, cck_turns, barker_turns_lem}
use Rattle.rules_bits.specs.Growths.{
  growth,
  growth_bits,
  Symbol,
  symbol_of,
  symbols_from,
  symbol_word,
  chips_from,
  last_phase,
}

-- two bits grow the phase by less than 4
pub growth_lt : (a b : ℕ) → a < 2 → b < 2 → growth a b < 4
unfolding growth
growth_lt zero zero h k = omega arith
growth_lt zero (suc zero) h k = omega arith
growth_lt (suc zero) zero h k = omega arith
growth_lt (suc zero) (suc zero) h k = omega arith
growth_lt zero (suc (suc b)) h k = absurd (omega arith)
growth_lt (suc zero) (suc (suc b)) h k = absurd (omega arith)
growth_lt (suc (suc a)) b h k = absurd (omega arith)

-- and come back from their growth
pub growth_bits_lem : (a b : ℕ) → a < 2 → b < 2 → growth_bits (growth a b) ≡ a ∷ b ∷ []
unfolding growth
growth_bits_lem zero zero h k = refl
growth_bits_lem zero (suc zero) h k = refl
growth_bits_lem (suc zero) zero h k = refl
growth_bits_lem (suc zero) (suc zero) h k = refl
growth_bits_lem zero (suc (suc b)) h k = absurd (omega arith)
growth_bits_lem (suc zero) (suc (suc b)) h k = absurd (omega arith)
growth_bits_lem (suc (suc a)) b h k = absurd (omega arith)

pub bits_growth : (g : ℕ) → g < 4 → growth (get_or (growth_bits g) 0 0) (get_or (growth_bits g) 1 0) ≡ g
unfolding growth
bits_growth zero h = refl
bits_growth (suc zero) h = refl
bits_growth (suc (suc zero)) h = refl
bits_growth (suc (suc (suc zero))) h = refl
bits_growth (suc (suc (suc (suc g)))) h = absurd (omega arith)

-- ---- symbols of bits

pub symbols_from_length : (r : Rate) (k m : ℕ) (bs : List ℕ) → length (symbols_from r k m bs) ≡ m
unfolding symbols_from
symbols_from_length r k zero bs = refl
symbols_from_length r k (suc m) bs = ap suc (symbols_from_length r (suc k) m (drop (symbol_bits r) bs))

-- bits that are whole symbols, and bits after them
pub symbols_from_append : (r : Rate) (k m n : ℕ) (s t : List ℕ) → length s ≡ m * symbol_bits r
    → symbols_from r k (m + n) (s ++ t) ≡ symbols_from r k m s ++ symbols_from r (k + m) n t
unfolding symbols_from
symbols_from_append r k zero n [] t e = rw (zero-add, add-zero)
symbols_from_append r k zero n (x ∷ s) t e = absurd (omega (arith, zero-mul (symbol_bits r)))
symbols_from_append r k (suc m) n s t e =
    let b = symbol_bits r in
    let some : b ≤ length s = omega (arith, suc-mul m b) in
    let rest : length (drop b s) ≡ m * b = rw length-drop (omega (arith, suc-mul m b)) in
    rw (
      suc-add m n,
      take-append-le b s t some,
      drop-append-le b s t some,
      symbols_from_append r (suc k) m n (drop b s) t rest,
      suc-add k m,
      add-suc k m,
    )

-- a symbol's number counts modulo 2
symbol_parity : (r : Rate) (j k : ℕ) (d : List ℕ) → j % 2 ≡ k % 2 → symbol_of r j d ≡ symbol_of r k d
unfolding symbol_of
symbol_parity One j k d e = refl
symbol_parity Two j k d e = refl
symbol_parity Five j k d e = rw e
symbol_parity Eleven j k d e = rw e

pub symbols_from_parity : (r : Rate) (j k m : ℕ) (bs : List ℕ) → j % 2 ≡ k % 2
    → symbols_from r j m bs ≡ symbols_from r k m bs
unfolding symbols_from
symbols_from_parity r j k zero bs e = refl
symbols_from_parity r j k (suc m) bs e =
    ap₂ {B = List Symbol} (λ x xs. x ∷ xs) (symbol_parity r j k (take (symbol_bits r) bs) e)
    (symbols_from_parity r (suc j) (suc k) m (drop (symbol_bits r) bs) (omega arith))

-- ---- chips of symbols

pub chips_from_append : (r : Rate) (p : ℕ) (a b : List Symbol)
    → chips_from r p (a ++ b) ≡ chips_from r p a ++ chips_from r (last_phase p a) b
unfolding chips_from last_phase
chips_from_append r p [] b = refl
chips_from_append r p (s ∷ a) b = rw (chips_from_append r (turned p s.grows) a b, append_assoc)

pub last_phase_append : (p : ℕ) (a b : List Symbol) → last_phase p (a ++ b) ≡ last_phase (last_phase p a) b
unfolding last_phase
last_phase_append p [] b = refl
last_phase_append p (s ∷ a) b = last_phase_append (turned p s.grows) a b

pub last_phase_lt : (p : ℕ) (ss : List Symbol) → p < 4 → last_phase p ss < 4
unfolding last_phase
last_phase_lt p [] h = h
last_phase_lt p (s ∷ ss) h = last_phase_lt (turned p s.grows) ss (omega arith)

pub symbol_length : (r : Rate) (p : ℕ) (s : Symbol) → length (symbol_word r p s) ≡ symbol_chips r
symbol_length One p s = barker_length p
symbol_length Two p s = barker_length p
symbol_length Five p s = cck_length p s.p2 s.p3 s.p4
symbol_length Eleven p s = cck_length p s.p2 s.p3 s.p4

pub chips_from_length : (r : Rate) (p : ℕ) (ss : List Symbol) → length (chips_from r p ss) ≡ symbol_chips r * length ss
unfolding chips_from
chips_from_length r p [] = sym (mul-zero (symbol_chips r))
chips_from_length r p (s ∷ ss) =
    let q = turned p s.grows in
    length-append (symbol_word r q s) (chips_from r q ss)
    ∙ omega (arith, symbol_length r q s, chips_from_length r q ss, mul-suc (symbol_chips r) (length ss))

-- a turn of the phase before the symbols turns every chip of theirs, and the phase of the last
symbol_turned : (r : Rate) (q p : ℕ) (s : Symbol) → symbol_word r (turned q p) s ≡ map (turned q) (symbol_word r p s)
symbol_turned One q p s = sym (barker_turns_lem q p)
symbol_turned Two q p s = sym (barker_turns_lem q p)
symbol_turned Five q p s = sym (cck_turns q p s.p2 s.p3 s.p4)
symbol_turned Eleven q p s = sym (cck_turns q p s.p2 s.p3 s.p4)

grown_turned : (q p g : ℕ) → turned (turned q p) g ≡ turned q (turned p g)
grown_turned q p g = omega arith

pub chips_from_turned : (r : Rate) (q p : ℕ) (ss : List Symbol)
    → chips_from r (turned q p) ss ≡ map (turned q) (chips_from r p ss)
unfolding chips_from
chips_from_turned r q p [] = refl
chips_from_turned r q p (s ∷ ss) =
    rw (
      grown_turned q p s.grows,
      symbol_turned r q (turned p s.grows) s,
      chips_from_turned r q (turned p s.grows) ss,
    ) (sym (map-append (turned q) (symbol_word r (turned p s.grows) s) (chips_from r (turned p s.grows) ss)))

pub last_phase_turned : (q p : ℕ) (ss : List Symbol) → last_phase (turned q p) ss ≡ turned q (last_phase p ss)
unfolding last_phase
last_phase_turned q p [] = refl
last_phase_turned q p (s ∷ ss) =
    ap (λ (x : ℕ). last_phase x ss) (grown_turned q p s.grows) ∙ last_phase_turned q (turned p s.grows) ss
