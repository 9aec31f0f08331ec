-- Octets sent one after the other are what the passes over all their bits make: `sent`.
-- By induction on the octets: an octet's symbols depend on the last seven outputs alone.
-- Assumes nothing.
use mathlib.Core.Path.{◌≡◌, refl, ap, ◌∙◌}
use mathlib.Core.List.{List, [], ◌∷◌, ◌++◌, reverse}
use Prim.Native.Nat.{ℕ, suc, ◌+◌, ◌*◌}
use native.Mathlib.Nat.{mul-suc, mul-zero, add_comm}
use native.Mathlib.Omega.{arith}
use lib.ListN.{length, take}
use Rattle.rules_rates.specs.declared.Rate.{Rate}
use Rattle.rules_rates.specs.declared.Rate.TheVariants.{One, Two, Five, Eleven}
use Rattle.rules_rates.specs.Rates.{symbol_bits, octet_symbols}
use Rattle.rules_rates.proofs.Octets.{part_symbols}
use Rattle.rules_bits.specs.Bits.{bits_of, octet_bits}
use Rattle.rules_bits.specs.Growths.{Symbol, symbol_of, symbols_from, symbols_of, chips_from, last_phase}
use Rattle.rules_bits.specs.Scrambler.{mixed, scramble}
use Rattle.rules_bits.specs.Code.{past_after}
use Rattle.rules_bits.proofs.Bits.{octet_bits_length}
use Rattle.rules_bits.proofs.Growths.{symbols_from_append, chips_from_append, last_phase_append}
use Rattle.rules_bits.proofs.Scrambler.{scramble_append, scramble_length, scramble_window, past_append}
use Rattle.write_octets.specs.Sending.{State, symbols_at, emit, step, run, ran}

-- the outputs so far, after bits more
abbrev pub after : List ℕ → List ℕ → List ℕ
after h bs = past_after h (scramble h bs)

-- two pasts from which the same is sent
abbrev pub Agree : List ℕ → List ℕ → Type 0
Agree h k = (bs : List ℕ) → scramble h bs ≡ scramble k bs

after_append : (h a b : List ℕ) → after h (a ++ b) ≡ after (after h a) b
after_append h a b = ap (past_after h) (scramble_append h a b) ∙ past_append h (scramble h a) _

-- an octet's symbols are as many bits as the octet
octet_bits_lem : (r : Rate) (past : List ℕ) (x : ℕ) → length (scramble past (bits_of 8 x)) ≡ octet_symbols r * symbol_bits r
unfolding scramble bits_of mixed
octet_bits_lem One past x = refl
octet_bits_lem Two past x = refl
octet_bits_lem Five past x = refl
octet_bits_lem Eleven past x = refl

-- eight outputs are past enough
octet_past : (h : List ℕ) (x : ℕ) → Agree (after h (bits_of 8 x)) (reverse (scramble h (bits_of 8 x)))
octet_past h x bs = scramble_window _ _ bs (seven h x)
  where
    seven : (h : List ℕ) (x : ℕ) → take 7 (after h (bits_of 8 x)) ≡ take 7 (reverse (scramble h (bits_of 8 x)))
    seven h x = unfold scramble bits_of mixed past_after in refl

-- all the symbols of octets, from the outputs h so far, numbered from k
unfoldable pub all_symbols : Rate → List ℕ → ℕ → List ℕ → List Symbol
all_symbols r h k xs = symbols_from r k (octet_symbols r * length xs) (scramble h (octet_bits xs))

pub symbols_of_octets : (r : Rate) (h xs : List ℕ) → symbols_of r (scramble h (octet_bits xs)) ≡ all_symbols r h 0 xs
unfolding symbols_of all_symbols
symbols_of_octets r h xs = rw (scramble_length h (octet_bits xs), octet_bits_length xs, part_symbols r (length xs))

-- octets from the k-th of a part, whose first symbol is its n-th
pub record Sent (r : Rate) (k n : ℕ) (s : State) (h xs : List ℕ) : Type 0 where
  pub chips : run r k s xs ≡ chips_from r s.phase (all_symbols r h n xs)
  pub phase : (ran r k s xs).phase ≡ last_phase s.phase (all_symbols r h n xs)
  pub past : Agree (after h (octet_bits xs)) (ran r k s xs).past

all_nil : (r : Rate) (h : List ℕ) (k : ℕ) → all_symbols r h k [] ≡ []
unfolding all_symbols symbols_from symbol_of
all_nil r h k = rw (mul-zero (octet_symbols r))

all_cons : (r : Rate) (h : List ℕ) (k x : ℕ) (xs : List ℕ)
    → all_symbols r h k (x ∷ xs)
    ≡ symbols_from r k (octet_symbols r) (scramble h (bits_of 8 x)) ++ all_symbols r (after h (bits_of 8 x))
    (k + octet_symbols r) xs
unfolding all_symbols octet_bits
all_cons r h k x xs =
    let m = octet_symbols r in
    rw (mul-suc m (length xs), add_comm (m * length xs) m, scramble_append h (bits_of 8 x) (octet_bits xs))
    (symbols_from_append r k m (m * length xs) _ _ (octet_bits_lem r h x))

-- an octet's symbols do not depend on which of two agreeing pasts they come from
first : (r : Rate) (s : State) (h : List ℕ) (k n x : ℕ) → n ≡ octet_symbols r * k → Agree h s.past
    → symbols_at r (octet_symbols r * k) (scramble s.past (bits_of 8 x))
    ≡ symbols_from r n (octet_symbols r) (scramble h (bits_of 8 x))
unfolding symbols_at
first r s h k n x e a = rw (e, a (bits_of 8 x))

pub sent : (r : Rate) (k n : ℕ) (s : State) (h xs : List ℕ) → n ≡ octet_symbols r * k → Agree h s.past
    → Sent r k n s h xs
unfolding run ran emit step octet_bits
sent r k n s h [] e a = record {
  chips = rw (all_nil r h n) nothing;
  phase = rw (all_nil r h n) still;
  past = λ bs. none bs ∙ a bs;
}
  where
    none : (bs : List ℕ) → scramble (after h []) bs ≡ scramble h bs
    none bs = unfold past_after scramble in refl

    nothing : [] ≡ chips_from r s.phase []
    nothing = unfold chips_from in refl

    still : s.phase ≡ last_phase s.phase []
    still = unfold last_phase in refl
sent r k n s h (x ∷ xs) e a =
    let o = bits_of 8 x in
    let agree : Agree (after h o) (step r k s x).past =
    λ bs. octet_past h x bs ∙ ap (λ (l : List ℕ). scramble (reverse l) bs) (a o) in
    let next : n + octet_symbols r ≡ octet_symbols r * suc k = omega (arith, mul-suc (octet_symbols r) k) in
    let rest = sent r (suc k) (n + octet_symbols r) (step r k s x) (after h o) xs next agree in
    let one = first r s h k n x e a in
    record {
      chips = rw (all_cons r h n x xs, chips_from_append, ← one, rest.chips);
      phase = rw (all_cons r h n x xs, last_phase_append, ← one, rest.phase);
      past = λ bs. ap (λ (l : List ℕ). scramble l bs) (after_append h o (octet_bits xs)) ∙ rest.past bs;
    }
