-- How a frame begins: every bit of SYNC, its first eight symbols, and what its starting phase does to all of its chips.
--     sync_long, sync_short          each of 128 bits is 1, each of 56 is 0
--     first_eight                    the first eight symbols, by kind and starting phase
--     framed_turned, frame_turned    the chips from starting phase p are those from 0, each turned by p
-- Assumes nothing.
use mathlib.Core.Path.{◌≡◌, refl, ap, ◌∙◌}
use mathlib.Core.Bool.{Bool}
use mathlib.Core.List.{List, [], ◌∷◌, ◌++◌, map, map-append}
use Prim.Native.Nat.{ℕ, zero, suc, ◌+◌, ◌<◌}
use native.Mathlib.Omega.{arith}
use lib.ListN.{length, get_or, take, drop}
use lib.Dec.{eqb, eqb→eq}
use Rattle.base.proofs.Tests.{all_at}
use Rattle.rules_rates.specs.declared.Rate.{Rate}
use Rattle.rules_rates.specs.declared.Rate.TheVariants.{One}
use Rattle.rules_chips.specs.Chips.{turned}
use Rattle.rules_symbols.specs.Words.{barker_word}
use Rattle.rules_bits.specs.Bits.{bits_of}
use Rattle.rules_bits.specs.Growths.{Symbol, symbol_of, symbols_from, symbols_of, chips_from, last_phase}
use Rattle.rules_bits.specs.Scrambler.{mixed, scramble}
use Rattle.rules_bits.specs.Code.{words_chips}
use Rattle.rules_bits.proofs.Growths.{chips_from_turned, last_phase_turned}
use Rattle.rules_frame.specs.declared.Kind.{Kind}
use Rattle.rules_frame.specs.declared.Kind.TheVariants.{Long, Short}
use Rattle.rules_frame.specs.Frame.{
  header_rate,
  preamble_bits,
  preamble_length,
  frame_bits,
  header_length,
  parts_chips,
  sent_header,
  sent_bits,
  framed,
  frame,
}

-- ---- SYNC

-- promise: SYNC is 128 ones under the long kind and 56 zeros under the short one, bit by bit
-- rule: 5.4
-- with: sync_short
pub sync_long : (j : ℕ) → j < 128 → get_or (preamble_bits Long) j 2 ≡ 1
unfolding preamble_bits
sync_long j h =
    eqb→eq (get_or (preamble_bits Long) j 2) 1 (all_at (λ i. eqb (get_or (preamble_bits Long) i 2) 1) 128 tt j h)

pub sync_short : (j : ℕ) → j < 56 → get_or (preamble_bits Short) j 2 ≡ 0
unfolding preamble_bits
sync_short j h =
    eqb→eq (get_or (preamble_bits Short) j 2) 0 (all_at (λ i. eqb (get_or (preamble_bits Short) i 2) 0) 56 tt j h)

-- ---- the first eight symbols: scrambled, the first bits are 0 1 1 1 1 1 1 0 of a long frame, 0 0 0 1 1 0 0 1 of a
-- short one
abbrev pub eight_phases : Kind → ℕ → List ℕ
eight_phases Long p = p ∷ turned p 2 ∷ p ∷ turned p 2 ∷ p ∷ turned p 2 ∷ p ∷ p ∷ []
eight_phases Short p = p ∷ p ∷ p ∷ turned p 2 ∷ p ∷ p ∷ p ∷ turned p 2 ∷ []

pub first_eight : (k : Kind) (r : Rate) (p : ℕ) (clock : Bool) (xs : List ℕ) → p < 4
    → take 88 (frame k r p clock xs) ≡ words_chips One (eight_phases k p)
unfolding
    frame framed parts_chips sent_bits frame_bits preamble_bits
    bits_of scramble mixed symbols_of symbols_from symbol_of chips_from barker_word words_chips
first_eight Long r zero clock xs h = refl
first_eight Long r (suc zero) clock xs h = refl
first_eight Long r (suc (suc zero)) clock xs h = refl
first_eight Long r (suc (suc (suc zero))) clock xs h = refl
first_eight Short r zero clock xs h = refl
first_eight Short r (suc zero) clock xs h = refl
first_eight Short r (suc (suc zero)) clock xs h = refl
first_eight Short r (suc (suc (suc zero))) clock xs h = refl
first_eight k r (suc (suc (suc (suc p)))) clock xs h = absurd (omega arith)

-- ---- the starting phase
parts_turned : (k : Kind) (r : Rate) (p : ℕ) (x y z : List ℕ)
    → parts_chips k r (turned p 0) x y z ≡ map (turned p) (parts_chips k r 0 x y z)
unfolding parts_chips
parts_turned k r p x y z =
    let a : List Symbol = symbols_of One x in
    let b : List Symbol = symbols_of (header_rate k) y in
    let c : List Symbol = symbols_of r z in
    let q = last_phase 0 a in
    rw (
      last_phase_turned p 0 a,
      last_phase_turned p q b,
      chips_from_turned One p 0 a,
      chips_from_turned (header_rate k) p q b,
      chips_from_turned r p (last_phase q b) c,
      map-append (turned p) (chips_from One 0 a) (chips_from (header_rate k) q b ++ chips_from r (last_phase q b) c),
      map-append (turned p) (chips_from (header_rate k) q b) (chips_from r (last_phase q b) c),
    )

-- promise: The chips from starting phase p are those from starting phase 0, each turned by p quarter turns
-- rule: 4.6
-- with: frame_turned
pub framed_turned : (k : Kind) (r : Rate) (p : ℕ) (header xs : List ℕ) → p < 4
    → framed k r p header xs ≡ map (turned p) (framed k r 0 header xs)
unfolding framed
framed_turned k r p header xs h =
    let s = sent_bits k header xs in
    let m = preamble_length k in
    let itself : p ≡ turned p 0 = omega arith in
    ap (λ (x : ℕ). parts_chips k r x (take m s) (take header_length (drop m s)) (drop (m + header_length) s)) itself
    ∙ parts_turned k r p (take m s) (take header_length (drop m s)) (drop (m + header_length) s)

pub frame_turned : (k : Kind) (r : Rate) (p : ℕ) (clock : Bool) (xs : List ℕ) → p < 4
    → frame k r p clock xs ≡ map (turned p) (frame k r 0 clock xs)
unfolding frame
frame_turned k r p clock xs h = framed_turned k r p (sent_header r clock (length xs)) xs h
