-- The front is read from the front's chips alone: recordings that begin alike tell the same.
--     preamble_fits, header_fits    the symbols of a front are in it
--     front_same                    recordings that begin alike, however they go on
-- Assumes nothing.
use mathlib.Core.Path.{◌≡◌, refl, sym, ap, ap₂, ◌∙◌}
use mathlib.Core.List.{List, ◌∷◌, ◌++◌, map}
use Rattle.std.specs.Prelude.{Option, Some}
use Prim.Native.Nat.{ℕ, zero, suc, ◌+◌, ◌-◌, ◌*◌, ◌/◌, ◌≤◌, ◌<◌}
use native.Mathlib.Nat.{mul-suc, le_refl}
use native.Mathlib.Decide.{dec_le}
use native.Mathlib.Omega.{arith}
use borrow.Author.Tests.{lt-ltb, le-ltb}
use lib.ListN.{length, get_or, take, drop}
use lib.Seq.{take-take, take_all, length-take-le}
use Rattle.base.proofs.Lists.{drop_take}
use Rattle.rules_rates.specs.declared.Rate.{Rate}
use Rattle.rules_rates.specs.declared.Rate.TheVariants.{One}
use Rattle.rules_rates.specs.Rates.{symbol_chips, symbol_bits}
use Rattle.rules_chips.specs.Chips.{Taken, taken_counts}
use Rattle.rules_symbols.specs.Choice.{decided}
use Rattle.rules_bits.specs.Growths.{heard, growths_of, last_heard}
use Rattle.rules_bits.specs.Scrambler.{descramble}
use Rattle.rules_frame.specs.declared.Kind.{Kind}
use Rattle.rules_frame.specs.declared.Kind.TheVariants.{Long, Short}
use Rattle.rules_frame.specs.Frame.{header_rate, start, front_chips, preamble_length, header_length, preamble_chips}
use Rattle.rules_calls.specs.Headers.{Accepted}
use Rattle.rules_reading.specs.Reading.{
  or_else,
  odd_growth,
  decided_words,
  preamble_words,
  header_words,
  reference,
  header_phase,
  front_odd,
  front_heard,
  front_bits,
  front_by,
}

-- m symbols are decided from their chips
words_take : (r : Rate) (m j : ℕ) (rec : List Taken) → symbol_chips r * m ≤ j
    → decided_words r m (take j rec) ≡ decided_words r m rec
unfolding decided_words
words_take r zero j rec h = refl
words_take r (suc m) j rec h =
    let c = symbol_chips r in
    let e : c * suc m ≡ c * m + c = mul-suc c m in
    let first : take c (take j rec) ≡ take c rec = take-take c j rec (omega arith) in
    let rest : decided_words r m (drop c (take j rec)) ≡ decided_words r m (drop c rec) =
    ap (decided_words r m) (drop_take c j rec) ∙ words_take r m (j - c) (drop c rec) (omega arith) in
    ap₂ {C = List ℕ} (λ (x : List Taken) (ws : List ℕ). decided r (map taken_counts x) ∷ ws) first rest

pub preamble_fits : (k : Kind) → symbol_chips One * preamble_length k ≤ front_chips k
preamble_fits Long = omega arith
preamble_fits Short = omega arith

pub header_fits : (k : Kind)
    → preamble_chips k + symbol_chips (header_rate k) * (header_length / symbol_bits (header_rate k)) ≤ front_chips k
header_fits Long = omega arith
header_fits Short = omega arith

module _ (k : Kind) (rec : List Taken) where
  abbrev begin : List Taken
  begin = take (front_chips k) rec

  preamble_local : preamble_words k begin ≡ preamble_words k rec
  unfolding preamble_words
  preamble_local = words_take One (preamble_length k) (front_chips k) rec (preamble_fits k)

  header_local : header_words k begin ≡ header_words k rec
  unfolding header_words
  header_local =
      ap (decided_words (header_rate k) (header_length / symbol_bits (header_rate k)))
      (drop_take (preamble_chips k) (front_chips k) rec)
      ∙ words_take (header_rate k) (header_length / symbol_bits (header_rate k)) (front_chips k - preamble_chips k)
      (drop (preamble_chips k) rec)
      (omega (arith, header_fits k))

  reference_local : reference k begin ≡ reference k rec
  unfolding reference
  reference_local = ap (λ (w : List ℕ). get_or w 0 0) preamble_local

  phase_local : header_phase k begin ≡ header_phase k rec
  unfolding header_phase
  phase_local = ap₂ {C = ℕ} (λ p w. last_heard One p w) reference_local preamble_local

  odd_local : front_odd k begin ≡ front_odd k rec
  unfolding front_odd
  odd_local =
      ap₂ {C = Option ℕ} (λ x y. or_else x (λ place. Some place) y)
      (ap₂ {C = Option ℕ} (λ p w. odd_growth One 0 (growths_of One p w)) reference_local preamble_local)
      (ap₂ {C = Option ℕ} (λ p w. odd_growth (header_rate k) (preamble_chips k) (growths_of (header_rate k) p w)) phase_local
      header_local)

  bits_local : front_bits k begin ≡ front_bits k rec
  unfolding front_bits front_heard
  bits_local =
      ap₂ {C = List ℕ} (λ x y. descramble (start k) (x ++ y))
      (ap₂ {C = List ℕ} (λ p w. heard One 0 p w) reference_local preamble_local)
      (ap₂ {C = List ℕ} (λ p w. heard (header_rate k) 0 p w) phase_local header_local)

  front_local : (accepted : Accepted) → front_chips k ≤ length rec → front_by accepted k begin ≡ front_by accepted k rec
  unfolding front_by
  front_local accepted h =
      rw (
        le-ltb (length rec) (front_chips k) h,
        le-ltb (length begin) (front_chips k) (omega (arith, length-take-le (front_chips k) rec h)),
        take-take (front_chips k) (front_chips k) rec (le_refl (front_chips k)),
        odd_local,
        bits_local,
      )

-- recordings that begin alike tell the same, however they go on; one that is shorter than a front is refused whatever
-- it holds
module _ (k : Kind) (rec rec' : List Taken) (e : take (front_chips k) rec ≡ take (front_chips k) rec') where
  abbrev f : ℕ
  f = front_chips k

  long_enough : (a b : List Taken) → take f a ≡ take f b → f ≤ length a → length b < f → ⊥
  long_enough a b e h l =
      let same : length (take f a) ≡ length (take f b) = ap length e in
      omega (arith, same, length-take-le f a h, ap length (take_all f b (omega arith)))

  -- promise: A front is read from its own chips, whoever reads
  -- rule: 6.2, 6.30
  pub front_same : (accepted : Accepted) → front_by accepted k rec ≡ front_by accepted k rec'
  front_same accepted = by (dec_le f (length rec)) (dec_le f (length rec'))
    where
      by : Dec (f ≤ length rec) → Dec (f ≤ length rec') → front_by accepted k rec ≡ front_by accepted k rec'
      by (yes a) (yes b) =
          sym (front_local k rec accepted a) ∙ ap (front_by accepted k) e ∙ front_local k rec' accepted b
      by (yes a) (no b) = absurd (long_enough rec rec' e a (omega (arith, b)))
      by (no a) (yes b) = absurd (long_enough rec' rec (sym e) b (omega (arith, a)))
      by (no a) (no b) =
          unfold front_by in rw (lt-ltb (length rec) f (omega (arith, a)), lt-ltb (length rec') f (omega (arith, b)))
