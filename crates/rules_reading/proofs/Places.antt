-- Places lie in the part that they are found in: those of 9 and 10 in a front, and in a payload.
--     front_place, whole_place    a front's, which has some chips (some_chips); front_odd_place, that of 10
--     payload_unusable_place, payload_odd_place    a payload's
--     payload_odd_rate       a 10 comes at 1 Mbit/s only
--     decided_words_length    as many words as symbols
-- Assumes nothing.
use mathlib.Core.Path.{◌≡◌, refl, ap, ◌∙◌, subst}
use mathlib.Core.List.{List, [], ◌∷◌}
use Rattle.std.specs.Prelude.{Option, None, Some}
use Prim.Native.Nat.{ℕ, zero, suc, ◌+◌, ◌-◌, ◌*◌, ◌/◌, ◌≤◌, ◌<◌}
use native.Mathlib.Omega.{arith}
use lib.ListN.{length, take, drop}
use Rattle.rules_rates.specs.declared.Rate.{Rate}
use Rattle.rules_rates.specs.declared.Rate.TheVariants.{One, Two, Five, Eleven}
use Rattle.rules_rates.specs.Rates.{symbol_chips, symbol_bits, octet_chips}
use Rattle.rules_chips.specs.Chips.{Taken}
use Rattle.rules_bits.specs.Growths.{growths_of}
use Rattle.rules_bits.proofs.Heard.{growths_of_length}
use Rattle.rules_frame.specs.declared.Kind.{Kind}
use Rattle.rules_frame.specs.declared.Kind.TheVariants.{Long, Short}
use Rattle.rules_frame.specs.Frame.{header_rate, front_chips, preamble_length, header_length, preamble_chips, frame_chips}
use Rattle.rules_calls.specs.declared.Refusal.{Refusal}
use Rattle.rules_calls.specs.declared.Told.{Told}
use Rattle.rules_calls.specs.Answers.{refusal_place}
use Rattle.rules_reading.specs.Reading.{
  first_unusable,
  first_odd,
  odd_growth,
  decided_words,
  preamble_words,
  header_words,
  reference,
  header_phase,
  payload_phase,
  front_odd,
  payload_words,
  payload_odd,
}
use Rattle.rules_reading.proofs.Local.{preamble_fits, header_fits}
use Rattle.rules_reading.proofs.Payloads.{found_unusable}
use Rattle.rules_reading.proofs.Telling.{searched}
use Rattle.rules_reading.proofs.First.{unusable_first, odd_first}
use Rattle.rules_reading.proofs.Refusals.{
  FrontRefusal,
  front_short,
  front_unusable,
  front_odd_lem,
  sfd_differs,
  crc_differs,
  no_signal,
  no_service,
  no_length,
  WholeRefusal,
  met_in_front,
  frame_ends,
}

pub decided_words_length : (r : Rate) (m : ℕ) (cs : List Taken) → length (decided_words r m cs) ≡ m
unfolding decided_words
decided_words_length r zero cs = refl
decided_words_length r (suc m) cs = ap suc (decided_words_length r m (drop (symbol_chips r) cs))

-- ---- what a search finds

abbrev Inside : ℕ → ℕ → Option ℕ → Type 0
Inside at to None = Unit {0}
Inside at to (Some p) = (at ≤ p) × (p < to)

within_wider : (at at' to to' : ℕ) (o : Option ℕ) → at ≤ at' → to' ≤ to → Inside at' to' o → Inside at to o
within_wider at at' to to' None a b h = tt
within_wider at at' to to' (Some p) a b h = (omega (arith, a, h.0), omega (arith, b, h.1))

within_at : {at to p : ℕ} {o : Option ℕ} → Inside at to o → o ≡ Some p → (at ≤ p) × (p < to)
within_at {at} {to} h e = subst (Inside at to) e h

few : (n : ℕ) (cs : List Taken) → length (take n cs) ≤ n
few zero cs = omega arith
few (suc n) [] = omega arith
few (suc n) (c ∷ cs) = omega (arith, few n cs)

unusable_within : (at n : ℕ) (cs : List Taken) → Inside at (at + n) (first_unusable at (take n cs))
unusable_within at n cs = go (first_unusable at (take n cs)) refl
  where
    go : (o : Option ℕ) → first_unusable at (take n cs) ≡ o → Inside at (at + n) o
    go None e = tt
    go (Some p) e =
        let f = unusable_first at (take n cs) p e in
        (omega (arith, f.place_is), omega (arith, f.place_is, f.inside, few n cs))

odd_within : (at : ℕ) (gs : List ℕ) → Inside at (at + 11 * length gs) (first_odd at gs)
odd_within at gs = go (first_odd at gs) refl
  where
    go : (o : Option ℕ) → first_odd at gs ≡ o → Inside at (at + 11 * length gs) o
    go None e = tt
    go (Some p) e =
        let f = odd_first at gs p e in (omega (arith, f.place_is), omega (arith, f.place_is, f.inside))

-- of m symbols of a rate
growths_within : (r : Rate) (at p m : ℕ) (cs : List Taken)
    → Inside at (at + symbol_chips r * m) (odd_growth r at (growths_of r p (decided_words r m cs)))
growths_within One at p m cs =
    let gs = growths_of One p (decided_words One m cs) in
    let e : length gs ≡ m = growths_of_length One p (decided_words One m cs) ∙ decided_words_length One m cs in
    within_wider at at (at + 11 * m) (at + 11 * length gs) (first_odd at gs) (omega arith) (omega arith)
    (odd_within at gs)
growths_within Two at p m cs = tt
growths_within Five at p m cs = tt
growths_within Eleven at p m cs = tt

-- ---- fronts

pub some_chips : (k : Kind) → 0 < front_chips k
some_chips Long = omega arith
some_chips Short = omega arith

module _ (k : Kind) (rec : List Taken) (p : ℕ) where
  front_unusable_place : first_unusable 0 (take (front_chips k) rec) ≡ Some p → p < front_chips k
  front_unusable_place e = omega (arith, (within_at (unusable_within 0 (front_chips k) rec) e).1)

  odd_in_front : Inside 0 (front_chips k) (front_odd k rec)
  unfolding front_odd preamble_words header_words
  odd_in_front =
      let a = growths_within One 0 (reference k rec) (preamble_length k) rec in
      let h = header_length / symbol_bits (header_rate k) in
      let b = growths_within (header_rate k) (preamble_chips k) (header_phase k rec) h (drop (preamble_chips k) rec) in
      let first = odd_growth One 0 (growths_of One (reference k rec) (preamble_words k rec)) in
      let second = odd_growth (header_rate k) (preamble_chips k)
      (growths_of (header_rate k) (header_phase k rec) (header_words k rec)) in
      searched (Inside 0 (front_chips k)) first (λ place. Some place) second
      (λ q e. let w = within_at {at = 0} {to = 0 + symbol_chips One * preamble_length k} a e in
      (omega arith, omega (arith, w.1, preamble_fits k)))
      (within_wider 0 (preamble_chips k) (front_chips k) _ second (omega arith) (header_fits k) b)

  pub front_odd_place : front_odd k rec ≡ Some p → p < front_chips k
  front_odd_place e = (within_at odd_in_front e).1

-- whatever a front is refused with
pub front_place : (k : Kind) (rec : List Taken) {e : Refusal} → FrontRefusal k rec e → refusal_place e < front_chips k
front_place k rec (front_short l) = some_chips k
front_place k rec (front_unusable p l f) = front_unusable_place k rec p f
front_place k rec (front_odd_lem p l u f) = front_odd_place k rec p f
front_place k rec (sfd_differs c d) = some_chips k
front_place k rec (crc_differs c s d) = some_chips k
front_place k rec (no_signal s a) = some_chips k
front_place k rec (no_service s a b) = some_chips k
front_place k rec (no_length s a b d) = some_chips k

pub whole_place : (k : Kind) (rec : List Taken) {e : Refusal} → WholeRefusal k rec e → refusal_place e < front_chips k
whole_place k rec (met_in_front h) = front_place k rec h
whole_place k rec (frame_ends t h l) = some_chips k

-- ---- payloads

abbrev IsNone : Option ℕ → Type 0
IsNone None = Unit {0}
IsNone (Some q) = ⊥

module _ (k : Kind) (rec : List Taken) (p : ℕ) (t : Told) where
  abbrev InPayload : Type 0
  InPayload = (front_chips k ≤ p) × (p < frame_chips k t.rate t.n)

  pub payload_unusable_place : found_unusable k t rec ≡ Some p → InPayload
  payload_unusable_place e =
      let from = front_chips k in
      let all = frame_chips k t.rate t.n in
      let w = within_at (unusable_within from (all - from) (drop from rec)) e in
      (w.0, omega (arith, w.1))

  symbols_fit : (r : Rate) (n : ℕ) → symbol_chips r * (8 * n / symbol_bits r) ≤ octet_chips r * n
  symbols_fit One n = omega arith
  symbols_fit Two n = omega arith
  symbols_fit Five n = omega arith
  symbols_fit Eleven n = omega arith

  pub payload_odd_place : payload_odd k t.rate t.n rec ≡ Some p → InPayload
  unfolding payload_odd payload_words
  payload_odd_place e =
      let from = front_chips k in
      let m = 8 * t.n / symbol_bits t.rate in
      let w = within_at (growths_within t.rate from (payload_phase k rec) m (drop from rec)) e in
      (w.0, omega (arith, w.1, symbols_fit t.rate t.n))

  -- symbols of the other rates may grow by anything
  odd_rate : (r : Rate) (gs : List ℕ) → odd_growth r (front_chips k) gs ≡ Some p → r ≡ One
  odd_rate One gs e = refl
  odd_rate Two gs e = absurd (subst IsNone e tt)
  odd_rate Five gs e = absurd (subst IsNone e tt)
  odd_rate Eleven gs e = absurd (subst IsNone e tt)

  pub payload_odd_rate : payload_odd k t.rate t.n rec ≡ Some p → t.rate ≡ One
  unfolding payload_odd
  payload_odd_rate e = odd_rate t.rate _ e
