-- What is read of a recording's beginning is read of the whole of it.
--     words_prefix, leads_prefix     symbols whose chips are there, whatever follows
--     unusable_append                the first unusable chip of two parts
--     preamble_prefix, reference_prefix, header_phase_prefix    the preamble, once it is whole
--     header_prefix, phase_prefix, heard_prefix, front_leads_prefix, front_prefix    the front, once it is whole
-- Assumes nothing.
use mathlib.Core.Path.{◌≡◌, refl, ap, ap₂, ◌∙◌}
use mathlib.Core.Bool.{Bool, true, false, cond}
use mathlib.Core.List.{List, [], ◌∷◌, ◌++◌, map}
use Rattle.std.specs.Prelude.{Some}
use Prim.Native.Nat.{ℕ, zero, suc, ◌+◌, ◌*◌, ◌/◌, ◌≤◌}
use native.Mathlib.Nat.{mul-suc, add-zero}
use native.Mathlib.Omega.{arith}
use lib.ListN.{length, get_or, drop, length-drop}
use lib.Seq.{take-append-le, drop-append-le}
use Rattle.rules_rates.specs.declared.Rate.{Rate}
use Rattle.rules_rates.specs.declared.Rate.TheVariants.{One}
use Rattle.rules_rates.specs.Rates.{symbol_chips, symbol_bits}
use Rattle.rules_chips.specs.Chips.{Taken, is_unusable, taken_counts}
use Rattle.rules_symbols.specs.Choice.{decided, lead_of}
use Rattle.rules_bits.specs.Growths.{heard, last_heard}
use Rattle.rules_frame.specs.declared.Kind.{Kind}
use Rattle.rules_frame.specs.Frame.{header_rate, front_chips, preamble_length, header_length, preamble_chips}
use Rattle.rules_calls.specs.Headers.{ours}
use Rattle.rules_reading.specs.Leads.{decided_leads, front_leads}
use Rattle.rules_reading.specs.Reading.{
  or_else,
  first_unusable,
  decided_words,
  preamble_words,
  header_words,
  reference,
  header_phase,
  payload_phase,
  front_heard,
  front_of,
}
use Rattle.rules_reading.proofs.Local.{preamble_fits, header_fits, front_same}

-- ---- symbols

pub words_prefix : (r : Rate) (m : ℕ) (cs more : List Taken) → symbol_chips r * m ≤ length cs
    → decided_words r m (cs ++ more) ≡ decided_words r m cs
unfolding decided_words
words_prefix r zero cs more h = refl
words_prefix r (suc m) cs more h =
    let c = symbol_chips r in
    let e : c * suc m ≡ c * m + c = mul-suc c m in
    let rest : decided_words r m (drop c (cs ++ more)) ≡ decided_words r m (drop c cs) =
    ap (decided_words r m) (drop-append-le c cs more (omega arith))
    ∙ words_prefix r m (drop c cs) more (omega (arith, length-drop c cs)) in
    ap₂ {C = List ℕ} (λ (x : List Taken) (ws : List ℕ). decided r (map taken_counts x) ∷ ws)
    (take-append-le c cs more (omega arith)) rest

pub leads_prefix : (r : Rate) (m : ℕ) (cs more : List Taken) → symbol_chips r * m ≤ length cs
    → decided_leads r m (cs ++ more) ≡ decided_leads r m cs
unfolding decided_leads
leads_prefix r zero cs more h = refl
leads_prefix r (suc m) cs more h =
    let c = symbol_chips r in
    let e : c * suc m ≡ c * m + c = mul-suc c m in
    let rest : decided_leads r m (drop c (cs ++ more)) ≡ decided_leads r m (drop c cs) =
    ap (decided_leads r m) (drop-append-le c cs more (omega arith))
    ∙ leads_prefix r m (drop c cs) more (omega (arith, length-drop c cs)) in
    ap₂ {C = List ℕ} (λ (x : List Taken) (ws : List ℕ). lead_of r (map taken_counts x) ∷ ws)
    (take-append-le c cs more (omega arith)) rest

-- ---- the first unusable chip of two parts

pub unusable_append : (at : ℕ) (a b : List Taken) → first_unusable at (a ++ b)
    ≡ or_else (first_unusable at a) (λ place. Some place) (first_unusable (at + length a) b)
unfolding first_unusable
unusable_append at [] b = rw add-zero
unusable_append at (c ∷ a) b = by (is_unusable c)
    (unusable_append (suc at) a b
    ∙ ap (λ (j : ℕ). or_else (first_unusable (suc at) a) (λ place. Some place) (first_unusable j b)) (next (length a)))
  where
    next : (n : ℕ) → suc at + n ≡ at + suc n
    next n = omega arith

    by : (c : Bool) → first_unusable (suc at) (a ++ b)
        ≡ or_else (first_unusable (suc at) a) (λ place. Some place) (first_unusable (at + suc (length a)) b)
        → cond c (Some at) (first_unusable (suc at) (a ++ b))
        ≡ or_else (cond c (Some at) (first_unusable (suc at) a)) (λ place. Some place)
        (first_unusable (at + suc (length a)) b)
    by true e = refl
    by false e = e

-- ---- the preamble, once it is whole

module _ (k : Kind) (rec more : List Taken) (whole : preamble_chips k ≤ length rec) where
  pub preamble_prefix : preamble_words k (rec ++ more) ≡ preamble_words k rec
  unfolding preamble_words
  preamble_prefix = words_prefix One (preamble_length k) rec more (omega (arith, whole))

  pub reference_prefix : reference k (rec ++ more) ≡ reference k rec
  unfolding reference
  reference_prefix = ap (λ (w : List ℕ). get_or w 0 0) preamble_prefix

  pub header_phase_prefix : header_phase k (rec ++ more) ≡ header_phase k rec
  unfolding header_phase
  header_phase_prefix = ap₂ {C = ℕ} (λ p w. last_heard One p w) reference_prefix preamble_prefix

-- ---- the front, once it is whole

module _ (k : Kind) (rec more : List Taken) (whole : front_chips k ≤ length rec) where
  before : preamble_chips k ≤ length rec
  before = omega (arith, header_fits k)

  pub header_prefix : header_words k (rec ++ more) ≡ header_words k rec
  unfolding header_words
  header_prefix =
      let p = preamble_chips k in
      let m = header_length / symbol_bits (header_rate k) in
      ap (decided_words (header_rate k) m) (drop-append-le p rec more before)
      ∙ words_prefix (header_rate k) m (drop p rec) more (omega (arith, header_fits k, length-drop p rec))

  pub phase_prefix : payload_phase k (rec ++ more) ≡ payload_phase k rec
  unfolding payload_phase
  phase_prefix =
      ap₂ {C = ℕ} (λ p w. last_heard (header_rate k) p w) (header_phase_prefix k rec more before) header_prefix

  pub heard_prefix : front_heard k (rec ++ more) ≡ front_heard k rec
  unfolding front_heard
  heard_prefix =
      ap₂ {C = List ℕ} (λ x y. x ++ y)
      (ap₂ {C = List ℕ} (λ p w. heard One 0 p w) (reference_prefix k rec more before)
      (preamble_prefix k rec more before))
      (ap₂ {C = List ℕ} (λ p w. heard (header_rate k) 0 p w) (header_phase_prefix k rec more before) header_prefix)

  pub front_leads_prefix : front_leads k (rec ++ more) ≡ front_leads k rec
  unfolding front_leads
  front_leads_prefix =
      let p = preamble_chips k in
      let m = header_length / symbol_bits (header_rate k) in
      ap₂ {C = List ℕ} (λ x y. x ++ y)
      (leads_prefix One (preamble_length k) rec more (omega (arith, preamble_fits k)))
      (ap (decided_leads (header_rate k) m) (drop-append-le p rec more before)
      ∙ leads_prefix (header_rate k) m (drop p rec) more (omega (arith, header_fits k, length-drop p rec)))

  pub front_prefix : front_of k (rec ++ more) ≡ front_of k rec
  front_prefix = front_same k (rec ++ more) rec (take-append-le (front_chips k) rec more whole) ours
