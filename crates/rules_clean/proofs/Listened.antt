-- A recording that is decided as a frame was sent, read as the definition reads it: phases, growths and bits heard,
-- part by part. Assumes nothing.
use mathlib.Core.Path.{◌≡◌, refl, sym, ap, ap₂, ◌∙◌, subst}
use mathlib.Core.List.{List, ◌∷◌, ◌++◌}
use Rattle.std.specs.Prelude.{Option, None, Some}
use Prim.Native.Nat.{ℕ, ◌*◌, ◌/◌, ◌<◌}
use native.Mathlib.Omega.{arith}
use lib.ListN.{length, get_or, drop}
use lib.Seq.{drop-cons}
use Rattle.base.specs.Below.{Below}
use Rattle.rules_rates.specs.declared.Rate.{Rate}
use Rattle.rules_rates.specs.declared.Rate.TheVariants.{One, Two, Five, Eleven}
use Rattle.rules_chips.specs.Chips.{Taken}
use Rattle.rules_bits.specs.Growths.{symbols_of, heard, growths_of, last_heard}
use Rattle.rules_bits.proofs.Growths.{last_phase_lt}
use Rattle.rules_frame.specs.declared.Kind.{Kind}
use Rattle.rules_frame.specs.declared.Kind.TheVariants.{Long, Short}
use Rattle.rules_frame.specs.Frame.{header_rate, front_chips, preamble_length, header_length, preamble_chips}
use Rattle.rules_reading.specs.Reading.{
  or_else,
  first_odd,
  odd_growth,
  preamble_words,
  reference,
  header_phase,
  payload_phase,
  front_odd,
  front_heard,
  payload_words,
  payload_odd,
}
use Rattle.rules_clean.proofs.Parts.{
  words_of,
  first_phase,
  last_of,
  heard_of_lem,
  none_odd,
  first_is,
  last_own,
  none_own,
  heard_own,
}
use Rattle.rules_clean.proofs.FrameWords.{FrontAsSent, AsSent}
use Rattle.rules_clean.proofs.FrameWords as words

header_none : (k : Kind) (at p : ℕ) (bs : List ℕ) → p < 4
    → odd_growth (header_rate k) at (growths_of (header_rate k) p (words_of (header_rate k) p bs)) ≡ None
unfolding symbols_of
header_none Long at p bs l = none_odd at 0 p (length bs / 1) bs l
header_none Short at p bs l = refl

payload_none : (r : Rate) (at p : ℕ) (bs : List ℕ) → p < 4 → odd_growth r at (growths_of r p (words_of r p bs)) ≡ None
unfolding symbols_of
payload_none One at p bs l = none_odd at 0 p (length bs / 1) bs l
payload_none Two at p bs l = refl
payload_none Five at p bs l = refl
payload_none Eleven at p bs l = refl

eighteen : (k : Kind) → preamble_length k ≡ 8 * (preamble_length k / 8)
eighteen Long = refl
eighteen Short = refl

some_preamble : (k : Kind) → 0 < preamble_length k
some_preamble Long = omega arith
some_preamble Short = omega arith

module _ (k : Kind) (r : Rate) (p : ℕ) (header xs : List ℕ) (eh : length header ≡ header_length) (rec : List Taken)
    (l : p < 4) (begun : FrontAsSent k r p header xs rec) where
  abbrev n : ℕ
  n = length xs

  abbrev rate : Rate
  rate = header_rate k

  abbrev preamble : List ℕ
  preamble = words.preamble_out k r p header xs

  abbrev header_bits : List ℕ
  header_bits = words.header_out k r p header xs

  abbrev payload : List ℕ
  payload = words.payload_out k r p header xs

  abbrev q1 : ℕ
  q1 = words.header_from k r p header xs

  abbrev q2 : ℕ
  q2 = words.payload_from k r p header xs

  -- the preamble's first bit, whose symbol serves only as reference, and the others
  abbrev pub first_bit : ℕ
  first_bit = get_or preamble 0 0

  abbrev pub later_bits : List ℕ
  later_bits = drop 1 preamble

  pub preamble_headed : preamble ≡ first_bit ∷ later_bits
  preamble_headed =
      drop-cons preamble 0 0 (omega (arith, words.preamble_length_lem k r p header xs eh, some_preamble k))

  below_headed : Below 2 (first_bit ∷ later_bits)
  below_headed = subst (λ (t : List ℕ). Below 2 t) preamble_headed (words.preamble_below k r p header xs eh)

  length_headed : length (first_bit ∷ later_bits) ≡ preamble_length k
  length_headed = ap length (sym preamble_headed) ∙ words.preamble_length_lem k r p header xs eh

  preamble_words_lem : preamble_words k rec ≡ words_of One p (first_bit ∷ later_bits)
  preamble_words_lem = begun.preamble_words_lem ∙ ap (words_of One p) preamble_headed

  lq1 : q1 < 4
  lq1 = last_phase_lt p (symbols_of One preamble) l

  lq2 : q2 < 4
  lq2 = last_phase_lt q1 (symbols_of rate header_bits) lq1

  reference_is : reference k rec ≡ first_phase p first_bit
  unfolding reference
  reference_is = ap (λ (w : List ℕ). get_or w 0 0) preamble_words_lem ∙ first_is p first_bit later_bits l

  header_phase_lem : header_phase k rec ≡ q1
  unfolding header_phase
  header_phase_lem =
      ap₂ {C = ℕ} (λ f w. last_heard One f w) reference_is preamble_words_lem
      ∙ last_own p first_bit later_bits l
      ∙ ap (λ (t : List ℕ). last_heard One p (words_of One p t)) (sym preamble_headed)
      ∙ last_of One p preamble (words.preamble_below k r p header xs eh)

  payload_phase_lem : payload_phase k rec ≡ q2
  unfolding payload_phase
  payload_phase_lem =
      ap₂ {C = ℕ} (λ f w. last_heard rate f w) header_phase_lem begun.header_words_lem
      ∙ last_of rate q1 header_bits (words.header_below k r p header xs eh)

  pub front_none : front_odd k rec ≡ None
  unfolding front_odd
  front_none =
      ap₂ {C = Option ℕ} (λ x y. or_else x (λ place. Some place) y)
      (ap₂ {C = Option ℕ} (λ f w. first_odd 0 (growths_of One f w)) reference_is preamble_words_lem
      ∙ none_own p first_bit later_bits l 0)
      (ap₂ {C = Option ℕ} (λ f w. odd_growth rate (preamble_chips k) (growths_of rate f w)) header_phase_lem
      begun.header_words_lem
      ∙ header_none k (preamble_chips k) q1 header_bits lq1)

  pub front_heard_lem : front_heard k rec ≡ 0 ∷ (later_bits ++ header_bits)
  unfolding front_heard
  front_heard_lem =
      ap₂ {C = List ℕ} (λ x y. x ++ y)
      (ap₂ {C = List ℕ} (λ f w. heard One 0 f w) reference_is preamble_words_lem
      ∙ heard_own p first_bit later_bits l (preamble_length k / 8) below_headed (length_headed ∙ eighteen k))
      (ap₂ {C = List ℕ} (λ f w. heard rate 0 f w) header_phase_lem begun.header_words_lem
      ∙ heard_of_lem rate q1 6 header_bits lq1 (words.header_below k r p header xs eh)
      (words.header_length_lem k r p header xs eh))

  module _ (sent : AsSent k r p header xs rec) where
    pub payload_odd_lem : payload_odd k r n rec ≡ None
    unfolding payload_odd
    payload_odd_lem =
        ap₂ {C = Option ℕ} (λ f w. odd_growth r (front_chips k) (growths_of r f w)) payload_phase_lem sent.payload_words_lem
        ∙ payload_none r (front_chips k) q2 payload lq2

    pub payload_heard : heard r 0 (payload_phase k rec) (payload_words k r n rec) ≡ payload
    payload_heard =
        ap₂ {C = List ℕ} (λ f w. heard r 0 f w) payload_phase_lem sent.payload_words_lem
        ∙ heard_of_lem r q2 n payload lq2 (words.payload_below k r p header xs eh)
        (words.payload_length k r p header xs eh)
