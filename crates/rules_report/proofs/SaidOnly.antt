-- A report has one text (RULES 6.20): two that say its numbers line by line are the same, so that nothing of what a
-- text must say can be missing.
--     digits_only    a number has one row of digits, the highest first, with no zero in front
--     text_only      a report has one text
-- Assumes nothing.
use mathlib.Core.Path.{◌≡◌, refl, sym, ◌∙◌}
use mathlib.Core.List.{List, [], ◌∷◌, ◌++◌}
use Prim.Native.Nat.{ℕ, zero, suc, ◌+◌, ◌-◌, ◌*◌, ◌≤◌, ◌<◌}
use native.Mathlib.Nat.{not-suc-le-zero}
use native.Mathlib.Decide.{dec_lt, ℕ_discrete}
use native.Mathlib.Omega.{arith}
use lib.ListN.{length, get_or}
use Rattle.rules_report.specs.declared.Report.{Report}
use Rattle.rules_report.specs.Said.{
  value_from,
  IsDigit,
  DigitsOf,
  RateSaid,
  CountSaid,
  RefusedSaid,
  RefusalsSaid,
  no_more,
  and_then,
  AirtimeSaid,
  WonBySaid,
  LeadSaid,
  TextSaid,
}

-- ---- digits

abbrev Digits : List ℕ → Type 0
Digits ds = (i : ℕ) → i < length ds → IsDigit (get_or ds i 0)

-- as many digits with the same value, whatever was read before them, are the same
as_many : (ds es : List ℕ) (b c : ℕ) → length ds ≡ length es → Digits ds → Digits es → value_from b ds ≡ value_from c es
    → (b ≡ c) × (ds ≡ es)
unfolding value_from
as_many [] [] b c l f g e = (e, refl)
as_many [] (y ∷ es) b c l f g e = absurd (omega arith)
as_many (x ∷ ds) [] b c l f g e = absurd (omega arith)
as_many (x ∷ ds) (y ∷ es) b c l f g e =
    let rest =
    as_many ds es (10 * b + (x - 48)) (10 * c + (y - 48)) (omega arith) (λ i h. f (suc i) (omega arith))
    (λ i h. g (suc i) (omega arith)) e in
    let same : x ≡ y = omega (arith, rest.0, f 0 (omega arith), g 0 (omega arith)) in
    (omega (arith, rest.0, f 0 (omega arith), g 0 (omega arith)), λ i. same i ∷ rest.1 i)

-- more of them, behind a number that is not 0, come to more
longer : (ds es : List ℕ) (k c : ℕ) → length es ≡ k + length ds → 1 ≤ c → Digits ds → Digits es
    → value_from 0 ds ≡ value_from c es → ⊥
unfolding value_from
longer ds es zero c l p f g e = omega (arith, (as_many ds es 0 c (omega arith) f g e).0)
longer ds [] (suc k) c l p f g e = omega arith
longer ds (y ∷ es) (suc k) c l p f g e =
    longer ds es k (10 * c + (y - 48)) (omega arith) (omega arith) f (λ i h. g (suc i) (omega arith)) e

no_longer : (n : ℕ) (ds es : List ℕ) → DigitsOf n ds → DigitsOf n es → length ds < length es → ⊥
unfolding value_from
no_longer n ds [] a b l = not-suc-le-zero l
no_longer n ds (y ∷ es) a b l =
    let high : 48 < y = b.front (omega (arith, a.some)) in
    longer ds es (length es - length ds) (10 * 0 + (y - 48)) (omega arith) (omega arith) a.each
    (λ i h. b.each (suc i) (omega arith)) (a.value ∙ sym b.value)

pub digits_only : {n : ℕ} {ds es : List ℕ} → DigitsOf n ds → DigitsOf n es → ds ≡ es
digits_only {n} {ds} {es} a b = by (dec_lt (length ds) (length es)) (dec_lt (length es) (length ds))
  where
    by : Dec (length ds < length es) → Dec (length es < length ds) → ds ≡ es
    by (yes h) d = absurd (no_longer n ds es a b h)
    by (no g) (yes h) = absurd (no_longer n es ds b a h)
    by (no g) (no h) = (as_many ds es 0 0 (omega arith) a.each b.each (a.value ∙ sym b.value)).1

-- ---- lines

module _ {l m : List ℕ} where
  rate_only : {rate frames octets : ℕ} → RateSaid rate frames octets l → RateSaid rate frames octets m → l ≡ m
  rate_only a b =
      cc (
        a.line_is,
        b.line_is,
        digits_only a.rate_is b.rate_is,
        digits_only a.frames_are b.frames_are,
        digits_only a.octets_are b.octets_are,
      )

  count_only : {number count : ℕ} → CountSaid number count l → CountSaid number count m → l ≡ m
  count_only a b =
      cc (a.line_is, b.line_is, digits_only a.number_is b.number_is, digits_only a.count_is b.count_is)

  refused_only : {number count : ℕ} → RefusedSaid number count l → RefusedSaid number count m → l ≡ m
  refused_only {count = count} a b = by (ℕ_discrete count 0)
    where
      by : Dec (count ≡ 0) → l ≡ m
      by (yes e) = a.none e ∙ sym (b.none e)
      by (no n) = count_only (a.met n) (b.met n)

  airtime_only : {airtime : ℕ} → AirtimeSaid airtime l → AirtimeSaid airtime m → l ≡ m
  airtime_only a b = cc (a.line_is, b.line_is, digits_only a.airtime_is b.airtime_is)

  won_only : {lead recording : ℕ} → WonBySaid lead recording l → WonBySaid lead recording m → l ≡ m
  won_only a b =
      cc (
        a.line_is,
        b.line_is,
        digits_only a.lead_is b.lead_is,
        digits_only a.recording_is b.recording_is,
      )

  lead_only : {some lead recording : ℕ} → LeadSaid some lead recording l → LeadSaid some lead recording m → l ≡ m
  lead_only {some} a b = by (ℕ_discrete some 0)
    where
      by : Dec (some ≡ 0) → l ≡ m
      by (yes e) = a.none e ∙ sym (b.none e)
      by (no n) = won_only (a.there n) (b.there n)

refusals_only : (refused : List ℕ) (k : ℕ) (l m : List ℕ) → RefusalsSaid refused k l → RefusalsSaid refused k m → l ≡ m
refusals_only refused _ _ _ no_more no_more = refl
refusals_only refused _ _ _ (and_then k l a p s) (and_then _ m b q t) =
    λ i. refusals_only refused k l m p q i ++ refused_only s t i

-- ---- the text

-- promise: A report has one text: two that say its words and numbers, line by line, are the same
-- rule: 6.20
-- with: digits_only
-- no test: a run shows one text, not that no other is allowed
pub text_only : {p : Report} {t u : List ℕ} → TextSaid p t → TextSaid p u → t ≡ u
text_only {p} a b =
    cc (
      a.text_is,
      b.text_is,
      rate_only a.at_10 b.at_10,
      rate_only a.at_20 b.at_20,
      rate_only a.at_55 b.at_55,
      rate_only a.at_110 b.at_110,
      refusals_only p.refused 17 a.refusals b.refusals a.refusals_are b.refusals_are,
      airtime_only a.airtime_is b.airtime_is,
      lead_only a.lead_is b.lead_is,
    )
