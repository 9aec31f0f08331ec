-- A front as its chips come: the preamble and the header of a recording are those of all that begins with it, and 10 of
-- what has come.
--     preamble_part, header_part     the same part, once its first symbol or the preamble is whole
--     preamble_bits_lem                  and the preamble's bits
--     odd_early, odd_stays           10 of a part: none before its first symbol is whole; one found stays
--     yet_before, yet_behind, yet_early, yet_stays    10 of a front
-- Assumes nothing.
use mathlib.Core.Path.{◌≡◌, refl, sym, ap, ap₂, ◌∙◌}
use mathlib.Core.List.{List, [], ◌++◌, map}
use Rattle.std.specs.Prelude.{Option, None, Some}
use Prim.Native.Nat.{ℕ, ◌+◌, ◌-◌, ◌*◌, ◌/◌, ◌≤◌, ◌<◌}
use native.Mathlib.Decide.{dec_le}
use native.Mathlib.Omega.{arith}
use lib.ListN.{length, get_or, take, drop, length-append, length-drop}
use lib.Seq.{take_all, take-append-le, take-append-add, drop-append-le}
use Rattle.rules_rates.specs.declared.Rate.{Rate}
use Rattle.rules_rates.specs.declared.Rate.TheVariants.{One, Two, Five, Eleven}
use Rattle.rules_rates.specs.Rates.{symbol_chips}
use Rattle.rules_chips.specs.Chips.{Taken, taken_counts}
use Rattle.rules_symbols.specs.Choice.{decided}
use Rattle.rules_bits.specs.Growths.{heard, growths_of, last_heard}
use Rattle.rules_bits.proofs.Heard.{growths_of_append}
use Rattle.rules_frame.specs.declared.Kind.{Kind}
use Rattle.rules_frame.specs.declared.Kind.TheVariants.{Long, Short}
use Rattle.rules_frame.specs.Frame.{header_rate, preamble_length, preamble_chips}
use Rattle.rules_reading.specs.Leads.{lead_at, least_of}
use Rattle.rules_reading.specs.Reading.{or_else, odd_growth, first_odd, decided_words, preamble_words, reference}
use Rattle.rules_reading.proofs.First as first
use Rattle.rules_reading.proofs.Passes.{odd_growth_append, decided_words_append}
use Rattle.rules_receiving.specs.Yet.{whole_symbols}
use Rattle.rules_receiving.specs.Sections.{Section, preamble_heard, preamble_section, header_section, section_odd}
use Rattle.rules_receiving.specs.Receivers.{front_odd_yet}
use Rattle.rules_receiving.proofs.Prefix.{
  words_prefix,
  leads_prefix,
  preamble_prefix,
  reference_prefix,
  header_phase_prefix,
}

-- ---- the same parts

reference_early : (k : Kind) (rec more : List Taken) → 11 ≤ length rec → reference k (rec ++ more) ≡ reference k rec
unfolding reference preamble_words decided_words
reference_early Long rec more h =
    ap (λ (cs : List Taken). decided One (map taken_counts cs)) (take-append-le 11 rec more h)
reference_early Short rec more h =
    ap (λ (cs : List Taken). decided One (map taken_counts cs)) (take-append-le 11 rec more h)

pub preamble_part : (k : Kind) (rec more : List Taken) → 11 ≤ length rec
    → preamble_section k (rec ++ more) ≡ preamble_section k rec
preamble_part k rec more h =
    ap₂ {C = Section}
    (λ p l. record { rate = One; from = 0; first = 0; phase = p; before = []; least = lead_at (get_or l 0 0) 0 })
    (reference_early k rec more h) (leads_prefix One 1 rec more h)

module _ (k : Kind) (rec more : List Taken) (whole : preamble_chips k ≤ length rec) where
  pub preamble_bits_lem : preamble_heard k (rec ++ more) ≡ preamble_heard k rec
  preamble_bits_lem =
      ap₂ {C = List ℕ} (λ p w. heard One 0 p w)
      (reference_prefix k rec more whole) (preamble_prefix k rec more whole)

  pub header_part : header_section k (rec ++ more) ≡ header_section k rec
  header_part = λ i. record {
    rate = header_rate k;
    from = preamble_chips k;
    first = preamble_chips k / 11;
    phase = header_phase_prefix k rec more whole i;
    before = preamble_bits_lem i;
    least = least_of (leads_prefix One (preamble_length k) rec more (omega (arith, whole)) i);
  }

-- ---- 10 of a part

pub odd_early : (p : Section) (rec : List Taken) → length rec < p.from + symbol_chips p.rate → section_odd p rec ≡ None
unfolding section_odd decided_words growths_of first_odd
odd_early p rec h =
    ap (λ (n : ℕ). odd_growth p.rate p.from
    (growths_of p.rate p.phase (decided_words p.rate n (drop p.from rec)))) (few p.rate h)
    ∙ nothing p.rate
  where
    few : (r : Rate) → length rec < p.from + symbol_chips r → whole_symbols r p.from rec ≡ 0
    few One l = omega arith
    few Two l = omega arith
    few Five l = omega arith
    few Eleven l = omega arith

    nothing : (r : Rate) → odd_growth r p.from [] ≡ None
    nothing One = refl
    nothing Two = refl
    nothing Five = refl
    nothing Eleven = refl

-- whole symbols of a part with more chips behind it
some_more : (r : Rate) (m n : ℕ) → m ≤ n
    → (n / symbol_chips r ≡ m / symbol_chips r + (n / symbol_chips r - m / symbol_chips r))
    × (symbol_chips r * (m / symbol_chips r) ≤ m)
some_more One m n h = (omega arith, omega arith)
some_more Two m n h = (omega arith, omega arith)
some_more Five m n h = (omega arith, omega arith)
some_more Eleven m n h = (omega arith, omega arith)

pub odd_stays : (p : Section) (rec more : List Taken) (place : ℕ) → p.from ≤ length rec → section_odd p rec ≡ Some place
    → section_odd p (rec ++ more) ≡ Some place
unfolding section_odd
odd_stays p rec more place whole e =
    let r = p.rate in
    let from = p.from in
    let q = whole_symbols r from rec in
    let x = whole_symbols r from (rec ++ more) - q in
    let later = some_more r (length rec - from) (length (rec ++ more) - from) (omega (arith, length-append rec more)) in
    let ws = decided_words r q (drop from rec) in
    let vs = decided_words r x (drop (symbol_chips r * q) (drop from (rec ++ more))) in
    let words : decided_words r (whole_symbols r from (rec ++ more)) (drop from (rec ++ more)) ≡ ws ++ vs =
    ap (λ (i : ℕ). decided_words r i (drop from (rec ++ more))) later.0
    ∙ decided_words_append r q x (drop from (rec ++ more))
    ∙ ap (λ (l : List ℕ). l ++ vs)
    (ap (decided_words r q) (drop-append-le from rec more whole)
    ∙ words_prefix r q (drop from rec) more (omega (arith, later.1, length-drop from rec))) in
    ap (λ (l : List ℕ). odd_growth r from (growths_of r p.phase l)) words
    ∙ ap (odd_growth r from) (growths_of_append r p.phase ws vs)
    ∙ odd_growth_append r from (growths_of r p.phase ws) (growths_of r (last_heard r p.phase ws) vs)
    ∙ rw e

-- ---- 10 of a front

-- the header's beginning, and the chips that come before its first symbol is whole
pub yet_before : (k : Kind) (rec : List Taken) → length rec ≤ preamble_chips k
    → front_odd_yet k rec ≡ section_odd (preamble_section k rec) rec
unfolding front_odd_yet
yet_before k rec h =
    ap₂ {C = Option ℕ} (λ cs o. or_else (section_odd (preamble_section k rec) cs) (λ place. Some place) o)
    (take_all (preamble_chips k) rec h) (odd_early (header_section k rec) rec (short k h))
    ∙ same (section_odd (preamble_section k rec) rec)
  where
    short : (k : Kind) → length rec ≤ preamble_chips k → length rec < preamble_chips k + symbol_chips (header_rate k)
    short Long l = omega arith
    short Short l = omega arith

    same : (o : Option ℕ) → or_else o (λ place. Some place) None ≡ o
    same None = refl
    same (Some place) = refl

-- and behind the preamble
pub yet_behind : (k : Kind) (rec : List Taken) → section_odd (preamble_section k rec) (take (preamble_chips k) rec) ≡ None
    → front_odd_yet k rec ≡ section_odd (header_section k rec) rec
unfolding front_odd_yet
yet_behind k rec e = rw e

pub yet_early : (k : Kind) (rec : List Taken) → length rec < 11 → front_odd_yet k rec ≡ None
yet_early k rec h = yet_before k rec (some_few k) ∙ odd_early (preamble_section k rec) rec h
  where
    some_few : (k : Kind) → length rec ≤ preamble_chips k
    some_few Long = omega arith
    some_few Short = omega arith

pub no_place : {A : Type 0} {place : ℕ} {o : Option ℕ} → o ≡ None → o ≡ Some place → A
no_place e f = absurd (first.no_place e f)

pub yet_stays : (k : Kind) (rec more : List Taken) (place : ℕ) → front_odd_yet k rec ≡ Some place
    → front_odd_yet k (rec ++ more) ≡ Some place
unfolding front_odd_yet
yet_stays k rec more place e = by (dec_le (preamble_chips k) (length rec)) (dec_le 11 (length rec))
  where
    pc : ℕ
    pc = preamble_chips k

    early : 11 ≤ length rec → length rec < pc → front_odd_yet k (rec ++ more) ≡ Some place
    early h l =
        let found : section_odd (preamble_section k rec) rec ≡ Some place =
        sym (yet_before k rec (omega (arith, l))) ∙ e in
        let rest : pc ≡ length rec + (pc - length rec) = omega (arith, l) in
        let cut : take pc (rec ++ more) ≡ rec ++ take (pc - length rec) more =
        ap (λ (n : ℕ). take n (rec ++ more)) rest ∙ take-append-add rec more (pc - length rec) in
        ap₂ {C = Option ℕ}
        (λ p cs. or_else (section_odd p cs) (λ i. Some i) (section_odd (header_section k (rec ++ more)) (rec ++ more)))
        (preamble_part k rec more h) cut
        ∙ rw (odd_stays (preamble_section k rec) rec (take (pc - length rec) more) place (omega arith) found)

    late : pc ≤ length rec → 11 ≤ length rec → front_odd_yet k (rec ++ more) ≡ Some place
    late h f =
        ap₂ {C = Option ℕ}
        (λ p cs. or_else (section_odd p cs) (λ i. Some i) (section_odd (header_section k (rec ++ more)) (rec ++ more)))
        (preamble_part k rec more f) (take-append-le pc rec more h)
        ∙ ap (λ (p : Section). or_else (section_odd (preamble_section k rec) (take pc rec)) (λ i. Some i) (section_odd p (rec ++ more)))
        (header_part k rec more h)
        ∙ go (section_odd (preamble_section k rec) (take pc rec)) (section_odd (header_section k rec) rec)
        (odd_stays (header_section k rec) rec more) e
      where
        go : (a b : Option ℕ)
            → ((place : ℕ) → preamble_chips k ≤ length rec → b ≡ Some place
            → section_odd (header_section k rec) (rec ++ more) ≡ Some place)
            → or_else a (λ i. Some i) b ≡ Some place
            → or_else a (λ i. Some i) (section_odd (header_section k rec) (rec ++ more)) ≡ Some place
        go None b stays w = stays place h w
        go (Some i) b stays w = w

    by : Dec (preamble_chips k ≤ length rec) → Dec (11 ≤ length rec) → front_odd_yet k (rec ++ more) ≡ Some place
    by (yes a) (yes b) = late a b
    by (no a) (yes b) = early b (omega (arith, a))
    by a (no b) = no_place (yet_early k rec (omega (arith, b))) e
