-- The preamble as its chips come: from the first symbol, which is the reference, to its end, where the header begins.
--     goes_none, none_yet       a part of which no octet is whole, and one of which no symbol is
--     some_chips                an octet has chips
--     preamble_ends             the preamble's end is the header's beginning
--     first_even, first_goes    the first symbol is whole
-- Assumes nothing.
use mathlib.Core.Path.{◌≡◌, refl, sym, ap, ap₂, ◌∙◌}
use mathlib.Core.List.{List, [], ◌∷◌, ◌++◌, append-nil, map}
use Rattle.std.specs.Prelude.{Option, None}
use Prim.Native.Nat.{ℕ, ◌+◌, ◌-◌, ◌*◌, ◌/◌, ◌%◌, ◌≤◌, ◌<◌}
use native.Mathlib.Omega.{arith}
use lib.ListN.{length, get_or, take, drop}
use lib.Seq.{take_at, drop-length}
use Rattle.rules_rates.specs.declared.Rate.{Rate}
use Rattle.rules_rates.specs.declared.Rate.TheVariants.{One, Two, Five, Eleven}
use Rattle.rules_rates.specs.Rates.{symbol_chips, symbol_bits, octet_chips}
use Rattle.rules_chips.specs.Chips.{Taken, taken_counts, hard_recording}
use Rattle.rules_chips.proofs.Recorders.{length_hard}
use Rattle.rules_symbols.specs.Choice.{decided, lead_of}
use Rattle.rules_bits.specs.Bits.{octets_of}
use Rattle.rules_bits.specs.Growths.{heard, growths_of, last_heard}
use Rattle.rules_bits.specs.Scrambler.{descramble}
use Rattle.rules_bits.specs.Code.{past_of, past_after}
use Rattle.rules_bits.proofs.Bits.{octets_length}
use Rattle.rules_frame.specs.declared.Kind.{Kind}
use Rattle.rules_frame.specs.declared.Kind.TheVariants.{Long, Short}
use Rattle.rules_frame.specs.Frame.{start, header_rate, preamble_length, preamble_chips}
use Rattle.rules_calls.specs.declared.Least.{Least}
use Rattle.rules_reading.specs.Leads.{lead_at, decided_leads, least_from, least_of}
use Rattle.rules_reading.specs.Reading.{first_odd, decided_words, preamble_words, reference, header_phase}
use Rattle.rules_receiving.specs.declared.Ear.{Ear}
use Rattle.rules_receiving.specs.Yet.{zeros}
use Rattle.rules_receiving.specs.Sections.{
  Section,
  preamble_heard,
  preamble_section,
  header_section,
  words_to,
  heard_to,
  least_to,
  octets_to,
  words_yet,
  section_odd,
  octets_done,
  octet_end,
  GoesOn,
}
use Rattle.rules_receiving.specs.Receivers.{preamble_count, front_odd_yet, FrontGoes, in_header_lem, in_preamble_lem}
use Rattle.rules_receiving.proofs.Fronts.{yet_before}

-- ---- a part of which no octet is whole

module _
    (k : Kind) (p : Section) (h : ℕ) (fed : List ℕ) (e : Ear) (hold out : List ℕ)
    (size : length fed ≡ p.from + h) (part : h < octet_chips p.rate) where
  abbrev rec : List Taken
  rec = hard_recording fed

  done : octets_done p rec ≡ 0
  done = by p.rate part
    where
      by : (r : Rate) → h < octet_chips r → (length rec - p.from) / octet_chips r ≡ 0
      by One l = omega (arith, length_hard fed, size)
      by Two l = omega (arith, length_hard fed, size)
      by Five l = omega (arith, length_hard fed, size)
      by Eleven l = omega (arith, length_hard fed, size)

  no_symbols : 8 * octets_done p rec / symbol_bits p.rate ≡ 0
  no_symbols = ap (λ (m : ℕ). 8 * m / symbol_bits p.rate) done ∙ by p.rate
    where
      by : (r : Rate) → 8 * 0 / symbol_bits r ≡ 0
      by One = refl
      by Two = refl
      by Five = refl
      by Eleven = refl

  no_words : words_to p rec (octets_done p rec) ≡ []
  unfolding decided_words
  no_words = ap (λ (n : ℕ). decided_words p.rate n (drop p.from rec)) no_symbols

  no_bits : heard_to p rec (octets_done p rec) ≡ p.before
  unfolding heard
  no_bits = ap (λ (ws : List ℕ). p.before ++ heard p.rate 0 p.phase ws) no_words ∙ append-nil p.before

  no_leads : least_to p rec (octets_done p rec) ≡ p.least
  unfolding decided_leads least_from
  no_leads = ap (λ (n : ℕ). least_from p.first p.least (decided_leads p.rate n (drop p.from rec))) no_symbols

  no_octets : octets_to p rec k (octets_done p rec) ++ zeros (length out - octets_done p rec) ≡ zeros (length out)
  unfolding octets_of
  no_octets =
      let all : length out - 0 ≡ length out = omega arith in
      ap (λ (m : ℕ). octets_to p rec k m ++ zeros (length out - m)) done ∙ ap zeros all

  at_start : octet_end p rec ≡ p.from
  at_start = ap (λ (m : ℕ). p.from + octet_chips p.rate * m) done ∙ by p.rate
    where
      by : (r : Rate) → p.from + octet_chips r * 0 ≡ p.from
      by One = omega arith
      by Two = omega arith
      by Five = omega arith
      by Eleven = omega arith

  pub goes_none : e.phase ≡ p.phase → take 7 (past_of e.past) ≡ take 7 (past_after (start k) p.before)
      → lead_at e.lead e.symbol ≡ p.least → out ≡ zeros (length out) → take h hold ≡ drop p.from fed
      → (p.rate ≡ One → e.last ≡ last_heard One p.phase (words_yet p rec)) → GoesOn k p fed e hold out
  unfolding last_heard
  goes_none phase past least octets held last = record {
    at_phase = phase ∙ sym (ap (last_heard p.rate p.phase) no_words);
    behind = past ∙ sym (ap (λ (bs : List ℕ). take 7 (past_after (start k) bs)) no_bits);
    least = least ∙ sym no_leads;
    octets = octets ∙ sym no_octets;
    held =
        let rest : length fed - p.from ≡ h = omega (arith, size) in
        ap (λ (i : ℕ). take (length fed - i) hold) at_start ∙ ap (λ (i : ℕ). take i hold) rest ∙ held
        ∙ sym (ap (λ (i : ℕ). drop i fed) at_start);
    last_is = last;
  }

-- no symbol is whole where none of its chips has come
pub none_yet : (p : Section) (fed : List ℕ) → length fed ≡ p.from → words_yet p (hard_recording fed) ≡ []
unfolding decided_words
none_yet p fed e =
    ap (λ (n : ℕ). decided_words p.rate n (drop p.from (hard_recording fed))) (by p.rate)
  where
    by : (r : Rate) → (length (hard_recording fed) - p.from) / symbol_chips r ≡ 0
    by One = omega (arith, length_hard fed, e)
    by Two = omega (arith, length_hard fed, e)
    by Five = omega (arith, length_hard fed, e)
    by Eleven = omega (arith, length_hard fed, e)

pub some_chips : (r : Rate) → 0 < octet_chips r
some_chips One = omega arith
some_chips Two = omega arith
some_chips Five = omega arith
some_chips Eleven = omega arith

-- ---- the preamble's end

module _
    (k : Kind) (fed : List ℕ) (e : Ear) (hold preamble header : List ℕ) (at : length fed ≡ preamble_chips k)
    (g : GoesOn k (preamble_section k (hard_recording fed)) fed e hold preamble) where
  abbrev all : List Taken
  all = hard_recording fed

  abbrev P : Section
  P = preamble_section k all

  whole_octets_lem : octets_done P all ≡ preamble_count k
  whole_octets_lem = by k at
    where
      by : (k : Kind) → length fed ≡ preamble_chips k → (length all - 0) / 88 ≡ preamble_count k
      by Long f = omega (arith, length_hard fed, f)
      by Short f = omega (arith, length_hard fed, f)

  whole_symbols_lem : 8 * octets_done P all / 1 ≡ preamble_length k
  whole_symbols_lem = ap (λ (m : ℕ). 8 * m / 1) whole_octets_lem ∙ by k
    where
      by : (k : Kind) → 8 * preamble_count k / 1 ≡ preamble_length k
      by Long = refl
      by Short = refl

  words_are : words_to P all (octets_done P all) ≡ preamble_words k all
  unfolding preamble_words
  words_are = ap (λ (n : ℕ). decided_words One n all) whole_symbols_lem

  yet_are : words_yet P all ≡ preamble_words k all
  unfolding preamble_words
  yet_are = ap (λ (n : ℕ). decided_words One n all) (by k at)
    where
      by : (k : Kind) → length fed ≡ preamble_chips k → (length all - 0) / 11 ≡ preamble_length k
      by Long f = omega (arith, length_hard fed, f)
      by Short f = omega (arith, length_hard fed, f)

  first_lead : get_or (decided_leads One 1 all) 0 0 ≡ get_or (decided_leads One (preamble_length k) all) 0 0
  unfolding decided_leads
  first_lead = by k
    where
      by : (k : Kind) → get_or (decided_leads One 1 all) 0 0 ≡ get_or (decided_leads One (preamble_length k) all) 0 0
      by Long = refl
      by Short = refl

  least_is : lead_at e.lead e.symbol ≡ least_of (decided_leads One (preamble_length k) all)
  unfolding least_of
  least_is =
      g.least
      ∙ ap₂ {C = Least} (λ x n. least_from 0 (lead_at x 0) (decided_leads One n all)) first_lead whole_symbols_lem

  phase_is : last_heard One (reference k all) (preamble_words k all) ≡ header_phase k all
  unfolding header_phase
  phase_is = refl

  octets_are : take (preamble_count k) preamble
      ≡ octets_of (preamble_count k) (descramble (start k) (preamble_heard k all))
  octets_are =
      ap (take (preamble_count k)) g.octets
      ∙ ap (λ (m : ℕ). take (preamble_count k) (octets_to P all k m ++ zeros (length preamble - m))) whole_octets_lem
      ∙ take_at (octets_to P all k (preamble_count k)) _ (preamble_count k) (octets_length (preamble_count k) _)
      ∙ ap (λ (ws : List ℕ). octets_of (preamble_count k) (descramble (start k) (heard One 0 (reference k all) ws)))
      (ap (λ (m : ℕ). words_to P all m) (sym whole_octets_lem) ∙ words_are)

  pub preamble_ends : header ≡ zeros 6 → FrontGoes k fed e hold preamble header
  unfolding last_heard
  preamble_ends z =
      in_header_lem (omega (arith, at)) octets_are
      (goes_none k (header_section k all) 0 fed e hold header (omega (arith, at)) (some_chips (header_rate k))
      (g.at_phase ∙ ap (last_heard One (reference k all)) words_are ∙ phase_is)
      (g.behind ∙ ap (λ (ws : List ℕ). take 7 (past_after (start k) (heard One 0 (reference k all) ws))) words_are)
      least_is
      (z ∙ sym (ap (λ (l : List ℕ). zeros (length l)) z))
      (sym (ap (λ (n : ℕ). drop n fed) (sym at) ∙ drop-length fed))
      (λ one. g.last_is refl ∙ ap (last_heard One (reference k all)) yet_are ∙ phase_is
      ∙ sym (ap (last_heard One (header_phase k all)) (none_yet (header_section k all) fed at))))

-- ---- the first symbol

module _ (k : Kind) (fed : List ℕ) (size : length fed ≡ 11) where
  abbrev chips : List Taken
  chips = hard_recording fed

  abbrev word : ℕ
  word = decided One (map taken_counts (take 11 chips))

  abbrev Q : Section
  Q = preamble_section k chips

  reference_is : reference k chips ≡ word
  unfolding reference preamble_words decided_words
  reference_is = by k
    where
      by : (k : Kind) → get_or (decided_words One (preamble_length k) chips) 0 0 ≡ word
      by Long = refl
      by Short = refl

  one_word : words_yet Q chips ≡ word ∷ []
  unfolding decided_words
  one_word =
      let one : (length chips - 0) / 11 ≡ 1 = omega (arith, length_hard fed, size) in
      ap (λ (n : ℕ). decided_words One n chips) one

  -- the first symbol is grown by 0 from itself
  pub first_even : front_odd_yet k chips ≡ None
  unfolding section_odd growths_of first_odd
  first_even =
      let none_grown : (word + 4 - word) % 4 ≡ 0 = omega arith in
      yet_before k chips (some_few k)
      ∙ ap₂ {C = Option ℕ} (λ p ws. first_odd 0 (growths_of One p ws)) reference_is one_word
      ∙ rw none_grown
    where
      some_few : (k : Kind) → length chips ≤ preamble_chips k
      some_few Long = omega (arith, length_hard fed, size)
      some_few Short = omega (arith, length_hard fed, size)

  pub first_goes : (e : Ear) (hold preamble header : List ℕ) → take 11 hold ≡ fed → preamble ≡ zeros 18
      → header ≡ zeros 6 → e.phase ≡ word → e.last ≡ word → take 7 (past_of e.past) ≡ take 7 (start k)
      → e.lead ≡ lead_of One (map taken_counts (take 11 chips)) → e.symbol ≡ 0
      → FrontGoes k fed e hold preamble header
  unfolding past_after last_heard decided_leads
  first_goes e hold preamble header held a b phase last past lead symbol =
      in_preamble_lem (omega (arith, size)) (long k) b
      (goes_none k Q 11 fed e hold preamble (omega (arith, size)) (omega arith)
      (phase ∙ sym reference_is) past (ap₂ {C = Least} lead_at lead symbol)
      (a ∙ sym (ap (λ (l : List ℕ). zeros (length l)) a)) held
      (λ one. last ∙ sym (ap (last_heard One (reference k chips)) one_word)))
    where
      long : (k : Kind) → length fed < preamble_chips k
      long Long = omega (arith, size)
      long Short = omega (arith, size)
