-- A front that is whole: 10 of what has come is 10 of a front, and what the header has come to is where the payload
-- begins.
--     yet_whole         10
--     preamble_long     how many bits the preamble has
--     Ends, header_ends    the line, the smallest lead and the header's octets
--     told_unusable, told_odd, told_usable    what a front of so many chips tells
--     payload_starts    a payload of which nothing has come
-- Assumes nothing.
use mathlib.Core.Path.{◌≡◌, refl, sym, ap, ap₂, ◌∙◌}
use mathlib.Core.List.{List, ◌++◌, append-nil}
use Rattle.std.specs.Prelude.{Option, None, Some, Err}
use Prim.Native.Nat.{ℕ, ◌-◌, ◌*◌, ◌/◌, ◌≤◌}
use native.Mathlib.Omega.{arith}
use lib.ListN.{length, take, drop, take-append-drop}
use lib.Seq.{take_all, length-take-le, drop-length}
use borrow.Author.Tests.{le-ltb}
use Rattle.rules_rates.specs.declared.Rate.{Rate}
use Rattle.rules_rates.specs.declared.Rate.TheVariants.{One}
use Rattle.rules_rates.specs.Rates.{symbol_chips, symbol_bits, octet_chips}
use Rattle.rules_chips.specs.Chips.{Taken, hard_recording}
use Rattle.rules_chips.proofs.Recorders.{length_hard}
use Rattle.rules_bits.specs.Bits.{octets_of}
use Rattle.rules_bits.specs.Growths.{heard, growths_of, last_heard}
use Rattle.rules_bits.specs.Scrambler.{descramble}
use Rattle.rules_bits.specs.Code.{past_of, past_after}
use Rattle.rules_bits.proofs.Heard.{heard_length}
use Rattle.rules_frame.specs.declared.Kind.{Kind}
use Rattle.rules_frame.specs.declared.Kind.TheVariants.{Long, Short}
use Rattle.rules_frame.specs.Frame.{
  start,
  sync_bits,
  header_rate,
  front_chips,
  preamble_length,
  header_length,
  preamble_chips,
}
use Rattle.rules_calls.specs.declared.Refusal.TheVariants.{Unusable, OddGrowth}
use Rattle.rules_calls.specs.declared.Least.{Least}
use Rattle.rules_calls.specs.Headers.{ours, header_of}
use Rattle.rules_reading.specs.Leads.{lead_at, decided_leads, front_leads, least_from, least_of}
use Rattle.rules_reading.specs.Reading.{
  or_else,
  first_unusable,
  odd_growth,
  decided_words,
  preamble_words,
  header_words,
  reference,
  header_phase,
  payload_phase,
  front_odd,
  front_heard,
  front_bits,
  front_by,
  front_of,
}
use Rattle.rules_reading.proofs.Leads.{front_least}
use Rattle.rules_reading.proofs.Places.{decided_words_length}
use Rattle.rules_receiving.specs.declared.Ear.{Ear}
use Rattle.rules_receiving.specs.Yet.{zeros}
use Rattle.rules_receiving.specs.Sections.{
  Section,
  preamble_heard,
  preamble_section,
  header_section,
  payload_section,
  words_to,
  heard_to,
  octets_to,
  words_yet,
  section_odd,
  octets_done,
  GoesOn,
}
use Rattle.rules_receiving.specs.Receivers.{front_odd_yet}
use Rattle.rules_receiving.proofs.Prefix.{words_prefix}
use Rattle.rules_receiving.proofs.Preambles.{goes_none, none_yet, some_chips}

-- ---- 10

module _ (k : Kind) (rec : List Taken) (at : length rec ≡ front_chips k) where
  preamble_there : preamble_chips k ≤ length rec
  preamble_there = by k at
    where
      by : (k : Kind) → length rec ≡ front_chips k → preamble_chips k ≤ length rec
      by Long e = omega (arith, e)
      by Short e = omega (arith, e)

  first_long : length (take (preamble_chips k) rec) ≡ preamble_chips k
  first_long = length-take-le (preamble_chips k) rec preamble_there

  preamble_words_lem : words_yet (preamble_section k rec) (take (preamble_chips k) rec) ≡ preamble_words k rec
  unfolding preamble_words
  preamble_words_lem =
      let pc = preamble_chips k in
      ap (λ (n : ℕ). decided_words One n (take pc rec)) (by k first_long)
      ∙ sym (words_prefix One (preamble_length k) (take pc rec) (drop pc rec) (omega (arith, first_long)))
      ∙ ap (decided_words One (preamble_length k)) (take-append-drop pc rec)
    where
      by : (k : Kind) → length (take (preamble_chips k) rec) ≡ preamble_chips k
          → (length (take (preamble_chips k) rec) - 0) / 11 ≡ preamble_length k
      by Long e = omega (arith, e)
      by Short e = omega (arith, e)

  header_words_lem : words_yet (header_section k rec) rec ≡ header_words k rec
  unfolding header_words
  header_words_lem =
      ap (λ (n : ℕ). decided_words (header_rate k) n (drop (preamble_chips k) rec)) (by k at)
    where
      by : (k : Kind) → length rec ≡ front_chips k
          → (length rec - preamble_chips k) / symbol_chips (header_rate k) ≡ header_length / symbol_bits (header_rate k)
      by Long e = omega (arith, e)
      by Short e = omega (arith, e)

  pub yet_whole : front_odd_yet k rec ≡ front_odd k rec
  unfolding front_odd_yet front_odd section_odd
  yet_whole =
      ap₂ {C = Option ℕ}
      (λ ws vs. or_else (odd_growth One 0 (growths_of One (reference k rec) ws)) (λ place. Some place)
      (odd_growth (header_rate k) (preamble_chips k) (growths_of (header_rate k) (header_phase k rec) vs)))
      preamble_words_lem header_words_lem

  -- ---- what it tells

  pub told_unusable : (place : ℕ) → first_unusable 0 rec ≡ Some place
      → front_of k rec ≡ Err (Unusable place 0)
  unfolding front_by
  told_unusable place e =
      rw (le-ltb (length rec) (front_chips k) (omega (arith, at)), take_all (front_chips k) rec (omega (arith, at)), e)

  module _ (usable : first_unusable 0 rec ≡ None) where
    pub told_odd : (place : ℕ) → front_odd_yet k rec ≡ Some place
        → front_of k rec ≡ Err (OddGrowth place 0)
    unfolding front_by
    told_odd place e =
        rw (
          le-ltb (length rec) (front_chips k) (omega (arith, at)),
          take_all (front_chips k) rec (omega (arith, at)),
          usable,
          ← yet_whole,
          e,
        )

    pub told_usable : front_of k rec
        ≡ or_else (front_odd k rec) (λ place. Err (OddGrowth place 0))
        (header_of ours k (take 16 (drop (sync_bits k) (front_bits k rec))) (drop (preamble_length k) (front_bits k rec)))
    unfolding front_by
    told_usable =
        rw (
          le-ltb (length rec) (front_chips k) (omega (arith, at)),
          take_all (front_chips k) rec (omega (arith, at)),
          usable,
        )

-- ---- the header's end

pub preamble_long : (k : Kind) (rec : List Taken) → length (preamble_heard k rec) ≡ preamble_length k
unfolding preamble_words
preamble_long k rec =
    heard_length One 0 (reference k rec) (preamble_words k rec)
    ∙ omega (arith, decided_words_length One (preamble_length k) rec)

-- the line and the smallest lead behind a front, and the header's octets
pub record Ends (k : Kind) (rec : List Taken) (e : Ear) (header : List ℕ) : Type 0 where
  pub at_phase : e.phase ≡ payload_phase k rec
  pub behind : take 7 (past_of e.past) ≡ take 7 (past_after (start k) (front_heard k rec))
  pub least : lead_at e.lead e.symbol ≡ least_of (front_leads k rec)
  pub octets : header ≡ octets_of 6 (drop (preamble_length k) (front_bits k rec))

module _
    (k : Kind) (fed : List ℕ) (e : Ear) (hold header : List ℕ) (at : length fed ≡ front_chips k)
    (size : length header ≡ 6) (g : GoesOn k (header_section k (hard_recording fed)) fed e hold header) where
  abbrev all : List Taken
  all = hard_recording fed

  abbrev H : Section
  H = header_section k all

  six : octets_done H all ≡ 6
  six = by k at
    where
      by : (k : Kind) → length fed ≡ front_chips k → (length all - preamble_chips k) / octet_chips (header_rate k) ≡ 6
      by Long f = omega (arith, length_hard fed, f)
      by Short f = omega (arith, length_hard fed, f)

  words_are : words_to H all (octets_done H all) ≡ header_words k all
  unfolding header_words
  words_are =
      ap (λ (m : ℕ). decided_words (header_rate k) (8 * m / symbol_bits (header_rate k)) (drop (preamble_chips k) all)) six

  bits_are : heard_to H all (octets_done H all) ≡ front_heard k all
  unfolding front_heard
  bits_are = ap (λ (ws : List ℕ). preamble_heard k all ++ heard (header_rate k) 0 (header_phase k all) ws) words_are

  phase_is : last_heard (header_rate k) (header_phase k all) (header_words k all) ≡ payload_phase k all
  unfolding payload_phase
  phase_is = refl

  octets_are : header ≡ octets_of 6 (drop (preamble_length k) (front_bits k all))
  unfolding front_bits
  octets_are =
      let none_left : length header - octets_done H all ≡ 0 = omega (arith, size, six) in
      g.octets
      ∙ ap (λ (n : ℕ). octets_to H all k (octets_done H all) ++ zeros n) none_left
      ∙ append-nil (octets_to H all k (octets_done H all))
      ∙ ap₂ {C = List ℕ} (λ m bs. octets_of m (drop (length (preamble_heard k all)) (descramble (start k) bs)))
      six bits_are
      ∙ ap (λ (n : ℕ). octets_of 6 (drop n (descramble (start k) (front_heard k all)))) (preamble_long k all)

  pub header_ends : Ends k all e header
  header_ends = record {
    at_phase = g.at_phase ∙ ap (last_heard (header_rate k) (header_phase k all)) words_are ∙ phase_is;
    behind = g.behind ∙ ap (λ (bs : List ℕ). take 7 (past_after (start k) bs)) bits_are;
    least =
        g.least
        ∙ ap (λ (m : ℕ). least_from (preamble_chips k / 11) (least_of (decided_leads One (preamble_length k) all))
        (decided_leads (header_rate k) (8 * m / symbol_bits (header_rate k)) (drop (preamble_chips k) all))) six
        ∙ sym (front_least k all);
    octets = octets_are;
  }

-- ---- a payload of which nothing has come

pub payload_starts : (k : Kind) (r : Rate) (fed : List ℕ) (e u : Ear) (hold header out : List ℕ)
    → length fed ≡ front_chips k → Ends k (hard_recording fed) e header → u.phase ≡ e.phase → u.past ≡ e.past
    → u.lead ≡ e.lead → u.symbol ≡ e.symbol → u.last ≡ e.phase → out ≡ zeros (length out)
    → GoesOn k (payload_section k r (hard_recording fed)) fed u hold out
unfolding last_heard
payload_starts k r fed e u hold header out at x phase past lead symbol last clear =
    goes_none k (payload_section k r (hard_recording fed)) 0 fed u hold out (omega (arith, at)) (some_chips r)
    (phase ∙ x.at_phase) (ap (λ (i : ℕ). take 7 (past_of i)) past ∙ x.behind)
    (ap₂ {C = Least} lead_at lead symbol ∙ x.least) clear
    (sym (ap (λ (n : ℕ). drop n fed) (sym at) ∙ drop-length fed))
    (λ one. last ∙ x.at_phase
    ∙ sym (ap (last_heard One (payload_phase k (hard_recording fed)))
    (none_yet (payload_section k r (hard_recording fed)) fed at)))
