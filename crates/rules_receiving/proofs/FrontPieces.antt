-- A front with a piece of its chips more.
--     usable_parts, unusable_behind     9 of a recording cut in two
--     number_none                       a place as a number is 0 where there is none
--     header_is                         what a front is that goes on behind the preamble
--     front_unusable, front_odd_lem         a refusal that was certain
--     front_first, first_unusable_lem, first_some, first_whole     the first symbol
--     front_preamble, front_header      the preamble and the header, by what the piece makes of each
-- Assumes nothing.
use mathlib.Core.Path.{◌≡◌, refl, sym, ap, ap₂, subst, ◌∙◌}
use mathlib.Core.List.{List, ◌++◌, map}
use Rattle.std.specs.Prelude.{Option, None, Some}
use Prim.Native.Nat.{ℕ, suc, ◌+◌, ◌≤◌, ◌<◌}
use native.Mathlib.Decide.{dec_le}
use native.Mathlib.Nat.{zero-add}
use native.Mathlib.Omega.{arith}
use lib.ListN.{length, take, drop, length-append, take-append-drop}
use lib.Seq.{take-append-le, length-take-le}
use Rattle.rules_rates.specs.declared.Rate.TheVariants.{One}
use Rattle.rules_chips.specs.Chips.{Taken, taken_counts, hard_recording}
use Rattle.rules_chips.proofs.Recorders.{length_hard, append_hard}
use Rattle.rules_symbols.specs.Choice.{decided, lead_of}
use Rattle.rules_bits.specs.Bits.{octets_of}
use Rattle.rules_bits.specs.Scrambler.{descramble}
use Rattle.rules_bits.specs.Code.{past_of}
use Rattle.rules_frame.specs.declared.Kind.{Kind}
use Rattle.rules_frame.specs.declared.Kind.TheVariants.{Long, Short}
use Rattle.rules_frame.specs.Frame.{start, front_chips, preamble_chips}
use Rattle.rules_reading.specs.Reading.{or_else, first_unusable}
use Rattle.rules_receiving.specs.declared.Ear.{Ear}
use Rattle.rules_receiving.specs.declared.Progress.{Progress}
use Rattle.rules_receiving.specs.Yet.{zeros}
use Rattle.rules_receiving.specs.Sections.{
  Section,
  preamble_heard,
  preamble_section,
  header_section,
  section_unusable,
  section_odd,
  GoesOn,
  SectionIs,
}
use Rattle.rules_receiving.specs.Receivers.{
  place_number,
  preamble_count,
  front_odd_yet,
  FrontGoes,
  in_first,
  in_preamble_lem,
  in_header_lem,
  FrontTo,
}
use Rattle.rules_receiving.proofs.Prefix.{unusable_append}
use Rattle.rules_receiving.proofs.Fronts.{
  no_place,
  preamble_part,
  preamble_bits_lem,
  header_part,
  yet_before,
  yet_behind,
  yet_early,
  yet_stays,
}
use Rattle.rules_receiving.proofs.Preambles.{first_even, first_goes, preamble_ends}

-- ---- places

pub neither : (a b : Option ℕ) → or_else a (λ place. Some place) b ≡ None → (a ≡ None) × (b ≡ None)
neither None b e = (refl, e)
neither (Some place) b e = no_place e refl

yet_parts : (k : Kind) (rec : List Taken) → front_odd_yet k rec ≡ None
    → (section_odd (preamble_section k rec) (take (preamble_chips k) rec) ≡ None) × (section_odd (header_section k rec) rec ≡ None)
unfolding front_odd_yet
yet_parts k rec e =
    neither (section_odd (preamble_section k rec) (take (preamble_chips k) rec)) (section_odd (header_section k rec) rec) e

pub number_none : (o : Option ℕ) → place_number o ≡ 0 → o ≡ None
number_none None e = refl
number_none (Some place) e = absurd (omega (arith, e))

-- a recording cut in two
pub usable_parts : (n : ℕ) (rec : List Taken) → n ≤ length rec → first_unusable 0 rec ≡ None
    → (first_unusable 0 (take n rec) ≡ None) × (first_unusable n (drop n rec) ≡ None)
usable_parts n rec h e =
    let at : 0 + length (take n rec) ≡ n = zero-add _ ∙ length-take-le n rec h in
    let both = neither (first_unusable 0 (take n rec)) (first_unusable (0 + length (take n rec)) (drop n rec))
    (sym (unusable_append 0 (take n rec) (drop n rec)) ∙ ap (first_unusable 0) (take-append-drop n rec) ∙ e) in
    (both.0, ap (λ (i : ℕ). first_unusable i (drop n rec)) (sym at) ∙ both.1)

-- chips behind n usable ones
pub unusable_behind : (n : ℕ) (rec : List Taken) → n ≤ length rec → first_unusable 0 (take n rec) ≡ None
    → first_unusable 0 rec ≡ first_unusable n (drop n rec)
unusable_behind n rec h e =
    let at : 0 + length (take n rec) ≡ n = zero-add _ ∙ length-take-le n rec h in
    ap (first_unusable 0) (sym (take-append-drop n rec))
    ∙ unusable_append 0 (take n rec) (drop n rec)
    ∙ rw e (ap (λ (i : ℕ). first_unusable i (drop n rec)) at)

-- ---- what a front is that goes on, by its chips

behind_first : (k : Kind) → 11 ≤ preamble_chips k
behind_first Long = omega arith
behind_first Short = omega arith

module _ (k : Kind) (fed : List ℕ) (e : Ear) (hold preamble header : List ℕ) where
  first_is : length fed < 11 → FrontGoes k fed e hold preamble header
      → (take (length fed) hold ≡ fed) × (preamble ≡ zeros 18) × (header ≡ zeros 6)
  first_is h (in_first l held a b) = (held, a, b)
  first_is h (in_preamble_lem l m b g) = absurd (omega (arith, h, l))
  first_is h (in_header_lem l o g) = absurd (omega (arith, h, l, behind_first k))

  preamble_is : 11 ≤ length fed → length fed < preamble_chips k → FrontGoes k fed e hold preamble header
      → (header ≡ zeros 6) × GoesOn k (preamble_section k (hard_recording fed)) fed e hold preamble
  preamble_is h n (in_first l held a b) = absurd (omega (arith, h, l))
  preamble_is h n (in_preamble_lem l m b g) = (b, g)
  preamble_is h n (in_header_lem l o g) = absurd (omega (arith, n, l))

  pub header_is : preamble_chips k ≤ length fed → FrontGoes k fed e hold preamble header
      → (take (preamble_count k) preamble
      ≡ octets_of (preamble_count k) (descramble (start k) (preamble_heard k (hard_recording fed))))
      × GoesOn k (header_section k (hard_recording fed)) fed e hold header
  header_is h (in_first l held a b) = absurd (omega (arith, h, l, behind_first k))
  header_is h (in_preamble_lem l m b g) = absurd (omega (arith, h, m))
  header_is h (in_header_lem l o g) = (o, g)

-- the chips of the first symbol are held
pub front_first : (k : Kind) (fed : List ℕ) (p : Progress) (hold preamble header : List ℕ)
    → FrontTo k fed p hold preamble header → first_unusable 0 (hard_recording fed) ≡ None → length fed < 11
    → (take (length fed) hold ≡ fed) × (preamble ≡ zeros 18) × (header ≡ zeros 6)
front_first k fed p hold preamble header x usable h =
    first_is k fed p.ear hold preamble header h
    (x.goes usable (yet_early k (hard_recording fed) (omega (arith, h, length_hard fed))))

-- ---- a piece

module _
    (k : Kind) (fed piece : List ℕ) (p q : Progress) (hold preamble header : List ℕ)
    (x : FrontTo k fed p hold preamble header) (within : length fed + length piece ≤ front_chips k)
    (count : q.count ≡ p.count + length piece) where
  abbrev rec : List Taken
  rec = hard_recording fed

  abbrev more : List Taken
  more = hard_recording piece

  abbrev all : List Taken
  all = hard_recording (fed ++ piece)

  split : all ≡ rec ++ more
  split = append_hard fed piece

  long : length (fed ++ piece) ≡ length fed + length piece
  long = length-append fed piece

  inside : length (fed ++ piece) ≤ front_chips k
  inside = omega (arith, long, within)

  counted : q.count ≡ length (fed ++ piece)
  counted = omega (arith, count, x.count_is, long)

  -- ---- a refusal that was certain: nothing else is kept

  module _ (hold' preamble' header' : List ℕ) where
    pub front_unusable : (place : ℕ) → first_unusable 0 rec ≡ Some place → q.bad ≡ p.bad
        → FrontTo k (fed ++ piece) q hold' preamble' header'
    front_unusable place e bad =
        let found : first_unusable 0 all ≡ Some place =
        ap (first_unusable 0) split ∙ unusable_append 0 rec more ∙ rw e in
        record {
          within = inside;
          count_is = counted;
          bad_is = bad ∙ x.bad_is ∙ ap place_number (e ∙ sym found);
          odd_is = λ n. no_place n found;
          goes = λ n o. no_place n found;
        }

    pub front_odd_lem : (place : ℕ) → first_unusable 0 rec ≡ None → front_odd_yet k rec ≡ Some place
        → q.bad ≡ place_number (first_unusable p.count more) → q.odd ≡ p.odd
        → FrontTo k (fed ++ piece) q hold' preamble' header'
    front_odd_lem place n e bad odd =
        let at : p.count ≡ 0 + length rec = omega (arith, x.count_is, length_hard fed) in
        let found : first_unusable 0 all ≡ first_unusable p.count more =
        ap (first_unusable 0) split ∙ unusable_append 0 rec more
        ∙ rw n (ap (λ (i : ℕ). first_unusable i more) (sym at)) in
        let grown : front_odd_yet k all ≡ Some place = ap (front_odd_yet k) split ∙ yet_stays k rec more place e in
        record {
          within = inside;
          count_is = counted;
          bad_is = bad ∙ ap place_number (sym found);
          odd_is = λ m. odd ∙ x.odd_is n ∙ ap place_number (e ∙ sym grown);
          goes = λ m o. no_place o grown;
        }

  -- ---- nothing was found

  module _ (usable : first_unusable 0 rec ≡ None) where
    module _ (hold' : List ℕ) (few : length fed < 11) where
      pub first_unusable_lem : (place : ℕ) → first_unusable 0 all ≡ Some place → q.bad ≡ suc place
          → FrontTo k (fed ++ piece) q hold' preamble header
      first_unusable_lem place e bad = record {
        within = inside;
        count_is = counted;
        bad_is = bad ∙ ap place_number (sym e);
        odd_is = λ n. no_place n e;
        goes = λ n o. no_place n e;
      }

      module _
          (clear : first_unusable 0 all ≡ None) (bad : q.bad ≡ 0) (odd : q.odd ≡ 0)
          (held : take (length (fed ++ piece)) hold' ≡ fed ++ piece) where
        pub first_some : length (fed ++ piece) < 11 → FrontTo k (fed ++ piece) q hold' preamble header
        first_some h =
            let start = front_first k fed p hold preamble header x usable few in
            let even : front_odd_yet k all ≡ None = yet_early k all (omega (arith, h, length_hard (fed ++ piece))) in
            record {
              within = inside;
              count_is = counted;
              bad_is = bad ∙ ap place_number (sym clear);
              odd_is = λ n. odd ∙ ap place_number (sym even);
              goes = λ n o. in_first h held start.1 start.2;
            }

        pub first_whole : length (fed ++ piece) ≡ 11 → q.ear.phase ≡ decided One (map taken_counts (take 11 all))
            → q.ear.last ≡ decided One (map taken_counts (take 11 all))
            → take 7 (past_of q.ear.past) ≡ take 7 (start k)
            → q.ear.lead ≡ lead_of One (map taken_counts (take 11 all)) → q.ear.symbol ≡ 0
            → FrontTo k (fed ++ piece) q hold' preamble header
        first_whole h phase last past lead symbol =
            let start = front_first k fed p hold preamble header x usable few in
            let even : front_odd_yet k all ≡ None = first_even k (fed ++ piece) h in
            record {
              within = inside;
              count_is = counted;
              bad_is = bad ∙ ap place_number (sym clear);
              odd_is = λ n. odd ∙ ap place_number (sym even);
              goes = λ n o. first_goes k (fed ++ piece) h q.ear hold' preamble header
                  (ap (λ (i : ℕ). take i hold') (sym h) ∙ held) start.1 start.2
                  phase last past lead symbol;
            }

    -- the preamble and the header, by what the piece makes of each
    module _
        (even : front_odd_yet k rec ≡ None) (bad odd : Option ℕ) (hold' out : List ℕ)
        (kept-bad : q.bad ≡ place_number bad) (kept-odd : q.odd ≡ place_number odd) where
      pub front_preamble : 11 ≤ length fed → length fed < preamble_chips k
          → length fed + length piece ≤ preamble_chips k
          → (section_unusable (preamble_section k rec) rec ≡ None → section_odd (preamble_section k rec) rec ≡ None
          → GoesOn k (preamble_section k rec) fed p.ear hold preamble
          → SectionIs k (preamble_section k rec) (fed ++ piece) bad odd q.ear hold' out)
          → FrontTo k (fed ++ piece) q hold' out header
      front_preamble h n to step =
          let here = preamble_is k fed p.ear hold preamble header h n (x.goes usable even) in
          let same : preamble_section k all ≡ preamble_section k rec =
          ap (preamble_section k) split ∙ preamble_part k rec more (omega (arith, h, length_hard fed)) in
          let before : front_odd_yet k rec ≡ section_odd (preamble_section k rec) rec =
          yet_before k rec (omega (arith, n, length_hard fed)) in
          let behind : front_odd_yet k all ≡ section_odd (preamble_section k all) all =
          yet_before k all (omega (arith, to, long, length_hard (fed ++ piece))) in
          let is : SectionIs k (preamble_section k all) (fed ++ piece) bad odd q.ear hold' out =
          subst (λ (part : Section). SectionIs k part (fed ++ piece) bad odd q.ear hold' out) (sym same)
          (step usable (sym before ∙ even) here.1) in
          record {
            within = inside;
            count_is = counted;
            bad_is = kept-bad ∙ ap place_number is.bad_is;
            odd_is = λ c. kept-odd ∙ ap place_number (is.odd_is (is.bad_is ∙ c) ∙ sym behind);
            goes = λ c o.
                let good : bad ≡ None = is.bad_is ∙ c in
                by (dec_le (preamble_chips k) (length (fed ++ piece))) here.0
                (is.goes good (is.odd_is good ∙ sym behind ∙ o));
          }
        where
          by : Dec (preamble_chips k ≤ length (fed ++ piece)) → header ≡ zeros 6
              → GoesOn k (preamble_section k all) (fed ++ piece) q.ear hold' out
              → FrontGoes k (fed ++ piece) q.ear hold' out header
          by (yes a) z g =
              preamble_ends k (fed ++ piece) q.ear hold' out header (omega (arith, a, to, long)) g z
          by (no a) z g = in_preamble_lem (omega (arith, h, long)) (omega (arith, a)) z g

      pub front_header : preamble_chips k ≤ length fed
          → (section_unusable (header_section k rec) rec ≡ None → section_odd (header_section k rec) rec ≡ None
          → GoesOn k (header_section k rec) fed p.ear hold header
          → SectionIs k (header_section k rec) (fed ++ piece) bad odd q.ear hold' out)
          → FrontTo k (fed ++ piece) q hold' preamble out
      front_header h step =
          let pc = preamble_chips k in
          let there : pc ≤ length rec = omega (arith, h, length_hard fed) in
          let here = header_is k fed p.ear hold preamble header h (x.goes usable even) in
          let same : header_section k all ≡ header_section k rec = ap (header_section k) split ∙ header_part k rec more there in
          let cut : take pc all ≡ take pc rec = ap (take pc) split ∙ take-append-le pc rec more there in
          let two = usable_parts pc rec there usable in
          let found : first_unusable 0 all ≡ first_unusable pc (drop pc all) =
          unusable_behind pc all (omega (arith, h, long, length_hard (fed ++ piece)))
          (ap (first_unusable 0) cut ∙ two.0) in
          let before = yet_parts k rec even in
          let behind : front_odd_yet k all ≡ section_odd (header_section k all) all =
          yet_behind k all
          (ap₂ {C = Option ℕ} section_odd
          (ap (preamble_section k) split
          ∙ preamble_part k rec more (omega (arith, there, behind_first k))) cut ∙ before.0) in
          let is : SectionIs k (header_section k all) (fed ++ piece) bad odd q.ear hold' out =
          subst (λ (part : Section). SectionIs k part (fed ++ piece) bad odd q.ear hold' out) (sym same)
          (step two.1 before.1 here.1) in
          record {
            within = inside;
            count_is = counted;
            bad_is = kept-bad ∙ ap place_number (is.bad_is ∙ sym found);
            odd_is = λ c. kept-odd ∙ ap place_number (is.odd_is (is.bad_is ∙ sym found ∙ c) ∙ sym behind);
            goes = λ c o.
                let good : bad ≡ None = is.bad_is ∙ sym found ∙ c in
                in_header_lem (omega (arith, h, long))
                (here.0
                ∙ ap (λ (bs : List ℕ). octets_of (preamble_count k) (descramble (start k) bs))
                (sym (ap (preamble_heard k) split ∙ preamble_bits_lem k rec more there)))
                (is.goes good (is.odd_is good ∙ sym behind ∙ o));
          }
