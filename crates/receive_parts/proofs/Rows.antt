-- A row heard by itself: places counted from its first chip, and from the recording's.
--     unusable_shift, odd_shift      the first unusable chip, and the first symbol grown by 1 or 3
--     unusable_moved, odd_moved      what is found in a row of a frame is a place of the frame
--     row_none                       a row with no octet above 4 has no unusable chip
--     row_unusable, row_usable       the search through a whole row; where it finds nothing all chips are usable
--     chips_few, symbols_few         whole octets of a frame have few chips and symbols
--     found_place                    a place that is found is not None
--     usable_heard                   whole octets heard
-- Assumes nothing.
use mathlib.Core.Path.{◌≡◌, refl, sym, ap, ◌∙◌}
use mathlib.Core.Bool.{Bool, true, false, cond}
use mathlib.Core.List.{List, [], ◌∷◌}
use Rattle.std.specs.Prelude.{Option, None, Some}
use Prim.Native.Nat.{ℕ, suc, ◌+◌, ◌*◌, ◌/◌, ◌%◌, ◌^◌, ◌≤◌, ◌<◌}
use native.Mathlib.Nat.{add-zero, add-suc}
use native.Mathlib.Omega.{arith}
use lib.Dec.{eqb}
use borrow.Author.Tests.{le-leb}
use lib.ListN.{length, take}
use lib.Seq.{take_all}
use Rattle.rules_rates.specs.declared.Rate.{Rate}
use Rattle.rules_rates.specs.declared.Rate.TheVariants.{One, Two, Five, Eleven}
use Rattle.rules_rates.specs.Rates.{symbol_chips, symbol_bits, octet_symbols, octet_chips}
use Rattle.rules_rates.proofs.Octets.{part_symbols, part_chips}
use Rattle.rules_chips.specs.Chips.{Taken, is_unusable, hard_recording}
use Rattle.rules_chips.proofs.Recorders.{unusable_hard, length_hard}
use Rattle.rules_bits.specs.Growths.{growths_of}
use Rattle.rules_bits.proofs.Heard.{growths_of_length}
use Rattle.rules_reading.specs.Reading.{first_unusable, first_odd, odd_growth, decided_words}
use Rattle.rules_reading.specs.Leads.{lead_at}
use Rattle.rules_reading.proofs.First.{no_place, unusable_first, odd_first}
use Rattle.rules_reading.proofs.Places.{decided_words_length}
use Rattle.rules_receiving.specs.declared.Ear.{Ear}
use Rattle.choose_recorded.specs.Recorded.{AllUsable}
use Rattle.choose_recorded.proofs.Search.{none_usable}
use Rattle.hear_parts.specs.declared.Part.{Part}
use Rattle.hear_parts.specs.Hearing.{PartHeard}
use Rattle.hear_parts.proofs.Parts.{few_symbols}
use Rattle.receive_parts.specs.Pieces.{PlaceBelow, moved, MovedBelow, NoneAbove, row_words, WholeHeard}

-- ---- places

pub unusable_shift : (d at : ℕ) (cs : List Taken) → first_unusable (d + at) cs ≡ moved d (first_unusable at cs)
unfolding first_unusable
unusable_shift d at [] = refl
unusable_shift d at (c ∷ cs) =
    by (is_unusable c) (ap (λ (i : ℕ). first_unusable i cs) (sym (add-suc d at)) ∙ unusable_shift d (suc at) cs)
  where
    by : (b : Bool) → first_unusable (suc (d + at)) cs ≡ moved d (first_unusable (suc at) cs)
        → cond b (Some (d + at)) (first_unusable (suc (d + at)) cs)
        ≡ moved d (cond b (Some at) (first_unusable (suc at) cs))
    by true e = refl
    by false e = e

first_shift : (d at : ℕ) (gs : List ℕ) → first_odd (d + at) gs ≡ moved d (first_odd at gs)
unfolding first_odd
first_shift d at [] = refl
first_shift d at (g ∷ gs) =
    by (eqb (g % 2) 1) (ap (λ (i : ℕ). first_odd i gs) next ∙ first_shift d (at + 11) gs)
  where
    next : d + at + 11 ≡ d + (at + 11)
    next = omega arith

    by : (b : Bool) → first_odd (d + at + 11) gs ≡ moved d (first_odd (at + 11) gs)
        → cond b (Some (d + at)) (first_odd (d + at + 11) gs) ≡ moved d (cond b (Some at) (first_odd (at + 11) gs))
    by true e = refl
    by false e = e

pub odd_shift : (r : Rate) (d at : ℕ) (gs : List ℕ) → odd_growth r (d + at) gs ≡ moved d (odd_growth r at gs)
odd_shift One d at gs = first_shift d at gs
odd_shift Two d at gs = refl
odd_shift Five d at gs = refl
odd_shift Eleven d at gs = refl

-- what is found in a row of a frame is a place of the frame
pub unusable_moved : (at : ℕ) (f : Option ℕ) (cs : List Taken) → f ≡ first_unusable 0 cs
    → at + length cs ≤ 1000000 → MovedBelow at f
unusable_moved at None cs e h = tt
unusable_moved at (Some p) cs e h =
    let f = unusable_first 0 cs p (sym e) in omega (arith, f.place_is, f.inside)

pub odd_moved : (r : Rate) (at p m : ℕ) (f : Option ℕ) (cs : List Taken)
    → f ≡ odd_growth r 0 (growths_of r p (decided_words r m cs))
    → at + symbol_chips r * m ≤ 1000000 → MovedBelow at f
odd_moved r at p m None cs e h = tt
odd_moved One at p m (Some q) cs e h =
    let gs = growths_of One p (decided_words One m cs) in
    let long : length gs ≡ m = growths_of_length One p (decided_words One m cs) ∙ decided_words_length One m cs in
    let f = odd_first 0 gs q (sym e) in omega (arith, f.place_is, f.inside)
odd_moved Two at p m (Some q) cs e h = absurd (no_place {p = q} e refl)
odd_moved Five at p m (Some q) cs e h = absurd (no_place {p = q} e refl)
odd_moved Eleven at p m (Some q) cs e h = absurd (no_place {p = q} e refl)

-- ---- a row searched

moved_none : (at : ℕ) (o : Option ℕ) → moved at o ≡ None → o ≡ None
moved_none at None e = refl
moved_none at (Some p) e = absurd (no_place {p = at + p} e refl)

pub row_unusable : (at : ℕ) (row : List ℕ) (f g : Option ℕ) (n : ℕ) → n ≡ length row
    → f ≡ first_unusable 0 (take n (hard_recording row)) → g ≡ moved at f
    → g ≡ first_unusable at (hard_recording row)
row_unusable at row f g n s e i =
    let all : take n (hard_recording row) ≡ hard_recording row =
    take_all n (hard_recording row) (omega (arith, length_hard row)) in
    i ∙ ap (moved at) (e ∙ ap (first_unusable 0) all) ∙ sym (unusable_shift at 0 (hard_recording row))
    ∙ ap (λ (i : ℕ). first_unusable i (hard_recording row)) (add-zero at)

-- a row with no octet above 4 has no unusable chip
pub row_none : (at most : ℕ) (row : List ℕ) → NoneAbove most row (length row) → most < 5
    → None ≡ first_unusable at (hard_recording row)
unfolding first_unusable hard_recording
row_none at most [] each h = refl
row_none at most (x ∷ row) each h =
    let first : x ≤ most = each 0 (omega arith) in
    rw (unusable_hard x, le-leb x 4 (omega arith))
    (row_none (suc at) most row (λ j l. each (suc j) (omega arith)) h)

pub row_usable : (at n : ℕ) (row : List ℕ) → length row ≡ n → first_unusable at (hard_recording row) ≡ None
    → AllUsable (hard_recording row) 0 n
row_usable at n row s e =
    let rec = hard_recording row in
    let all : take n rec ≡ rec = take_all n rec (omega (arith, length_hard row)) in
    let here : first_unusable 0 rec ≡ None =
    moved_none at (first_unusable 0 rec)
    (sym (unusable_shift at 0 rec) ∙ ap (λ (i : ℕ). first_unusable i rec) (add-zero at) ∙ e) in
    none_usable rec 0 n (omega (arith, length_hard row)) (ap (first_unusable 0) all ∙ here)

-- ---- whole octets

pub symbols_few : (r : Rate) (symbol w n : ℕ) → n ≡ octet_chips r * w → n ≤ 1000000 → symbol ≤ 1000000
    → symbol + octet_symbols r * w < 2 ^ 64
symbols_few r symbol w n e h k = omega (arith, few_symbols r w)

pub chips_few : (r : Rate) (at w n : ℕ) → n ≡ octet_chips r * w → at + n ≤ 1000000
    → at + symbol_chips r * (8 * w / symbol_bits r) ≤ 1000000
chips_few r at w n e h = rw (part_symbols r w, part_chips r w) (omega arith)

pub usable_heard : (r : Rate) (at symbol : ℕ) (e : Ear) (row : List ℕ) (w : ℕ) (p : Part) (odd : Option ℕ) (out : List ℕ)
    → PartHeard r 0 w (hard_recording row) (record { past = e.past; phase = e.phase }) symbol
    (lead_at e.lead e.symbol) p out
    → first_unusable at (hard_recording row) ≡ None → odd ≡ moved at p.heard.odd
    → PlaceBelow odd
    → WholeHeard r at symbol e row w
    (record {
      ear = record {
        lead = p.least.lead;
        symbol = p.least.symbol;
        past = p.heard.line.past;
        phase = p.heard.line.phase;
        last = p.heard.line.phase;
      };
      bad = None;
      odd = odd;
    })
    out
usable_heard r at symbol e row w p odd out x u i b = record {
  bad_is = sym u;
  odd_is = λ z. i ∙ ap (moved at) x.line.place
      ∙ sym (odd_shift r at 0 (growths_of r e.phase (row_words r w row)))
      ∙ ap (λ (i : ℕ). odd_growth r i (growths_of r e.phase (row_words r w row))) (add-zero at);
  past = λ z. x.line.past;
  phase = λ z. x.line.phase;
  last = λ z. refl;
  least = λ z. x.least;
  octets = λ z. x.octets;
  small = x.line.small;
  last_small = x.line.small;
  bad_few = tt;
  odd_few = b;
}

pub found_place : {A : Type 0} (q : ℕ) → Some q ≡ None → A
found_place q z = absurd (no_place z refl)
