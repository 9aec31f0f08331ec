-- A payload with a piece of its chips more.
--     Went, Counts                  a payload that comes, with the buffer beside it; chips that were counted
--     payload_part, part_odd        the payload is the same part of all that begins with it
--     pass_room, pass_certain       a refusal is certain: only the count grows, and 9 is still looked for
--     part_next                     none is certain: what the piece makes of the part
-- Assumes nothing.
use mathlib.Core.Path.{◌≡◌, refl, sym, ap, ap₂, subst, ◌∙◌}
use mathlib.Core.Bool.{Bool, true, false, cond}
use mathlib.Core.List.{List, ◌++◌}
use Rattle.std.specs.Prelude.{Option, None, Some, Ok}
use Prim.Native.Nat.{ℕ, suc, ◌+◌, ◌-◌, ◌/◌, ◌≤◌, ◌<◌}
use native.Mathlib.Omega.{arith}
use borrow.Author.Tests.{lt-ltb, le-ltb, eq-eqb, ne_eqb}
use lib.Dec.{eqb, ltb}
use lib.ListN.{length, drop, length-append, length-drop}
use lib.Seq.{drop-append-le}
use Rattle.rules_rates.specs.declared.Rate.{Rate}
use Rattle.rules_chips.specs.Chips.{Taken, hard_recording}
use Rattle.rules_chips.proofs.Recorders.{length_hard, append_hard}
use Rattle.rules_bits.specs.Bits.{octets_of}
use Rattle.rules_bits.specs.Scrambler.{descramble}
use Rattle.rules_frame.specs.declared.Kind.{Kind}
use Rattle.rules_frame.specs.Frame.{start, front_chips, frame_chips}
use Rattle.rules_calls.specs.declared.Told.{Told}
use Rattle.rules_reading.specs.Leads.{least_of}
use Rattle.rules_reading.specs.Reading.{or_else, first_unusable, front_of, payload_words, payload_of}
use Rattle.rules_reading.proofs.Decoding.{front_length}
use Rattle.rules_receiving.specs.declared.Progress.{Progress}
use Rattle.rules_receiving.specs.Yet.{zeros, whole_octets, unusable_yet, odd_yet, octets_yet, payload_yet}
use Rattle.rules_receiving.specs.Sections.{Section, payload_section, heard_to, octets_to, section_odd, GoesOn, SectionIs}
use Rattle.rules_receiving.specs.Receivers.{place_number, Tells, PayloadComes}
use Rattle.rules_receiving.proofs.Prefix.{unusable_append, phase_prefix, heard_prefix, front_leads_prefix, front_prefix}
use Rattle.rules_receiving.proofs.Fronts.{no_place, odd_stays}
use Rattle.rules_receiving.proofs.FrontPieces.{neither}

-- ---- the same part

pub payload_part : (k : Kind) (r : Rate) (rec more : List Taken) → front_chips k ≤ length rec
    → payload_section k r (rec ++ more) ≡ payload_section k r rec
payload_part k r rec more whole = λ i. record {
  rate = r;
  from = front_chips k;
  first = front_chips k / 11;
  phase = phase_prefix k rec more whole i;
  before = heard_prefix k rec more whole i;
  least = least_of (front_leads_prefix k rec more whole i);
}

pub part_odd : (k : Kind) (r : Rate) (rec : List Taken) → odd_yet k r rec ≡ section_odd (payload_section k r rec) rec
unfolding odd_yet section_odd
part_odd k r rec = refl

part_octets : (k : Kind) (r : Rate) (m : ℕ) (rec : List Taken) → octets_to (payload_section k r rec) rec k m
    ≡ payload_of k r m rec
unfolding payload_of payload_words
part_octets k r m rec =
    ap (λ (i : ℕ). octets_of m (drop i (descramble (start k) (heard_to (payload_section k r rec) rec m))))
    (front_length k r rec m)

-- ---- what comes

pub record Went (k : Kind) (t : Told) (fed : List ℕ) (p : Progress) (hold buf : List ℕ) : Type 0 where
  pub comes : PayloadComes k t fed p hold buf
  pub buffer : buf ≡ payload_yet k t (hard_recording fed) p.room

-- n chips were counted, and what the front told is kept
pub record Counts (p u : Progress) (n : ℕ) : Type 0 where
  pub status_is : u.status ≡ p.status
  pub kind_is : u.kind ≡ p.kind
  pub room_is : u.room ≡ p.room
  pub rate_is : u.rate ≡ p.rate
  pub length_is : u.length ≡ p.length
  pub n_is : u.n ≡ p.n
  pub clock_is : u.clock ≡ p.clock
  pub count_is : u.count ≡ p.count + n

-- the buffer once a refusal is certain
room_zeros : (k : Kind) (t : Told) (rec : List Taken) (room : ℕ) → room < t.n → payload_yet k t rec room ≡ zeros room
unfolding payload_yet
room_zeros k t rec room h = rw (lt-ltb room t.n h)

certain_zeros : (k : Kind) (t : Told) (rec : List Taken) (room : ℕ)
    → (unusable_yet k rec ≡ None → odd_yet k t.rate rec ≡ None → ⊥) → payload_yet k t rec room ≡ zeros room
unfolding payload_yet
certain_zeros k t rec room h =
    by (ltb room t.n) (unusable_yet k rec) (odd_yet k t.rate rec) (octets_yet k t.rate rec room) h
  where
    by : (b : Bool) (x y : Option ℕ) (l : List ℕ) → (x ≡ None → y ≡ None → ⊥)
        → cond b (zeros room) (or_else x (λ place. zeros room) (or_else y (λ place. zeros room) l)) ≡ zeros room
    by true x y l g = refl
    by false (Some place) y l g = refl
    by false None (Some place) l g = refl
    by false None None l g = absurd (g refl refl)

-- and where none is
none_stored : (k : Kind) (t : Told) (rec : List Taken) (room : ℕ) (out : List ℕ) → t.n ≤ room
    → unusable_yet k rec ≡ None → odd_yet k t.rate rec ≡ None → out ≡ octets_yet k t.rate rec room
    → out ≡ payload_yet k t rec room
unfolding payload_yet
none_stored k t rec room out fits g e o = rw (le-ltb room t.n fits, g, e) o

module _
    (k : Kind) (t : Told) (fed piece : List ℕ) (p u : Progress) (hold buf : List ℕ) (w : Went k t fed p hold buf)
    (x : Counts p u (length piece)) (to : length fed + length piece ≤ frame_chips k t.rate t.n) where
  abbrev r : Rate
  r = t.rate

  abbrev rec : List Taken
  rec = hard_recording fed

  abbrev more : List Taken
  more = hard_recording piece

  abbrev all : List Taken
  all = hard_recording (fed ++ piece)

  whole : front_chips k ≤ length rec
  whole = omega (arith, w.comes.from, length_hard fed)

  long : length (fed ++ piece) ≡ length fed + length piece
  long = length-append fed piece

  counted : u.count ≡ length (fed ++ piece)
  counted = x.count_is ∙ ap (λ (i : ℕ). i + length piece) w.comes.count_is ∙ sym long

  told_on : front_of k all ≡ Ok t
  told_on = ap (front_of k) (append_hard fed piece) ∙ front_prefix k rec more whole ∙ w.comes.told

  tells_on : Tells t u
  tells_on = record {
    rate_is = x.rate_is ∙ w.comes.tells.rate_is;
    length_is = x.length_is ∙ w.comes.tells.length_is;
    n_is = x.n_is ∙ w.comes.tells.n_is;
    clock_is = x.clock_is ∙ w.comes.tells.clock_is;
  }

  part_on : payload_section k r rec ≡ payload_section k r all
  part_on = sym (ap (payload_section k r) (append_hard fed piece) ∙ payload_part k r rec more whole)

  unusable_on : unusable_yet k all ≡ or_else (unusable_yet k rec) (λ place. Some place) (first_unusable (length fed) more)
  unusable_on =
      ap (unusable_yet k) (append_hard fed piece)
      ∙ ap (first_unusable (front_chips k)) (drop-append-le (front_chips k) rec more whole)
      ∙ unusable_append (front_chips k) (drop (front_chips k) rec) more
      ∙ ap (λ (i : ℕ). or_else (unusable_yet k rec) (λ place. Some place) (first_unusable i more))
      (there (length-drop (front_chips k) rec))
    where
      there : length (drop (front_chips k) rec) ≡ length rec - front_chips k
          → front_chips k + length (drop (front_chips k) rec) ≡ length fed
      there e = omega (arith, e, whole, length_hard fed)

  usable_before : unusable_yet k all ≡ None → unusable_yet k rec ≡ None
  usable_before e = (neither (unusable_yet k rec) (first_unusable (length fed) more) (sym unusable_on ∙ e)).0

  odd_on : (place : ℕ) → odd_yet k r rec ≡ Some place → odd_yet k r all ≡ Some place
  odd_on place e =
      part_odd k r all
      ∙ ap₂ {C = Option ℕ} (λ q c. section_odd q c) (sym part_on) (append_hard fed piece)
      ∙ odd_stays (payload_section k r rec) rec more place whole (sym (part_odd k r rec) ∙ e)

  -- 17 is certain
  pub pass_room : p.room < t.n → Went k t (fed ++ piece) u hold buf
  pass_room h =
      let never : t.n ≤ u.room → ⊥ = λ f. omega (arith, h, f, x.room_is) in
      record {
        comes = record {
          tells = tells_on;
          told = told_on;
          from = omega (arith, long, w.comes.from);
          to = omega (arith, long, to);
          count_is = counted;
          bad_is = λ f. absurd (never f);
          odd_is = λ f g. absurd (never f);
          goes = λ f g o. absurd (never f);
        };
        buffer = w.buffer ∙ room_zeros k t rec p.room h ∙ ap zeros (sym x.room_is)
            ∙ sym (room_zeros k t all u.room (omega (arith, h, x.room_is)));
      }

  module _ (fits : t.n ≤ p.room) where
    -- 9 is certain, or 10 unless 9 comes
    pub pass_certain : (unusable_yet k rec ≡ None → odd_yet k r rec ≡ None → ⊥)
        → u.bad ≡ cond (eqb p.bad 0) (place_number (first_unusable p.count more)) p.bad → u.odd ≡ p.odd
        → Went k t (fed ++ piece) u hold buf
    pass_certain certain bad odd = record {
      comes = record {
        tells = tells_on;
        told = told_on;
        from = omega (arith, long, w.comes.from);
        to = omega (arith, long, to);
        count_is = counted;
        bad_is = λ f. bad ∙ looked (unusable_yet k rec) (w.comes.bad_is fits) ∙ ap place_number (sym unusable_on);
        odd_is = λ f g. odd ∙ w.comes.odd_is fits (usable_before g)
            ∙ grown (usable_before g) (odd_yet k r rec) refl;
        goes = λ f g o. absurd (certain_on g o);
      };
      buffer = w.buffer ∙ certain_zeros k t rec p.room certain ∙ ap zeros (sym x.room_is)
          ∙ sym (certain_zeros k t all u.room certain_on);
    }
      where
        looked : (o : Option ℕ) → p.bad ≡ place_number o
            → cond (eqb p.bad 0) (place_number (first_unusable p.count more)) p.bad
            ≡ place_number (or_else o (λ place. Some place) (first_unusable (length fed) more))
        looked None e =
            rw (eq-eqb p.bad 0 e) (ap (λ (i : ℕ). place_number (first_unusable i more)) w.comes.count_is)
        looked (Some place) e = rw (ne_eqb p.bad 0 (λ z. omega (arith, e, z))) e

        grown : unusable_yet k rec ≡ None → (o : Option ℕ) → odd_yet k r rec ≡ o
            → place_number (odd_yet k r rec) ≡ place_number (odd_yet k r all)
        grown g None e = absurd (certain g e)
        grown g (Some place) e = ap place_number (e ∙ sym (odd_on place e))

        certain_on : unusable_yet k all ≡ None → odd_yet k r all ≡ None → ⊥
        certain_on g o = by (odd_yet k r rec) refl
          where
            by : (y : Option ℕ) → odd_yet k r rec ≡ y → ⊥
            by None e = certain (usable_before g) e
            by (Some place) e = no_place o (odd_on place e)

    -- none is certain
    pub part_next : (bad odd : Option ℕ) (hold' out' out : List ℕ)
        → SectionIs k (payload_section k r rec) (fed ++ piece) bad odd u.ear hold' out' → u.bad ≡ place_number bad
        → u.odd ≡ place_number odd → length out' ≡ p.room
        → out ≡ cond (eqb u.bad 0) (cond (eqb u.odd 0) out' (zeros (length out'))) (zeros (length out'))
        → Went k t (fed ++ piece) u hold' out
    part_next bad odd hold' out' out y b o size settled = record {
      comes = record {
        tells = tells_on;
        told = told_on;
        from = omega (arith, long, w.comes.from);
        to = omega (arith, long, to);
        count_is = counted;
        bad_is = λ f. b ∙ ap place_number z.bad_is;
        odd_is = λ f g. o ∙ ap place_number (odd_of g);
        goes = λ f g e.
            subst (λ (l : List ℕ). GoesOn k (payload_section k r all) (fed ++ piece) u.ear hold' l)
            (sym (kept (z.bad_is ∙ g) (odd_of g ∙ e))) (z.goes (z.bad_is ∙ g) (odd_of g ∙ e));
      };
      buffer = by bad odd refl refl ∙ ap (payload_yet k t all) (sym x.room_is);
    }
      where
        z : SectionIs k (payload_section k r all) (fed ++ piece) bad odd u.ear hold' out'
        z = subst (λ (q : Section). SectionIs k q (fed ++ piece) bad odd u.ear hold' out') part_on y

        odd_of : unusable_yet k all ≡ None → odd ≡ odd_yet k r all
        odd_of g = z.odd_is (z.bad_is ∙ g) ∙ sym (part_odd k r all)

        kept : bad ≡ None → odd ≡ None → out ≡ out'
        kept e f =
            settled ∙ rw (eq-eqb u.bad 0 (b ∙ ap place_number e), eq-eqb u.odd 0 (o ∙ ap place_number f))

        cleared : (place : ℕ) → u.bad ≡ suc place → out ≡ zeros p.room
        cleared place e =
            settled ∙ rw (ne_eqb u.bad 0 (λ n. omega (arith, e, n))) (ap zeros size)

        grown : (place : ℕ) → u.bad ≡ 0 → u.odd ≡ suc place → out ≡ zeros p.room
        grown place e f =
            settled ∙ rw (eq-eqb u.bad 0 e, ne_eqb u.odd 0 (λ n. omega (arith, f, n))) (ap zeros size)

        stored : unusable_yet k all ≡ None → odd_yet k r all ≡ None → out' ≡ payload_yet k t all p.room
        stored g e =
            none_stored k t all p.room out' fits g e
            ((z.goes (z.bad_is ∙ g) (odd_of g ∙ e)).octets
            ∙ ap₂ {C = List ℕ} (λ a c. a ++ c) (part_octets k r (whole_octets r (front_chips k) all) all)
            (ap (λ (i : ℕ). zeros (i - whole_octets r (front_chips k) all)) size))

        by : (a c : Option ℕ) → bad ≡ a → odd ≡ c → out ≡ payload_yet k t all p.room
        by (Some place) c e f =
            cleared place (b ∙ ap place_number e)
            ∙ sym (certain_zeros k t all p.room (λ g h. no_place (z.bad_is ∙ g) e))
        by None (Some place) e f =
            grown place (b ∙ ap place_number e) (o ∙ ap place_number f)
            ∙ sym (certain_zeros k t all p.room (λ g h. no_place (odd_of g ∙ h) f))
        by None None e f =
            kept e f
            ∙ stored (sym z.bad_is ∙ e) (sym (odd_of (sym z.bad_is ∙ e)) ∙ f)
