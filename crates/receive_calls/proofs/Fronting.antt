-- Chips of a front taken: what each way of taking them makes of it.
--     front_passes                     a refusal was certain
--     preamble_keeps, header_keeps     a piece of the preamble, and of the header
-- Assumes nothing.
use mathlib.Core.Path.{◌≡◌, refl, sym, ap, ap₂, subst, ◌∙◌}
use mathlib.Core.List.{List, ◌++◌}
use Rattle.std.specs.Prelude.{Option, None, Some}
use Prim.Native.Nat.{ℕ, suc, ◌+◌, ◌-◌, ◌*◌, ◌/◌, ◌%◌, ◌≤◌, ◌<◌}
use native.Mathlib.Omega.{arith}
use lib.ListN.{length, take}
use lib.Seq.{length-take-le}
use borrow.Author.Tests.{eq-eqb, ne_eqb}
use Rattle.rules_rates.specs.declared.Rate.{Rate}
use Rattle.rules_rates.specs.declared.Rate.TheVariants.{One}
use Rattle.rules_rates.specs.Rates.{octet_chips}
use Rattle.rules_chips.specs.Chips.{hard_recording}
use Rattle.rules_frame.specs.declared.Kind.{Kind}
use Rattle.rules_frame.specs.declared.Kind.TheVariants.{Long, Short}
use Rattle.rules_frame.specs.Frame.{header_rate, front_chips, preamble_chips}
use Rattle.rules_reading.specs.Reading.{first_unusable}
use Rattle.rules_receiving.specs.declared.Ear.{Ear}
use Rattle.rules_receiving.specs.declared.Progress.{Progress}
use Rattle.rules_receiving.specs.Sections.{preamble_section, header_section, SectionIs}
use Rattle.rules_receiving.specs.Receivers.{place_number, preamble_count, front_odd_yet, FrontTo}
use Rattle.rules_receiving.proofs.FrontPieces.{
  number_none,
  front_unusable,
  front_odd_lem,
  front_preamble,
  front_header,
}
use Rattle.receive_parts.specs.declared.Taking.{Taking}
use Rattle.receive_calls.specs.declared.Pieced.{Pieced}
use Rattle.receive_parts.specs.Pieces.{Takes}
use Rattle.receive_calls.specs.Steps.{bad_behind, Passes, Keeps, FrontTakes}

-- ---- a refusal was certain

module _
    (k : Kind) (p : Progress) (hold preamble header rest : List ℕ) (left : ℕ) (q : Pieced)
    (front : p.count < front_chips k) (left_is : left ≡ front_chips k - p.count) (phase : p.ear.phase < 4)
    (last : p.ear.last < 4) (x : Passes p rest left q) where
  long : length (take q.taken rest) ≡ q.taken
  long = length-take-le q.taken rest x.most

  passes_to : (p.bad ≡ 0 → p.odd ≡ 0 → ⊥) → (fed : List ℕ) → FrontTo k fed p hold preamble header
      → FrontTo k (fed ++ take q.taken rest) q.progress hold preamble header
  passes_to certain fed y =
      by (first_unusable 0 (hard_recording fed)) refl (front_odd_yet k (hard_recording fed)) refl
    where
      piece : List ℕ
      piece = take q.taken rest

      inside : length fed + length piece ≤ front_chips k
      inside = omega (arith, y.count_is, long, x.within, left_is, front)

      counted : q.progress.count ≡ p.count + length piece
      counted = ap (λ (u : Progress). u.count) x.progress_is ∙ ap (λ (i : ℕ). p.count + i) (sym long)

      behind : q.progress.bad ≡ bad_behind p piece
      behind = ap (λ (u : Progress). u.bad) x.progress_is

      by : (u : Option ℕ) → first_unusable 0 (hard_recording fed) ≡ u → (o : Option ℕ)
          → front_odd_yet k (hard_recording fed) ≡ o → FrontTo k (fed ++ piece) q.progress hold preamble header
      by (Some place) e o f =
          let number : p.bad ≡ suc place = y.bad_is ∙ ap place_number e in
          front_unusable k fed piece p q.progress hold preamble header y inside counted hold preamble header place e
          (behind ∙ rw (ne_eqb p.bad 0 (λ z. omega (arith, number, z))))
      by None e (Some place) f =
          let number : p.bad ≡ 0 = y.bad_is ∙ ap place_number e in
          front_odd_lem k fed piece p q.progress hold preamble header y inside counted hold preamble header place e f
          (behind ∙ rw (eq-eqb p.bad 0 number)) (ap (λ (u : Progress). u.odd) x.progress_is)
      by None e None f =
          absurd (certain (y.bad_is ∙ ap place_number e) (y.odd_is e ∙ ap place_number f))

  pub front_passes : (p.bad ≡ 0 → p.odd ≡ 0 → ⊥)
      → FrontTakes k p hold preamble header rest q hold preamble header
  front_passes certain = record {
    some_taken = λ s. x.some_taken s (omega (arith, front, left_is));
    most = x.most;
    within = omega (arith, x.within, left_is, front);
    count_is = ap (λ (u : Progress). u.count) x.progress_is;
    status_is = ap (λ (u : Progress). u.status) x.progress_is;
    kind_is = ap (λ (u : Progress). u.kind) x.progress_is;
    room_is = ap (λ (u : Progress). u.room) x.progress_is;
    small = rw x.progress_is phase;
    last_small = rw x.progress_is last;
    hold_long = refl;
    preamble_long = refl;
    header_long = refl;
    front_to = λ fed l y. passes_to certain fed y;
  }

-- ---- a piece of a part

header_end : (k : Kind) → preamble_chips k + octet_chips (header_rate k) * 6 ≡ front_chips k
header_end Long = refl
header_end Short = refl

preamble_end : (k : Kind) → 0 + 88 * preamble_count k ≡ preamble_chips k
preamble_end Long = refl
preamble_end Short = refl

preamble_within : (k : Kind) → preamble_chips k ≤ front_chips k
preamble_within Long = omega arith
preamble_within Short = omega arith

header_even : (k : Kind) → preamble_chips k / 11 % 2 ≡ 0
header_even Long = refl
header_even Short = refl

module _
    (k : Kind) (p : Progress) (hold preamble header rest : List ℕ) (t : Taking) (q : Pieced) (x : Keeps p t q)
    (clear : p.bad ≡ 0) (even : p.odd ≡ 0) where
  counts : q.progress.count ≡ p.count + q.taken
  counts = ap (λ (u : Progress). u.count) x.progress_is ∙ ap (λ (i : ℕ). p.count + i) (sym x.taken_is)

  ear_is : t.piece.ear ≡ q.progress.ear
  ear_is = sym (ap (λ (u : Progress). u.ear) x.progress_is)

  usable : (fed : List ℕ) → FrontTo k fed p hold preamble header → first_unusable 0 (hard_recording fed) ≡ None
  usable fed y = number_none (first_unusable 0 (hard_recording fed)) (sym y.bad_is ∙ clear)

  no_odd : (fed : List ℕ) → FrontTo k fed p hold preamble header → front_odd_yet k (hard_recording fed) ≡ None
  no_odd fed y = number_none (front_odd_yet k (hard_recording fed)) (sym (y.odd_is (usable fed y)) ∙ even)

  pub preamble_keeps : (n : ℕ) (hold' out : List ℕ) → n ≡ preamble_count k → 11 ≤ p.count
      → p.count < preamble_chips k
      → Takes One 0 0 n p.count p.ear hold rest preamble t hold' out
      → FrontTakes k p hold preamble header rest q hold' out header
  preamble_keeps n hold' out e first before z = record {
    some_taken = λ s. rw x.taken_is (z.some_taken s);
    most = most;
    within = omega (arith, within, preamble_within k);
    count_is = counts;
    status_is = ap (λ (u : Progress). u.status) x.progress_is;
    kind_is = ap (λ (u : Progress). u.kind) x.progress_is;
    room_is = ap (λ (u : Progress). u.room) x.progress_is;
    small = rw (← ear_is) z.small;
    last_small = rw (← ear_is) z.last_small;
    hold_long = z.hold_long;
    preamble_long = z.out_long;
    header_long = refl;
    front_to = λ fed l y.
        front_preamble k fed (take q.taken rest) p q.progress hold preamble header y
        (omega (arith, y.count_is, long, within, preamble_within k))
        (counts ∙ ap (λ (i : ℕ). p.count + i) (sym long))
        (usable fed y) (no_odd fed y) t.piece.bad t.piece.odd hold' out
        (ap (λ (u : Progress). u.bad) x.progress_is) (ap (λ (u : Progress). u.odd) x.progress_is)
        (omega (arith, first, y.count_is)) (omega (arith, before, y.count_is))
        (omega (arith, y.count_is, long, within))
        (λ a b g.
        subst (λ (ear : Ear). SectionIs k (preamble_section k (hard_recording fed)) (fed ++ take q.taken rest)
        t.piece.bad t.piece.odd ear hold' out) ear_is
        (subst (λ (i : ℕ). SectionIs k (preamble_section k (hard_recording fed)) (fed ++ take i rest)
        t.piece.bad t.piece.odd t.piece.ear hold' out) (sym x.taken_is)
        (z.becomes k (preamble_section k (hard_recording fed)) fed refl refl refl refl (sym y.count_is) a b g)));
  }
    where
      most : q.taken ≤ length rest
      most = rw x.taken_is z.most

      within : p.count + q.taken ≤ preamble_chips k
      within =
          let end : 0 + 88 * n ≡ preamble_chips k = ap (λ (i : ℕ). 0 + 88 * i) e ∙ preamble_end k in
          omega (arith, end, z.within, x.taken_is)

      long : length (take q.taken rest) ≡ q.taken
      long = length-take-le q.taken rest most

  pub header_keeps : (r : Rate) (from : ℕ) (hold' out : List ℕ) → r ≡ header_rate k → from ≡ preamble_chips k
      → from ≤ p.count
      → Takes r from (from / 11) 6 p.count p.ear hold rest header t hold' out
      → FrontTakes k p hold preamble header rest q hold' preamble out
  header_keeps r from hold' out e f behind z = record {
    some_taken = λ s. rw x.taken_is (z.some_taken s);
    most = most;
    within = within;
    count_is = counts;
    status_is = ap (λ (u : Progress). u.status) x.progress_is;
    kind_is = ap (λ (u : Progress). u.kind) x.progress_is;
    room_is = ap (λ (u : Progress). u.room) x.progress_is;
    small = rw (← ear_is) z.small;
    last_small = rw (← ear_is) z.last_small;
    hold_long = z.hold_long;
    preamble_long = refl;
    header_long = z.out_long;
    front_to = λ fed l y.
        front_header k fed (take q.taken rest) p q.progress hold preamble header y
        (omega (arith, y.count_is, long, within))
        (counts ∙ ap (λ (i : ℕ). p.count + i) (sym long))
        (usable fed y) (no_odd fed y) t.piece.bad t.piece.odd hold' out
        (ap (λ (u : Progress). u.bad) x.progress_is) (ap (λ (u : Progress). u.odd) x.progress_is)
        (omega (arith, behind, f, y.count_is))
        (λ a b g.
        subst (λ (ear : Ear). SectionIs k (header_section k (hard_recording fed)) (fed ++ take q.taken rest)
        t.piece.bad t.piece.odd ear hold' out) ear_is
        (subst (λ (i : ℕ). SectionIs k (header_section k (hard_recording fed)) (fed ++ take i rest)
        t.piece.bad t.piece.odd t.piece.ear hold' out) (sym x.taken_is)
        (z.becomes k (header_section k (hard_recording fed)) fed (sym e) (sym f) (ap (λ (i : ℕ). i / 11) (sym f))
        (rw f (header_even k)) (sym y.count_is) a b g)));
  }
    where
      most : q.taken ≤ length rest
      most = rw x.taken_is z.most

      within : p.count + q.taken ≤ front_chips k
      within =
          let end : from + octet_chips r * 6 ≡ front_chips k =
          ap₂ {C = ℕ} (λ i s. i + octet_chips s * 6) f e ∙ header_end k in
          omega (arith, end, z.within, x.taken_is)

      long : length (take q.taken rest) ≡ q.taken
      long = length-take-le q.taken rest most
