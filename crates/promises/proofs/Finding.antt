-- Find the start, and the two readers' answers from each offset. A search ends at the first front that is told, or
-- behind so many that are refused (`finding_comes` of rules_finding); what both readers answer to either is by the
-- cases of what a front and a payload can be refused with (Refusals.antt of rules_reading). Assumes nothing.
use mathlib.Core.Path.{◌≡◌, refl, sym, ap, ◌∙◌, subst}
use mathlib.Core.Bool.{true, false}
use mathlib.Core.List.{List, ◌++◌}
use Rattle.std.specs.Prelude.{Result, Ok, Err}
use Prim.Native.Nat.{ℕ, ◌+◌, ◌*◌, ◌≤◌, ◌<◌}
use native.Mathlib.Decide.{dec_le}
use native.Mathlib.Omega.{arith}
use borrow.Author.Tests.{ltb-true, lt-ltb, le-ltb}
use lib.Dec.{T}
use lib.ListN.{length, take, drop, length-append, length-drop}
use lib.Seq.{take_at, length-take-le}
use Rattle.rules_rates.specs.Rates.{code_of, octet_chips}
use Rattle.rules_chips.specs.Chips.{Taken, hard_recording}
use Rattle.rules_chips.proofs.Recorders.{length_hard, take_hard, drop_hard}
use Rattle.rules_frame.specs.declared.Kind.{Kind}
use Rattle.rules_frame.specs.Frame.{is_kind, kind_of, clock_bit, front_chips, frame_chips}
use Rattle.rules_frame.proofs.Headers.{clock_lt}
use Rattle.rules_calls.specs.declared.Refusal.{Refusal}
use Rattle.rules_calls.specs.declared.Told.{Told}
use Rattle.rules_calls.specs.declared.Reading.{Reading}
use Rattle.rules_calls.specs.declared.Record.{Record}
use Rattle.rules_calls.specs.Answers.{record_of}
use Rattle.rules_calls.specs.Headers.{ours}
use Rattle.rules_reading.specs.Reading.{front_of, payload_reading, after_front}
use Rattle.rules_reading.proofs.Telling.{Telling, TellingIf, front_telling}
use Rattle.rules_reading.proofs.Refusals.{
  FrontRefusal,
  FrontIf,
  front_refuses,
  front_number,
  PayloadRefusal,
  no_room,
  payload_unusable,
  payload_odd_lem,
  PayloadIf,
  payload_comes,
}
use Rattle.rules_reading.proofs.Places.{front_place, payload_unusable_place, payload_odd_place, payload_odd_rate}
use Rattle.rules_reading.proofs.Local.{front_same}
use Rattle.rules_coming.specs.declared.Coming.{Coming}
use Rattle.rules_coming.specs.Coming.{front_reading, coming_of}
use Rattle.rules_coming.proofs.Laws.{coming_refused, coming_told, coming_ends}
use Rattle.rules_finding.specs.declared.NotFound.{NotFound}
use Rattle.rules_finding.specs.declared.NotFound.TheVariants.{NoKind, NoOffsets, NoStart}
use Rattle.rules_finding.specs.declared.Start.{Start}
use Rattle.rules_finding.specs.declared.Found.{Found}
use Rattle.rules_finding.specs.Finding.{is_offsets, start_at, finding_of, found_of}
use Rattle.rules_finding.proofs.Laws.{
  Missed,
  AllMissed,
  StartsAt,
  start_none,
  start_there,
  offsets_are,
  offsets_tried,
  offsets_many,
  finding_no_kind,
  finding_no_offsets,
  finding_first,
  IsSearch,
  FindingIf,
  finding_comes,
}
use Rattle.promises.specs.Calls.{ReadHard, ReadFront, Finds}
use Rattle.promises.specs.Coming.{told_coming}
use Rattle.promises.specs.Finding.{
  refused_found,
  NotTried,
  Tried,
  Meets,
  FrontTells,
  front_told,
  front_cut,
  ReaderTells,
  reads_good,
  reads_16,
  reads_17,
  reads_9,
  reads_10,
  WhenFound,
  StartFound,
  WhenNone,
  NoneFound,
}
use Rattle.promises.proofs.Only.{goes, length_told}
use Rattle.promises.proofs.Coming.{front_of_lem, goes_on}
use Rattle.promises.proofs.SentTold.{in_numbers}

-- ---- 1 and 18, whatever the recording
pub not_tried : NotTried
not_tried kind offsets chips f x = record {
  no_kind = λ h. x.answer ∙ ap found_of (finding_no_kind kind offsets _ (le-ltb kind 2 h));
  no_offsets = λ h z. none h (ap is_offsets z);
  many_offsets = λ h l. none h (offsets_many offsets l);
}
  where
    none : kind < 2 → is_offsets offsets ≡ false → f ≡ refused_found 18
    none h e = x.answer ∙ ap found_of (finding_no_offsets kind offsets _ (lt-ltb kind 2 h) e)

-- ---- one recording, read from its start
module _ (kind : ℕ) (chips : List ℕ) (b : is_kind kind ≡ true) where
  abbrev k : Kind
  k = kind_of kind

  abbrev rec : List Taken
  rec = hard_recording chips

  -- the full reader goes on from what the header-only one was told
  read_from : (g : Result Told Refusal) → front_reading kind rec ≡ g → (room : ℕ) (a : Record) (left : List ℕ)
      → ReadHard kind chips room a left → a ≡ record_of (after_front k rec room g)
  read_from g e room a left f =
      goes_on kind chips room a left f ∙ ap (λ (x : Result Told Refusal). record_of (after_front k rec room x)) e

  told_from : (g : Result Told Refusal) → front_reading kind rec ≡ g → (c : Coming) → ReadFront kind chips c → c ≡ coming_of k g
  told_from g e c f = f.answer ∙ ap (coming_of k) e

  -- a front that is refused is met by both
  both_meet : (e : Refusal) → front_of k rec ≡ Err e → FrontRefusal k rec e → Meets kind chips
  both_meet e q r =
      let here = coming_refused kind rec b e q in
      let n = front_number r in
      record {
        front_meets = λ c f. let d = told_from _ here c f in rw d (omega (arith, n), omega (arith, n));
        reader_meets = λ room a left f. let d = read_from _ here room a left f in rw d (
          omega (arith, n),
          omega (arith, n),
          λ m x. omega (arith, (front_of_lem x).1, front_place k rec r),
        );
      }

  pub meets : Missed (front_of k rec) → Meets kind chips
  meets h = by (front_of k rec) refl (front_refuses k rec) h
    where
      by : (g : Result Told Refusal) → front_of k rec ≡ g → FrontIf k rec g → Missed g → Meets kind chips
      by (Err e) q r m = both_meet e q r
      by (Ok t) q r m = absurd m

  -- one that is told is not
  abbrev heard : Coming
  heard = coming_of k (front_reading kind rec)

  pub missed : Meets kind chips → Missed (front_of k rec)
  missed h = by (front_of k rec) refl
    where
      whole : (t : Told) → front_of k rec ≡ Ok t → Dec (frame_chips k t.rate t.n ≤ length rec) → ⊥
      whole t q (yes l) =
          let e = ap (λ (g : Result Told Refusal). (coming_of k g).number) (coming_told kind rec b t q l) in
          omega (arith, e, h.front_meets heard (record { answer = refl }))
      whole t q (no l) =
          let e = ap (λ (g : Result Told Refusal). (coming_of k g).number) (coming_ends kind rec b t q (omega (arith, l))) in
          omega (arith, e, h.front_meets heard (record { answer = refl }))

      by : (g : Result Told Refusal) → front_of k rec ≡ g → Missed g
      by (Err e) q = tt
      by (Ok t) q = whole t q (dec_le (frame_chips k t.rate t.n) (length rec))

  -- a front that is told
  module _ (t : Told) (q : front_of k rec ≡ Ok t) where
    abbrev FrontTold : Coming → Type 0
    FrontTold =
        FrontTells (front_chips k) (octet_chips t.rate) (code_of t.rate) t.length (clock_bit t.clock) t.n

    abbrev ReaderTold : Record → Type 0
    ReaderTold =
        ReaderTells (front_chips k) (octet_chips t.rate) (code_of t.rate) t.length (clock_bit t.clock) t.n

    pub front_tells : (c : Coming) → ReadFront kind chips c → FrontTold c
    front_tells c f = by (dec_le (frame_chips k t.rate t.n) (length rec))
      where
        by : Dec (frame_chips k t.rate t.n ≤ length rec) → FrontTold c
        by (yes l) =
            subst FrontTold
            (sym (told_from _ (coming_told kind rec b t q l) c f
            ∙ in_numbers k t _ _ (front_chips k) (octet_chips t.rate) refl refl refl refl))
            front_told
        by (no l) =
            subst FrontTold (sym (told_from _ (coming_ends kind rec b t q (omega (arith, l))) c f)) front_cut

    payload_tells : (room : ℕ) (g : Result Reading Refusal) → PayloadIf k t rec room g → ReaderTold (record_of g)
    payload_tells room (Err e) h = refuses h
      where
        refuses : {e : Refusal} → PayloadRefusal k t rec e → ReaderTold (record_of (Err e))
        refuses no_room = reads_17
        refuses (payload_unusable p u) = let w = payload_unusable_place k rec p t u in reads_9 p w.0 w.1
        refuses (payload_odd_lem p u) =
            let w = payload_odd_place k rec p t u in
            reads_10 p (ap code_of (payload_odd_rate k rec p t u)) w.0 w.1
    payload_tells room (Ok g) h =
        subst (λ (v : Told). ReaderTold (record_of (Ok (record { told = v; used = g.used; least = g.least })))) (sym h.1)
        (subst (λ (m : ℕ). ReaderTold (record_of (Ok (record { told = t; used = m; least = g.least })))) (sym h.2) (reads_good _ _))

    pub reader_tells : (room : ℕ) (a : Record) (left : List ℕ) → ReadHard kind chips room a left → ReaderTold a
    reader_tells room a left f = by (dec_le (frame_chips k t.rate t.n) (length rec))
      where
        by : Dec (frame_chips k t.rate t.n ≤ length rec) → ReaderTold a
        by (yes l) =
            subst ReaderTold (sym (read_from _ (coming_told kind rec b t q l) room a left f))
            (payload_tells room (payload_reading k t rec room) (payload_comes k t rec room))
        by (no l) =
            subst ReaderTold (sym (read_from _ (coming_ends kind rec b t q (omega (arith, l))) room a left f)) reads_16

    -- with other chips behind the front
    pub with_payload : front_chips k ≤ length chips → (tail : List ℕ) (c : Coming)
        → octet_chips t.rate * t.n ≤ length tail → ReadFront kind (take (front_chips k) chips ++ tail) c
        → c
        ≡ told_coming (code_of t.rate) t.length (clock_bit t.clock) t.n (front_chips k)
        (octet_chips t.rate * t.n)
    with_payload there tail c l f =
        let m = front_chips k in
        let begin = take m chips in
        let long : length begin ≡ m = length-take-le m chips there in
        let other = hard_recording (begin ++ tail) in
        let alike : take m other ≡ take m rec =
        take_hard m (begin ++ tail) ∙ ap hard_recording (take_at begin tail m long) ∙ sym (take_hard m chips) in
        f.answer
        ∙ ap (coming_of k)
        (coming_told kind other b t (front_same k other rec alike ours ∙ q)
        (omega (arith, l, length_hard (begin ++ tail), length-append begin tail, long)))
        ∙ in_numbers k t _ _ m (octet_chips t.rate) refl refl refl refl

-- ---- a search
module _ (kind offsets : ℕ) (chips : List ℕ) where
  abbrev all : List Taken
  all = hard_recording chips

  search_is : Tried kind offsets → IsSearch kind offsets
  search_is h = (lt-ltb kind 2 h.kind_is, offsets_tried offsets h.some h.few)

  -- what is known wherever a search begins
  module _ (s : IsSearch kind offsets) where
    tried_is : Tried kind offsets
    tried_is = record {
      kind_is = ltb-true kind 2 s.0;
      some = (offsets_are offsets s.1).0;
      few = (offsets_are offsets s.1).1;
    }

    meets_at : (o : ℕ) → Missed (front_of (kind_of kind) (drop o all)) → Meets kind (drop o chips)
    meets_at o h =
        meets kind (drop o chips) s.0
        (subst (λ (r : List Taken). Missed (front_of (kind_of kind) r)) (drop_hard o chips) h)

    missed_at : (o : ℕ) → Meets kind (drop o chips) → Missed (front_of (kind_of kind) (drop o all))
    missed_at o h =
        subst (λ (r : List Taken). Missed (front_of (kind_of kind) r)) (sym (drop_hard o chips))
        (missed kind (drop o chips) s.0 h)

    found_at : (offset : ℕ) (t : Told) → StartsAt (kind_of kind) 0 offsets all offset t
        → WhenFound kind offsets chips (found_of (start_at offset t))
    found_at offset t h =
        let r = t.rate in
        let m = front_chips (kind_of kind) in
        let i : h.i ≡ offset = omega (arith, h.offset_is) in
        let there : offset + m ≤ length chips =
        omega (arith, i, start_there (kind_of kind) h.i all t h.told_there, length_hard chips) in
        let tells : Telling (kind_of kind) t =
        subst (TellingIf (kind_of kind)) h.told_there (front_telling (kind_of kind) (drop h.i all)) in
        let q : front_of (kind_of kind) (hard_recording (drop offset chips)) ≡ Ok t =
        ap (front_of (kind_of kind)) (sym (drop_hard offset chips)) ∙ rw (← i) h.told_there in
        record {
          front = m;
          octet = octet_chips r;
          tried = tried_is;
          goes = goes kind r s.0 tells.goes;
          some = tells.some_octets;
          few = tells.few;
          length_is = length_told tells;
          clock_is = clock_lt t.clock;
          below = omega (arith, i, h.below);
          there = there;
          front_tells = front_tells kind (drop offset chips) s.0 t q;
          reader_tells = reader_tells kind (drop offset chips) s.0 t q;
          with_payload =
              with_payload kind (drop offset chips) s.0 t q (omega (arith, there, length-drop offset chips));
          before = λ o l. meets_at o (h.before o (omega (arith, i, l)));
        }

    none_at : AllMissed (kind_of kind) offsets all → WhenNone kind offsets chips (refused_found 19)
    none_at h = record { only = refl; tried = tried_is; all = λ o l. meets_at o (h o (omega (arith, l))) }

    all_missed : ((o : ℕ) → o < offsets → Missed (front_of (kind_of kind) (drop o all)))
        → found_of (finding_of kind offsets all) ≡ refused_found 19
    all_missed h =
        ap found_of (finding_first kind offsets all s.0 s.1 ∙ start_none (kind_of kind) 0 offsets all h)

    -- a number but 19
    no_other : (g : Result Start NotFound) → FindingIf kind offsets all g → ((found_of g).number ≡ 19 → ⊥)
        → (found_of g).number ≡ 0
    no_other (Err NoKind) w z = absurd (subst T (sym s.0 ∙ w) tt)
    no_other (Err NoOffsets) w z = absurd (subst T (sym s.1 ∙ w.1) tt)
    no_other (Err NoStart) w z = absurd (z refl)
    no_other (Ok s) w z = refl

  -- by its number
  when_none : (g : Result Start NotFound) → FindingIf kind offsets all g → (found_of g).number ≡ 19
      → WhenNone kind offsets chips (found_of g)
  when_none (Err NoKind) h e = absurd (omega (arith, e))
  when_none (Err NoOffsets) h e = absurd (omega (arith, e))
  when_none (Err NoStart) h e = none_at h.0 h.1
  when_none (Ok s) h e = absurd (omega (arith, e))

  when_found : (g : Result Start NotFound) → FindingIf kind offsets all g → (found_of g).number ≡ 0
      → WhenFound kind offsets chips (found_of g)
  when_found (Err NoKind) h e = absurd (omega (arith, e))
  when_found (Err NoOffsets) h e = absurd (omega (arith, e))
  when_found (Err NoStart) h e = absurd (omega (arith, e))
  when_found (Ok s) h e = found_at h.0 s.offset s.told h.1

  number_is : (f : Found) → Finds kind offsets chips f → f.number ≡ (found_of (finding_of kind offsets all)).number
  number_is f x = ap (λ (v : Found). v.number) x.answer

pub none_found : NoneFound
none_found = (
  (λ kind offsets chips f x z.
      let g = finding_of kind offsets (hard_recording chips) in
      subst (WhenNone kind offsets chips) (sym x.answer)
      (when_none kind offsets chips g (finding_comes kind offsets (hard_recording chips))
      (sym (number_is kind offsets chips f x) ∙ z))),
  (λ kind offsets chips f x h m.
      let s = search_is kind offsets chips h in
      x.answer
      ∙ all_missed kind offsets chips s (λ o l. missed_at kind offsets chips s o (m o (omega (arith, l))))),
  λ kind offsets chips f x h z.
      let e = number_is kind offsets chips f x in
      e
      ∙ no_other kind offsets chips (search_is kind offsets chips h) (finding_of kind offsets (hard_recording chips))
      (finding_comes kind offsets (hard_recording chips)) (λ y. z (e ∙ y)),
)

pub start_found_lem : StartFound
start_found_lem kind offsets chips f x z =
    subst (WhenFound kind offsets chips) (sym x.answer)
    (when_found kind offsets chips (finding_of kind offsets (hard_recording chips))
    (finding_comes kind offsets (hard_recording chips)) (sym (number_is kind offsets chips f x) ∙ z))
