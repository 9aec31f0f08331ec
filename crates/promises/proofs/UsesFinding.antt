-- Uses of the statements about the start that is found, as they are kept, so that none of them can be said of nothing
-- and none can lose a part. Assumes nothing.
use mathlib.Core.Path.{◌≡◌, refl, sym, ap, ap₂, subst, ◌∙◌}
use mathlib.Core.Bool.{true}
use mathlib.Core.List.{List, [], ◌++◌}
use Prim.Native.Nat.{ℕ, ◌+◌, ◌*◌, ◌≤◌, ◌<◌}
use native.Mathlib.Decide.{dec_le, dec_lt, ℕ_discrete}
use native.Mathlib.Omega.{arith}
use lib.ListN.{length, take, drop, replicate, length-replicate}
use Rattle.rules_rates.specs.Plain.{LengthOf}
use Rattle.rules_calls.specs.declared.Written.{Written}
use Rattle.rules_calls.specs.declared.Record.{Record}
use Rattle.rules_calls.specs.Answers.{record_of}
use Rattle.rules_reading.specs.Reading.{reading_of, octets_found}
use Rattle.rules_chips.specs.Chips.{hard_recording}
use Rattle.rules_frame.specs.Frame.{kind_of}
use Rattle.rules_coming.specs.declared.Coming.{Coming}
use Rattle.rules_coming.specs.Coming.{front_reading, coming_of}
use Rattle.rules_finding.specs.declared.Found.{Found}
use Rattle.rules_finding.specs.Finding.{finding_of, found_of}
use Rattle.promises.specs.Calls.{
  ReadHard,
  ReadFront,
  Finds,
  to_find,
  good,
  refused_at,
  shown,
  Goes,
  long_1,
  long_2,
  long_5,
  long_11,
  short_2,
  short_5,
  short_11,
  Sent,
}
use Rattle.promises.specs.Coming.{refused_coming, told_coming, FrontOf, front_at}
use Rattle.promises.specs.Finding.{
  refused_found,
  start_found,
  Tried,
  Meets,
  FrontTells,
  front_told,
  front_cut,
  ReaderTells,
  reads_good,
  reads_16,
  reads_17,
  reads_9,
  reads_10,
  WhenFound,
  WhenNone,
}
use Rattle.promises.proofs.Coming.{one_front}
use Rattle.promises.proofs.Kept.{kept}
use Rattle.promises.proofs.UsesComing.{front_answered}

-- ---- there is an answer for every kind, number of offsets and recording: with one answer only, the contract is its
-- definition. So it is with the full reader, whose answers the statements name beside it
pub find_answered : (kind offsets : ℕ) (chips : List ℕ)
    → Finds kind offsets chips (found_of (finding_of kind offsets (hard_recording chips)))
find_answered kind offsets chips = record { answer = refl }

pub hard_answered : (kind : ℕ) (chips : List ℕ) (room : ℕ)
    → ReadHard kind chips room (record_of (reading_of kind true (hard_recording chips) room))
    (octets_found kind true (hard_recording chips) room)
hard_answered kind chips room = record { answer = refl; octets = refl }

-- ---- a kind has a front, and with a rate one octet
front_of_kind : {kind rate front octet : ℕ} → Goes kind rate front octet → FrontOf kind front
front_of_kind g = front_at g

pub one_octet : {kind rate front octet front' octet' : ℕ} → Goes kind rate front octet → Goes kind rate front' octet'
    → octet ≡ octet'
one_octet long_1 long_1 = refl
one_octet long_2 long_2 = refl
one_octet long_5 long_5 = refl
one_octet long_11 long_11 = refl
one_octet short_2 short_2 = refl
one_octet short_5 short_5 = refl
one_octet short_11 short_11 = refl

-- ---- what the readers' answers are where a front is told
pub tells_numbers : {front octet rate l clock n : ℕ} {c : Coming} → FrontTells front octet rate l clock n c
    → (c.number ≡ 0 → c ≡ told_coming rate l clock n front (octet * n))
    × ((c.number ≡ 0 → ⊥) → c ≡ refused_coming 16 0 l)
tells_numbers front_told = ((λ z. refl), λ z. absurd (z refl))
tells_numbers front_cut = ((λ z. absurd (omega (arith, z))), λ z. refl)

-- good with the same numbers; else the same LENGTH, and 16 or 17, or 9 or 10 in the payload
pub reads_told : {front octet rate l clock n : ℕ} {a : Record} → ReaderTells front octet rate l clock n a
    → a.number ≡ 0 → a ≡ good rate l n (front + octet * n) clock a.lead a.symbol
reads_told (reads_good lead symbol) z = refl
reads_told reads_16 z = absurd (omega (arith, z))
reads_told reads_17 z = absurd (omega (arith, z))
reads_told (reads_9 place h l) z = absurd (omega (arith, z))
reads_told (reads_10 place r h l) z = absurd (omega (arith, z))

pub reads_refused : {front octet rate l clock n : ℕ} {a : Record} → ReaderTells front octet rate l clock n a
    → (a.number ≡ 0 → ⊥)
    → (a ≡ refused_at a.number a.place l) × (9 ≤ a.number) × (a.number ≤ 17)
    × (16 ≤ a.number → a.place ≡ 0)
    × (a.number < 16 → (a.number ≤ 10) × (front ≤ a.place) × (a.place < front + octet * n))
    × (a.number ≡ 10 → rate ≡ 10)
reads_refused (reads_good lead symbol) z = absurd (z refl)
reads_refused reads_16 z =
    (refl, omega arith, omega arith, (λ h. refl), (λ h. absurd (omega (arith, h))), λ h. absurd (omega (arith, h)))
reads_refused reads_17 z =
    (refl, omega arith, omega arith, (λ h. refl), (λ h. absurd (omega (arith, h))), λ h. absurd (omega (arith, h)))
reads_refused (reads_9 place from to) z = (
  refl,
  omega arith,
  omega arith,
  (λ h. absurd (omega (arith, h))),
  (λ h. (omega arith, from, to)),
  λ h. absurd (omega (arith, h)),
)
reads_refused (reads_10 place r from to) z =
    (refl, omega arith, omega arith, (λ h. absurd (omega (arith, h))), (λ h. (omega arith, from, to)), λ h. r)

-- ---- one search
module _ (kind offsets : ℕ) (chips : List ℕ) (f : Found) (x : Finds kind offsets chips f) where
  pub found_once : (f' : Found) → Finds kind offsets chips f' → f ≡ f'
  found_once f' y = kept.one_answer (to_find kind offsets chips) f f' x y

  -- 1 before 18, and 18 at both ends
  pub find_no_kind : 2 ≤ kind → f ≡ refused_found 1
  find_no_kind h = (kept.not_tried kind offsets chips f x).no_kind h

  pub find_no_offsets : kind < 2 → offsets < 1 → f ≡ refused_found 18
  find_no_offsets h l = (kept.not_tried kind offsets chips f x).no_offsets h (omega (arith, l))

  pub find_many_offsets : kind < 2 → 4096 < offsets → f ≡ refused_found 18
  find_many_offsets h l = (kept.not_tried kind offsets chips f x).many_offsets h l

  -- a start
  module _ (z : f.number ≡ 0) where
    when : WhenFound kind offsets chips f
    when = kept.start_found_lem kind offsets chips f x z

    pub found_numbers : (kind < 2) × (1 ≤ offsets) × (offsets ≤ 4096) × (f.offset < offsets)
        × (1 ≤ f.n) × (f.n ≤ 4095) × (f.clock < 2) × LengthOf f.rate f.n f.length
    found_numbers = (
      when.tried.kind_is,
      when.tried.some,
      when.tried.few,
      when.below,
      when.some,
      when.few,
      when.clock_is,
      when.length_is,
    )

    pub found_there : (front : ℕ) → FrontOf kind front → f.offset + front ≤ length chips
    found_there front y = omega (arith, when.there, one_front (front_of_kind when.goes) y)

    -- what both readers answer there, whatever the room
    module _ (front octet : ℕ) (g : Goes kind f.rate front octet) where
      front_is : when.front ≡ front
      front_is = one_front (front_of_kind when.goes) (front_of_kind g)

      octet_is : when.octet ≡ octet
      octet_is = one_octet when.goes g

      pub header_told : (c : Coming) → ReadFront kind (drop f.offset chips) c
          → (c.number ≡ 0 → c ≡ told_coming f.rate f.length f.clock f.n front (octet * f.n))
          × ((c.number ≡ 0 → ⊥) → c ≡ refused_coming 16 0 f.length)
      header_told c r = rw (← front_is, ← octet_is) (tells_numbers (when.front_tells c r))

      module _ (room : ℕ) (a : Record) (left : List ℕ) (r : ReadHard kind (drop f.offset chips) room a left) where
        pub payload_read : a.number ≡ 0
            → a ≡ good f.rate f.length f.n (front + octet * f.n) f.clock a.lead a.symbol
        payload_read y = rw (← front_is, ← octet_is) (reads_told (when.reader_tells room a left r) y)

        pub payload_refused : (a.number ≡ 0 → ⊥)
            → (a ≡ refused_at a.number a.place f.length) × (9 ≤ a.number) × (a.number ≤ 17)
            × (16 ≤ a.number → a.place ≡ 0)
            × (a.number < 16 → (a.number ≤ 10) × (front ≤ a.place) × (a.place < front + octet * f.n))
            × (a.number ≡ 10 → f.rate ≡ 10)
        payload_refused y = rw (← front_is, ← octet_is) (reads_refused (when.reader_tells room a left r) y)

      -- and where the recording ends before its last chip
      pub header_alone : (tail : List ℕ) (c : Coming) → octet * f.n ≤ length tail
          → ReadFront kind (take front (drop f.offset chips) ++ tail) c
          → c ≡ told_coming f.rate f.length f.clock f.n front (octet * f.n)
      header_alone = rw (← front_is, ← octet_is) when.with_payload

    -- neither reader starts sooner
    module _ (o : ℕ) (l : o < f.offset) where
      pub header_sooner : (c : Coming) → ReadFront kind (drop o chips) c → (8 ≤ c.number) × (c.number ≤ 15)
      header_sooner c r = (when.before o l).front_meets c r

      pub reader_sooner : (room : ℕ) (a : Record) (left : List ℕ) → ReadHard kind (drop o chips) room a left
          → (8 ≤ a.number) × (a.number ≤ 15) × ((front : ℕ) → FrontOf kind front → a.place < front)
      reader_sooner room a left r = (when.before o l).reader_meets room a left r

  -- none
  module _ (z : f.number ≡ 19) where
    none : WhenNone kind offsets chips f
    none = kept.none_found.0 kind offsets chips f x z

    pub none_numbers : (f ≡ refused_found 19) × (kind < 2) × (1 ≤ offsets) × (offsets ≤ 4096)
    none_numbers = (none.only, none.tried.kind_is, none.tried.some, none.tried.few)

    pub header_nowhere : (o : ℕ) (c : Coming) → o < offsets → ReadFront kind (drop o chips) c
        → (8 ≤ c.number) × (c.number ≤ 15)
    header_nowhere o c l r = (none.all o l).front_meets c r

    pub reader_nowhere : (o room : ℕ) (a : Record) (left : List ℕ) → o < offsets
        → ReadHard kind (drop o chips) room a left
        → (8 ≤ a.number) × (a.number ≤ 15) × ((front : ℕ) → FrontOf kind front → a.place < front)
    reader_nowhere o room a left l r = (none.all o l).reader_meets room a left r

-- ---- one search that is tried
module _ (kind offsets : ℕ) (chips : List ℕ) (f : Found) (x : Finds kind offsets chips f) (known : kind < 2)
    (some : 1 ≤ offsets) (few : offsets ≤ 4096) where
  tried : Tried kind offsets
  tried = record { kind_is = known; some = some; few = few }

  pub start_or_none : (f.number ≡ 19 → ⊥) → f.number ≡ 0
  start_or_none h = kept.none_found.2 kind offsets chips f x tried h

  -- a start is found no later than where a reader meets none of 8 to 15 in the front
  no_later : (o : ℕ) → o < offsets → (Meets kind (drop o chips) → ⊥) → (f.number ≡ 0) × (f.offset ≤ o)
  no_later o l h =
      let z = start_or_none (λ y. h ((kept.none_found.0 kind offsets chips f x y).all o l)) in
      (z, by z (dec_le f.offset o))
    where
      by : f.number ≡ 0 → Dec (f.offset ≤ o) → f.offset ≤ o
      by z (yes y) = y
      by z (no y) = absurd (h ((kept.start_found_lem kind offsets chips f x z).before o (omega (arith, y))))

  pub header_passes : (o : ℕ) (c : Coming) → o < offsets → ReadFront kind (drop o chips) c
      → (8 ≤ c.number → 16 ≤ c.number) → (f.number ≡ 0) × (f.offset ≤ o)
  header_passes o c l r h = no_later o l
      (λ m. let y = m.front_meets c r in let w = h y.0 in omega (arith, w, y))

  pub reader_passes : (o front room : ℕ) (a : Record) (left : List ℕ) → o < offsets → FrontOf kind front
      → ReadHard kind (drop o chips) room a left → (8 ≤ a.number → a.number ≤ 15 → front ≤ a.place)
      → (f.number ≡ 0) × (f.offset ≤ o)
  reader_passes o front room a left l g r h = no_later o l
      (λ m. let y = m.reader_meets room a left r in
      let w = h y.0 y.1 in
      omega (arith, w, y.2 front g))

  -- 19 where the header-only reader meets one from every offset: the full reader then does too
  pub none_if_met : ((o : ℕ) (c : Coming) → o < offsets → ReadFront kind (drop o chips) c
      → (8 ≤ c.number) × (c.number ≤ 15)) → f ≡ refused_found 19
  none_if_met h =
      kept.none_found.1 kind offsets chips f x tried
      (λ o l. record { front_meets = λ c r. h o c l r; reader_meets = both o l })
    where
      both : (o : ℕ) → o < offsets → (room : ℕ) (a : Record) (left : List ℕ)
          → ReadHard kind (drop o chips) room a left
          → (8 ≤ a.number) × (a.number ≤ 15) × ((front : ℕ) → FrontOf kind front → a.place < front)
      both o l room a left r =
          let c = coming_of (kind_of kind) (front_reading kind (hard_recording (drop o chips))) in
          let answered = front_answered kind (drop o chips) in
          let n = h o c l answered in
          let not_0 : c.number ≡ 0 → ⊥ = λ z. omega (arith, z, n) in
          let e = kept.refused_alike kind (drop o chips) c room a left answered r not_0 in
          let w = kept.front_refused kind (drop o chips) c answered not_0 in
          rw e (n.0, n.1, λ front g. w.in_front front g)

  -- and where there are fewer chips than a front has
  pub none_if_short : (front : ℕ) → FrontOf kind front → length chips < front → f ≡ refused_found 19
  none_if_short front g l = by (ℕ_discrete f.number 19)
    where
      by : Dec (f.number ≡ 19) → f ≡ refused_found 19
      by (yes e) = (kept.none_found.0 kind offsets chips f x e).only
      by (no e) =
          let w = kept.start_found_lem kind offsets chips f x (start_or_none e) in
          absurd (omega (arith, l, w.there, one_front (front_of_kind w.goes) g))

-- ---- what is said of a start leaves none other: two searches of one recording, whatever the offsets, tell the same
module _ (kind : ℕ) (chips : List ℕ) where
  first_is_one : (offsets : ℕ) (f : Found) → WhenFound kind offsets chips f → Meets kind (drop f.offset chips) → ⊥
  first_is_one offsets f w m =
      let rec = drop f.offset chips in
      let c = coming_of (kind_of kind) (front_reading kind (hard_recording rec)) in
      by c (w.front_tells c (front_answered kind rec)) (m.front_meets c (front_answered kind rec))
    where
      by : (c : Coming) → FrontTells w.front w.octet f.rate f.length f.clock f.n c
          → (8 ≤ c.number) × (c.number ≤ 15) → ⊥
      by c front_told n = omega (arith, n)
      by c front_cut n = omega (arith, n)

  module _ (offsets offsets' : ℕ) (f f' : Found) (x : Finds kind offsets chips f) (x' : Finds kind offsets' chips f')
      (z : f.number ≡ 0) (z' : f'.number ≡ 0) where
    w : WhenFound kind offsets chips f
    w = kept.start_found_lem kind offsets chips f x z

    w' : WhenFound kind offsets' chips f'
    w' = kept.start_found_lem kind offsets' chips f' x' z'

    same_offset : f.offset ≡ f'.offset
    same_offset = by (dec_lt f.offset f'.offset) (dec_lt f'.offset f.offset)
      where
        by : Dec (f.offset < f'.offset) → Dec (f'.offset < f.offset) → f.offset ≡ f'.offset
        by (yes l) d = absurd (first_is_one offsets f w (w'.before f.offset l))
        by (no l) (yes m) = absurd (first_is_one offsets' f' w' (w.before f'.offset m))
        by (no l) (no m) = omega (arith, l, m)

    pub one_start : f ≡ f'
    one_start =
        let m = w.octet * f.n + w'.octet * f'.n in
        let tail : List ℕ = replicate m 0 in
        let long = length-replicate {A = ℕ} m 0 in
        let begin = take w.front (drop f.offset chips) in
        let rec = begin ++ tail in
        let c = coming_of (kind_of kind) (front_reading kind (hard_recording rec)) in
        let fronts = one_front (front_of_kind w.goes) (front_of_kind w'.goes) in
        let p = w.with_payload tail c (omega (arith, long)) (front_answered kind rec) in
        let begins : begin ≡ take w'.front (drop f'.offset chips) =
        ap₂ {C = List ℕ} (λ m o. take m (drop o chips)) fronts same_offset in
        let p' = w'.with_payload tail c (omega (arith, long))
        (subst (λ (b : List ℕ). ReadFront kind (b ++ tail) c) begins (front_answered kind rec)) in
        let q = sym p ∙ p' in
        λ i. record {
          number = (z ∙ sym z') i;
          offset = same_offset i;
          rate = (ap (λ (v : Coming). v.rate) q) i;
          length = (ap (λ (v : Coming). v.length) q) i;
          clock = (ap (λ (v : Coming). v.clock) q) i;
          n = (ap (λ (v : Coming). v.n) q) i;
        }

-- ---- a frame that was written: from its first chip, and behind anything
module _ (kind rate phase clock : ℕ) (payload : List ℕ) (w : Written) (chips : List ℕ)
    (s : Sent kind rate phase clock payload w chips) (l : ℕ) (d : LengthOf rate (length payload) l) (tail : List ℕ)
    (offsets : ℕ) (f : Found) (few : offsets ≤ 4096) where
  abbrev the_frame : ℕ → Found
  the_frame at = start_found at rate l (shown clock) (length payload)

  pub sent_first : 1 ≤ offsets → Finds kind offsets (take s.sendable.front chips ++ tail) f → f ≡ the_frame 0
  sent_first h x =
      let o = kept.sent_found kind rate phase clock payload w chips s l d [] tail offsets f h few x in
      o.2 (omega (arith, o.1))

  module _ (before : List ℕ) (h : length before < offsets)
      (x : Finds kind offsets (before ++ (take s.sendable.front chips ++ tail)) f) where
    pub sent_not_missed : (f.number ≡ 0) × (f.offset ≤ length before)
    sent_not_missed =
        let o = kept.sent_found kind rate phase clock payload w chips s l d before tail offsets f h few x in
        (o.0, o.1)

    pub sent_itself : f.offset ≡ length before → f ≡ the_frame (length before)
    sent_itself = (kept.sent_found kind rate phase clock payload w chips s l d before tail offsets f h few x).2
