-- Uses of the statements about what is coming, as they are kept, so that none of them can be said of nothing and none
-- can lose a part. Assumes nothing.
use mathlib.Core.Path.{◌≡◌, refl, sym, ap, subst, ◌∙◌}
use mathlib.Core.List.{List, [], ◌++◌}
use Prim.Native.Nat.{ℕ, zero, suc, ◌+◌, ◌-◌, ◌*◌, ◌≤◌, ◌<◌}
use native.Mathlib.Omega.{arith}
use lib.ListN.{length, take, drop, replicate, length-append, length-replicate}
use lib.Seq.{take_at}
use Rattle.rules_rates.specs.Plain.{LengthOf}
use Rattle.rules_calls.specs.declared.Written.{Written}
use Rattle.rules_calls.specs.declared.Record.{Record}
use Rattle.rules_chips.specs.Chips.{hard_recording}
use Rattle.rules_frame.specs.Frame.{kind_of}
use Rattle.rules_coming.specs.declared.Coming.{Coming}
use Rattle.rules_coming.specs.Coming.{front_reading, coming_of, part_of}
use Rattle.promises.specs.Calls.{
  ReadHard,
  ReadFront,
  Handed,
  to_read_front,
  to_hand,
  good,
  refused_at,
  refused,
  shown,
  Sent,
}
use Rattle.promises.specs.Coming.{
  refused_coming,
  told_coming,
  FrontOf,
  ComesTo,
  comes_good,
  comes_9,
  comes_10,
}
use Rattle.promises.proofs.Coming.{long_front, short_front}
use Rattle.promises.proofs.Kept.{kept}
use Rattle.promises.proofs.Uses.{goes_kind, goes_1}

-- ---- there is an answer for every kind and recording, and a part for every record and recording: with one answer
-- only, both contracts are their definitions
pub front_answered : (kind : ℕ) (chips : List ℕ)
    → ReadFront kind chips (coming_of (kind_of kind) (front_reading kind (hard_recording chips)))
front_answered kind chips = record { answer = refl }

pub part_handed : (c : Coming) (chips : List ℕ) → Handed c chips (part_of c.at c.count chips)
part_handed c chips = record { chips_are = refl }

pub part_within : (c : Coming) (chips part : List ℕ) → Handed c chips part → c.at + c.count ≤ length chips
    → part ≡ take c.count (drop c.at chips)
part_within c chips part f = (kept.handed_part c chips part f).0

pub part_beyond : (c : Coming) (chips part : List ℕ) → Handed c chips part → length chips < c.at + c.count
    → part ≡ []
part_beyond c chips part f = (kept.handed_part c chips part f).1

-- ---- one recording, asked what is coming
module _ (kind : ℕ) (chips : List ℕ) (c : Coming) (f : ReadFront kind chips c) where
  pub told_once : (c' : Coming) → ReadFront kind chips c' → c ≡ c'
  told_once c' g = kept.one_answer (to_read_front kind chips) c c' f g

  pub handed_once : (part part' : List ℕ) → Handed c chips part → Handed c chips part' → part ≡ part'
  handed_once part part' h h' = kept.one_answer (to_hand c chips) part part' h h'

  -- refused: nothing else is shown, and the part is empty
  module _ (m : ℕ) (e : c.number ≡ suc m) where
    not_0 : c.number ≡ 0 → ⊥
    not_0 z = omega (arith, z, e)

    pub refused_shows_nothing : (c.rate ≡ 0) × (c.clock ≡ 0) × (c.n ≡ 0) × (c.used ≡ 0)
        × (c.at ≡ 0) × (c.count ≡ 0)
    refused_shows_nothing =
        let o = (kept.front_refused kind chips c f not_0).only in (
          ap (λ (v : Coming). v.rate) o,
          ap (λ (v : Coming). v.clock) o,
          ap (λ (v : Coming). v.n) o,
          ap (λ (v : Coming). v.used) o,
          ap (λ (v : Coming). v.at) o,
          ap (λ (v : Coming). v.count) o,
        )

    pub refused_part : (part : List ℕ) → Handed c chips part → part ≡ []
    refused_part = (kept.front_refused kind chips c f not_0).no_part

    pub refused_long : kind ≡ 0 → (8 ≤ c.number) × (c.number ≤ 16) × (c.place < 2112)
    refused_long z =
        let x : FrontOf kind 2112 = subst (λ (i : ℕ). FrontOf i 2112) (sym z) long_front in
        let r = kept.front_refused kind chips c f not_0 in
        (r.from_8 2112 x, r.to_16, r.in_front 2112 x)

    pub refused_short : kind ≡ 1 → (8 ≤ c.number) × (c.place < 1056)
    refused_short z =
        let x : FrontOf kind 1056 = subst (λ (i : ℕ). FrontOf i 1056) (sym z) short_front in
        let r = kept.front_refused kind chips c f not_0 in
        (r.from_8 1056 x, r.in_front 1056 x)

    -- the full reader's refusal is the same, whatever the room
    pub reader_refuses : (room : ℕ) (a : Record) (left : List ℕ) → ReadHard kind chips room a left
        → a ≡ refused_at c.number c.place c.length
    reader_refuses room a left g = kept.refused_alike kind chips c room a left f g not_0

  -- not refused
  module _ (e : c.number ≡ 0) where
    pub told_numbers : (kind < 2) × (1 ≤ c.n) × (c.n ≤ 4095) × (c.clock < 2) × (c.place ≡ 0)
        × LengthOf c.rate c.n c.length × (c.used ≤ length chips)
    told_numbers =
        let t = kept.front_told kind chips c f e in (
          goes_kind t.goes,
          t.some,
          t.few,
          t.clock_is,
          ap (λ (v : Coming). v.place) t.only,
          t.length_is,
          t.there,
        )

    pub told_at_1 : c.rate ≡ 10
        → (kind ≡ 0) × (c.used ≡ 2112 + 88 * c.n) × (c.at ≡ 2112) × (c.count ≡ 88 * c.n)
        × ((part : List ℕ) → Handed c chips part → part ≡ take (c.used - 2112) (drop 2112 chips))
    told_at_1 ten =
        let t = kept.front_told kind chips c f e in
        let g = goes_1 t.goes ten in (
          g.0,
          rw (sym g.1, sym g.2) (ap (λ (v : Coming). v.used) t.only),
          ap (λ (v : Coming). v.at) t.only ∙ g.1,
          rw (sym g.2) (ap (λ (v : Coming). v.count) t.only),
          rw (sym g.1) t.part_is,
        )

    -- the full reader with room for just n: good with the same numbers, or 9 or 10 in the part; for one less: 17
    module _ (a : Record) (left : List ℕ) where
      pub reader_has_room : ReadHard kind chips c.n a left → ComesTo c a
      reader_has_room g = (kept.told_alike kind chips c c.n a left f g e).0 (omega arith)

      pub reader_lacks_room : (room : ℕ) → suc room ≡ c.n → ReadHard kind chips room a left
          → a ≡ refused 17 c.length
      reader_lacks_room room l g = (kept.told_alike kind chips c room a left f g e).1 (omega (arith, l))

      -- any room
      pub reader_has_more : (room : ℕ) → c.n ≤ room → ReadHard kind chips room a left → ComesTo c a
      reader_has_more room l g = (kept.told_alike kind chips c room a left f g e).0 l

      pub reader_has_less : (room : ℕ) → room < c.n → ReadHard kind chips room a left → a ≡ refused 17 c.length
      reader_has_less room l g = (kept.told_alike kind chips c room a left f g e).1 l

-- what such an answer is
pub comes_numbers : (c : Coming) (a : Record) → ComesTo c a → (a.number ≡ 0 → ⊥)
    → (a.length ≡ c.length) × (c.at ≤ a.place) × (a.place < c.used) × (9 ≤ a.number) × (a.number ≤ 10)
comes_numbers c a (comes_good lead symbol) z = absurd (z refl)
comes_numbers c a (comes_9 place h l) z = (refl, h, l, omega arith, omega arith)
comes_numbers c a (comes_10 place r h l) z = (refl, h, l, omega arith, omega arith)

pub comes_refused : (c : Coming) (a : Record) → ComesTo c a → (a.number ≡ 0 → ⊥)
    → (a ≡ refused_at a.number a.place c.length) × (a.number ≡ 10 → c.rate ≡ 10)
comes_refused c a (comes_good lead symbol) z = absurd (z refl)
comes_refused c a (comes_9 place h l) z = (refl, λ y. absurd (omega (arith, y)))
comes_refused c a (comes_10 place r h l) z = (refl, λ y. r)

pub comes_same : (c : Coming) (a : Record) → ComesTo c a → a.number ≡ 0
    → a ≡ good c.rate c.length c.n c.used c.clock a.lead a.symbol
comes_same c a (comes_good lead symbol) z = refl
comes_same c a (comes_9 place h l) z = absurd (omega (arith, z))
comes_same c a (comes_10 place r h l) z = absurd (omega (arith, z))

-- a kind that is none: 1, whatever the recording
pub kind_none : (kind : ℕ) (chips : List ℕ) (c : Coming) → 2 ≤ kind → ReadFront kind chips c → c ≡ refused_coming 1 0 0
kind_none kind chips c h f = by c.number refl
  where
    by : (m : ℕ) → c.number ≡ m → c ≡ refused_coming 1 0 0
    by zero e =
        let k : kind < 2 = goes_kind (kept.front_told kind chips c f e).goes in
        absurd (omega (arith, k, h))
    by (suc m) e =
        (kept.front_refused kind chips c f (λ z. omega (arith, z, e))).no_kind h

-- ---- two recordings with one front
module _ (begin tail tail' : List ℕ) (c c' : Coming) (h : length begin ≡ 1056)
    (f : ReadFront 1 (begin ++ tail) c) (f' : ReadFront 1 (begin ++ tail') c') where
  begins : take 1056 (begin ++ tail) ≡ take 1056 (begin ++ tail')
  begins = take_at begin tail 1056 h ∙ sym (take_at begin tail' 1056 h)

  pub told_alone : c.number ≡ 0 → c.used ≤ 1056 + length tail' → c' ≡ c
  told_alone z l =
      (kept.front_only 1 1056 (begin ++ tail) (begin ++ tail') c c' short_front begins f f').0 z
      (omega (arith, l, h, length-append begin tail'))

  pub refused_alone : (c.number ≡ 0 → ⊥) → (c.number ≡ 16 → ⊥) → c' ≡ c
  refused_alone z x =
      (kept.front_only 1 1056 (begin ++ tail) (begin ++ tail') c c' short_front begins f f').1 z (λ y. absurd (x y))

  pub cut_alone : c.number ≡ 16 → length tail' ≤ length tail → c' ≡ c
  cut_alone z l =
      (kept.front_only 1 1056 (begin ++ tail) (begin ++ tail') c c' short_front begins f f').1
      (λ y. omega (arith, y, z)) (λ y. omega (arith, l, length-append begin tail, length-append begin tail'))

pub long_alone : (chips chips' : List ℕ) (c c' : Coming) → take 2112 chips ≡ take 2112 chips' → ReadFront 0 chips c
    → ReadFront 0 chips' c'
    → (c.number ≡ 0 → c.used ≤ length chips' → c' ≡ c)
    × ((c.number ≡ 0 → ⊥) → (c.number ≡ 16 → length chips' ≤ length chips) → c' ≡ c)
long_alone chips chips' c c' e f f' = kept.front_only 0 2112 chips chips' c c' long_front e f f'

-- ---- a frame that was written, its payload's chips all unusable, and without them
module _ (kind rate phase clock : ℕ) (payload : List ℕ) (w : Written) (chips : List ℕ)
    (s : Sent kind rate phase clock payload w chips) (l : ℕ) (d : LengthOf rate (length payload) l) (c : Coming) where
  abbrev count : ℕ
  count = s.sendable.octet * length payload

  pub payload_lost : ReadFront kind (take s.sendable.front chips ++ replicate count 9) c
      → (c ≡ told_coming rate l (shown clock) (length payload) s.sendable.front count)
      × ((part : List ℕ) → Handed c (take s.sendable.front chips ++ replicate count 9) part
      → part ≡ take count (replicate count 9))
  payload_lost f =
      (kept.sent_told_lem kind rate phase clock payload w chips s l d (replicate count 9) c f).0
      (omega (arith, length-replicate {A = ℕ} count 9))

  module _ (tail : List ℕ) (f : ReadFront kind (take s.sendable.front chips ++ tail) c) where
    -- with chips after it: they are not in the part
    pub payload_followed : count ≤ length tail
        → (c.number ≡ 0)
        × ((part : List ℕ) → Handed c (take s.sendable.front chips ++ tail) part → part ≡ take count tail)
    payload_followed h =
        let o = (kept.sent_told_lem kind rate phase clock payload w chips s l d tail c f).0 h in
        (ap (λ (v : Coming). v.number) o.0, o.1)

    -- by one chip or by more
    pub payload_cut : length tail < count → c ≡ refused_coming 16 0 l
    payload_cut h = (kept.sent_told_lem kind rate phase clock payload w chips s l d tail c f).1 h
