-- What is coming, and the full reader's answer to the same recording: both follow one front (`reads_on`). Each
-- statement by the cases of what that front tells. Assumes nothing.
use mathlib.Core.Path.{◌≡◌, refl, sym, ap, ◌∙◌, subst}
use mathlib.Core.Bool.{true}
use mathlib.Core.List.{List, []}
use Rattle.std.specs.Prelude.{Option, None, Some, Result, Ok, Err}
use Prim.Native.Nat.{ℕ, ◌-◌, ◌≤◌, ◌<◌}
use native.Mathlib.Decide.{dec_le}
use native.Mathlib.Omega.{arith}
use borrow.Author.Tests.{le-ltb}
use lib.Dec.{T}
use lib.ListN.{length, take}
use Rattle.rules_rates.specs.Rates.{code_of, octet_chips}
use Rattle.rules_chips.specs.Chips.{Taken, hard_recording}
use Rattle.rules_chips.proofs.Recorders.{length_hard, take_hard}
use Rattle.rules_frame.specs.declared.Kind.{Kind}
use Rattle.rules_frame.specs.Frame.{is_kind, kind_of, clock_bit, front_chips, frame_chips}
use Rattle.rules_frame.proofs.Headers.{clock_lt}
use Rattle.rules_calls.specs.declared.Refusal.{Refusal}
use Rattle.rules_calls.specs.declared.Told.{Told}
use Rattle.rules_calls.specs.declared.Reading.{Reading}
use Rattle.rules_calls.specs.declared.Record.{Record}
use Rattle.rules_calls.specs.Answers.{refusal_place, record_of}
use Rattle.rules_calls.specs.Headers.{ours}
use Rattle.rules_calls.proofs.AnswerFacts.{some_number}
use Rattle.rules_reading.specs.Reading.{front_of, payload_odd, payload_reading, after_front}
use Rattle.rules_reading.proofs.Payloads.{found_unusable, room_refused, unusable_refused, odd_refused, payload_good}
use Rattle.rules_reading.proofs.Telling.{TellingWhole}
use Rattle.rules_reading.proofs.Refusals.{whole_number}
use Rattle.rules_reading.proofs.Places.{whole_place, payload_unusable_place, payload_odd_place, payload_odd_rate}
use Rattle.rules_reading.proofs.Local.{front_same}
use Rattle.rules_coming.specs.declared.Coming.{Coming}
use Rattle.rules_coming.specs.Coming.{front_reading, coming_of}
use Rattle.rules_coming.proofs.Laws.{
  ComingRefusal,
  kind_is_none,
  of_front,
  reads_on,
  ComesIf,
  coming_comes,
  coming_refused,
  coming_told,
  coming_ends,
  part_there,
  part_none,
}
use Rattle.promises.specs.Calls.{
  ReadHard,
  ReadFront,
  Handed,
  refused_at,
  refused,
  long_1,
  long_2,
  long_5,
  long_11,
  short_2,
  short_5,
  short_11,
}
use Rattle.promises.specs.Coming.{
  FrontOf,
  front_at,
  WhenRefused,
  FrontRefused,
  RefusedAlike,
  WhenTold,
  FrontTold,
  ComesTo,
  comes_good,
  comes_9,
  comes_10,
  ToldAlike,
  FrontOnly,
  HandedPart,
}
use Rattle.promises.proofs.Only.{goes, length_told}

-- a kind's front, in the definition's words; it has one
pub front_of_lem : {kind front : ℕ} → FrontOf kind front → (is_kind kind ≡ true) × (front_chips (kind_of kind) ≡ front)
front_of_lem (front_at long_1) = (refl, refl)
front_of_lem (front_at long_2) = (refl, refl)
front_of_lem (front_at long_5) = (refl, refl)
front_of_lem (front_at long_11) = (refl, refl)
front_of_lem (front_at short_2) = (refl, refl)
front_of_lem (front_at short_5) = (refl, refl)
front_of_lem (front_at short_11) = (refl, refl)

pub one_front : {kind front front' : ℕ} → FrontOf kind front → FrontOf kind front' → front ≡ front'
one_front x y = sym (front_of_lem x).1 ∙ (front_of_lem y).1

pub long_front : FrontOf 0 2112
long_front = front_at long_1

pub short_front : FrontOf 1 1056
short_front = front_at short_2

module _ (kind : ℕ) (chips : List ℕ) where
  abbrev k : Kind
  k = kind_of kind

  abbrev rec : List Taken
  rec = hard_recording chips

  -- ---- refused
  empty_part : (e : Refusal) (part : List ℕ) → Handed (coming_of k (Err e)) chips part → part ≡ []
  empty_part e part h = h.chips_are ∙ part_there 0 0 chips (omega arith)

  nothing_comes : {e : Refusal} → ComingRefusal kind rec e → WhenRefused kind chips (coming_of k (Err e))
  nothing_comes {e} (kind_is_none b) = record {
    only = refl;
    no_kind = λ h. refl;
    from_8 = λ f x. absurd (subst T (sym (front_of_lem x).0 ∙ b) tt);
    to_16 = omega arith;
    in_front = λ f x. absurd (subst T (sym (front_of_lem x).0 ∙ b) tt);
    no_part = empty_part e;
  }
  nothing_comes {e} (of_front b w) = record {
    only = refl;
    no_kind = λ h. absurd (subst T (sym b ∙ le-ltb kind 2 h) tt);
    from_8 = λ f x. (whole_number w).0;
    to_16 = (whole_number w).1;
    in_front = λ f x. subst (λ (m : ℕ). refusal_place e < m) (front_of_lem x).1 (whole_place k rec w);
    no_part = empty_part e;
  }

  refused_front : (g : Result Told Refusal) → ComesIf kind rec g → ((coming_of k g).number ≡ 0 → ⊥)
      → WhenRefused kind chips (coming_of k g)
  refused_front (Err e) h z = nothing_comes h
  refused_front (Ok t) h z = absurd (z refl)

  alike : (room : ℕ) (g : Result Told Refusal) → ((coming_of k g).number ≡ 0 → ⊥)
      → record_of (after_front k rec room g)
      ≡ refused_at (coming_of k g).number (coming_of k g).place (coming_of k g).length
  alike room (Err e) z = refl
  alike room (Ok t) z = absurd (z refl)

  -- ---- told
  something_comes : (t : Told) → is_kind kind ≡ true → TellingWhole k rec t
      → WhenTold kind chips (coming_of k (Ok t))
  something_comes t b h =
      let r = t.rate in
      let all = frame_chips k r t.n in
      let enough : all ≤ length chips = subst (λ (m : ℕ). all ≤ m) (length_hard chips) h.there in
      record {
        front = front_chips k;
        octet = octet_chips r;
        goes = goes kind r b h.telling.goes;
        some = h.telling.some_octets;
        few = h.telling.few;
        clock_is = clock_lt t.clock;
        length_is = length_told h.telling;
        only =
            ap {B = Coming}
            (λ m. record {
              number = 0;
              place = 0;
              rate = code_of r;
              length = t.length;
              clock = clock_bit t.clock;
              n = t.n;
              used = all;
              at = front_chips k;
              count = m;
            })
            (omega arith);
        there = enough;
        part_is =
            λ part f. f.chips_are ∙ part_there (front_chips k) (all - front_chips k) chips (omega (arith, enough));
      }

  told_front : (g : Result Told Refusal) → ComesIf kind rec g → (coming_of k g).number ≡ 0 → WhenTold kind chips (coming_of k g)
  told_front (Err e) h z = absurd (some_number e z)
  told_front (Ok t) h z = something_comes t h.0 h.1

  comes : (t : Told) (room : ℕ) → t.n ≤ room
      → ComesTo (coming_of k (Ok t)) (record_of (payload_reading k t rec room))
  comes t room h = by (found_unusable k t rec) refl (payload_odd k t.rate t.n rec) refl
    where
      to : (g : Result Reading Refusal) → payload_reading (kind_of kind) t (hard_recording chips) room ≡ g
          → ComesTo (coming_of (kind_of kind) (Ok t)) (record_of g)
          → ComesTo (coming_of (kind_of kind) (Ok t))
          (record_of (payload_reading (kind_of kind) t (hard_recording chips) room))
      to g e = subst (λ (x : Result Reading Refusal). ComesTo (coming_of (kind_of kind) (Ok t)) (record_of x)) (sym e)

      by : (o : Option ℕ) → found_unusable k t rec ≡ o → (q : Option ℕ) → payload_odd k t.rate t.n rec ≡ q
          → ComesTo (coming_of k (Ok t)) (record_of (payload_reading k t rec room))
      by (Some p) e q d =
          let w = payload_unusable_place k rec p t e in
          to _ (unusable_refused k t rec room p h e) (comes_9 p w.0 w.1)
      by None e (Some p) d =
          let w = payload_odd_place k rec p t d in
          to _ (odd_refused k t rec room p h e d) (comes_10 p (ap code_of (payload_odd_rate k rec p t d)) w.0 w.1)
      by None e None d = to _ (payload_good k t rec room h e d) (comes_good _ _)

  alike_told : (room : ℕ) (g : Result Told Refusal) → (coming_of k g).number ≡ 0
      → ((coming_of k g).n ≤ room → ComesTo (coming_of k g) (record_of (after_front k rec room g)))
      × (room < (coming_of k g).n → record_of (after_front k rec room g) ≡ refused 17 (coming_of k g).length)
  alike_told room (Err e) z = absurd (some_number e z)
  alike_told room (Ok t) z = (comes t room, λ h. ap record_of (room_refused k t rec room h))

  -- the full reader goes on from the front
  pub goes_on : (room : ℕ) (a : Record) (left : List ℕ) → ReadHard kind chips room a left
      → a ≡ record_of (after_front k rec room (front_reading kind rec))
  goes_on room a left f = f.answer ∙ ap record_of (reads_on kind rec room)

  number_of : (c : Coming) → ReadFront kind chips c → (coming_of k (front_reading kind rec)).number ≡ c.number
  number_of c f = ap (λ (v : Coming). v.number) (sym f.answer)

pub front_refused : FrontRefused
front_refused kind chips c f z =
    let rec = hard_recording chips in
    subst (WhenRefused kind chips) (sym f.answer)
    (refused_front kind chips (front_reading kind rec) (coming_comes kind rec)
    (λ y. z (sym (number_of kind chips c f) ∙ y)))

pub refused_alike : RefusedAlike
refused_alike kind chips c room a left f g z =
    subst (λ (v : Coming). a ≡ refused_at v.number v.place v.length) (sym f.answer)
    (goes_on kind chips room a left g
    ∙ alike kind chips room (front_reading kind (hard_recording chips)) (λ y. z (sym (number_of kind chips c f) ∙ y)))

pub front_told : FrontTold
front_told kind chips c f z =
    let rec = hard_recording chips in
    subst (WhenTold kind chips) (sym f.answer)
    (told_front kind chips (front_reading kind rec) (coming_comes kind rec) (number_of kind chips c f ∙ z))

pub told_alike : ToldAlike
told_alike kind chips c room a left f g z =
    subst (λ (v : Coming). (v.n ≤ room → ComesTo v a) × (room < v.n → a ≡ refused 17 v.length)) (sym f.answer)
    (subst (λ (x : Record). (told.n ≤ room → ComesTo told x) × (room < told.n → x ≡ refused 17 told.length))
    (sym (goes_on kind chips room a left g))
    (alike_told kind chips room (front_reading kind (hard_recording chips)) (number_of kind chips c f ∙ z)))
  where
    told : Coming
    told = coming_of (kind_of kind) (front_reading kind (hard_recording chips))

-- ---- the front only
module _ (kind front : ℕ) (chips chips' : List ℕ) (c c' : Coming) (x : FrontOf kind front)
    (e : take front chips ≡ take front chips') (f : ReadFront kind chips c) (f' : ReadFront kind chips' c') where
  abbrev kk : Kind
  kk = kind_of kind

  abbrev one : List Taken
  one = hard_recording chips

  abbrev other : List Taken
  other = hard_recording chips'

  begin_alike : take (front_chips kk) one ≡ take (front_chips kk) other
  begin_alike =
      take_hard (front_chips kk) chips
      ∙ ap hard_recording (subst (λ (m : ℕ). take m chips ≡ take m chips') (sym (front_of_lem x).1) e)
      ∙ sym (take_hard (front_chips kk) chips')

  abbrev Same : Coming → Coming → Type 0
  Same d d' =
      (d.number ≡ 0 → d.used ≤ length chips' → d' ≡ d)
      × ((d.number ≡ 0 → ⊥) → (d.number ≡ 16 → length chips' ≤ length chips) → d' ≡ d)

  -- each told or refused by its length
  by_told : (t : Told) → front_of kk one ≡ Ok t → front_of kk other ≡ Ok t
      → Dec (frame_chips kk t.rate t.n ≤ length one) → Dec (frame_chips kk t.rate t.n ≤ length other)
      → Same (coming_of kk (front_reading kind one)) (coming_of kk (front_reading kind other))
  by_told t a b (yes p) (yes q) =
      rw (coming_told kind one (front_of_lem x).0 t a p, coming_told kind other (front_of_lem x).0 t b q)
      ((λ z l. refl), λ z l. refl)
  by_told t a b (yes p) (no q) =
      rw (coming_told kind one (front_of_lem x).0 t a p)
      ((λ z l. absurd (q (omega (arith, l, length_hard chips')))), λ z l. absurd (z refl))
  by_told t a b (no p) (yes q) =
      rw (coming_ends kind one (front_of_lem x).0 t a (omega (arith, p))) (
        (λ z l. absurd (omega (arith, z))),
        λ z l. absurd (p (omega (arith, q, l refl, length_hard chips, length_hard chips'))),
      )
  by_told t a b (no p) (no q) =
      rw (
        coming_ends kind one (front_of_lem x).0 t a (omega (arith, p)),
        coming_ends kind other (front_of_lem x).0 t b (omega (arith, q)),
      )
      ((λ z l. refl), λ z l. refl)

  by_front : (g : Result Told Refusal) → front_of kk one ≡ g → front_of kk other ≡ g
      → Same (coming_of kk (front_reading kind one)) (coming_of kk (front_reading kind other))
  by_front (Err r) a b =
      rw (coming_refused kind one (front_of_lem x).0 r a, coming_refused kind other (front_of_lem x).0 r b)
      ((λ z l. refl), λ z l. refl)
  by_front (Ok t) a b =
      by_told t a b (dec_le (frame_chips kk t.rate t.n) (length one))
      (dec_le (frame_chips kk t.rate t.n) (length other))

  same_coming : Same c c'
  same_coming =
      rw (f.answer, f'.answer)
      (by_front (front_of kk one) refl (sym (front_same kk one other begin_alike ours)))

pub front_only : FrontOnly
front_only kind front chips chips' c c' x e f f' = same_coming kind front chips chips' c c' x e f f'

-- ---- parts
pub handed_part : HandedPart
handed_part c chips part f = (
  (λ h. f.chips_are ∙ part_there c.at c.count chips h),
  λ h. f.chips_are ∙ part_none c.at c.count chips h,
)
