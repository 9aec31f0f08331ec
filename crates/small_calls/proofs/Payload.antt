-- What a front that told comes to: 16, 17, then 9 and 10 over the payload.
--     odd_room                                     a symbol found odd in a payload has the one before it, and all its
--                                                  chips
--     payload_usable, odd_usable                   where 9 finds nothing, chips are usable
--     unusable_is, odd_is                          what the code searches is what reading does
--     shown_unusable, shown_odd, shown_good        9, 10 and a good read
--     shown_ends, shown_room, shown_behind         16, 17, and what is behind them
--     few_octets                                   a front tells of at most 4,095 octets
-- Assumes nothing.
use mathlib.Core.Path.{◌≡◌, refl, ap, ap₂, subst, ◌∙◌}
use mathlib.Core.Bool.{false}
use mathlib.Core.List.{List}
use Rattle.std.specs.Prelude.{Option, None, Some, Ok}
use Prim.Native.Nat.{ℕ, ◌+◌, ◌-◌, ◌*◌, ◌/◌, ◌≤◌, ◌<◌}
use native.Mathlib.Decide.{dec_lt}
use native.Mathlib.Omega.{arith}
use borrow.Author.Tests.{lt-ltb, le-ltb}
use lib.IntN.{pos}
use lib.ListN.{length, get_or, take, drop}
use Rattle.rules_rates.specs.declared.Rate.{Rate}
use Rattle.rules_rates.specs.declared.Rate.TheVariants.{One, Two, Five, Eleven}
use Rattle.rules_rates.specs.Rates.{symbol_chips, symbol_bits, octet_chips}
use Rattle.rules_rates.proofs.Lengths.{octets_back}
use Rattle.rules_chips.specs.Chips.{Taken, unusable, is_unusable, hard_recording}
use Rattle.rules_chips.proofs.Recorders.{length_hard}
use Rattle.rules_bits.specs.Growths.{growths_of}
use Rattle.rules_bits.proofs.Heard.{growths_of_length}
use Rattle.rules_frame.specs.declared.Kind.{Kind}
use Rattle.rules_frame.specs.declared.Kind.TheVariants.{Long, Short}
use Rattle.rules_frame.specs.Frame.{front_chips, frame_chips}
use Rattle.rules_calls.specs.declared.Told.{Told}
use Rattle.rules_calls.specs.Headers.{ours}
use Rattle.rules_calls.proofs.Accepting.{Tells}
use Rattle.rules_reading.specs.Heard.{signal_heard, service_heard, length_heard}
use Rattle.rules_reading.specs.Reading.{
  first_unusable,
  odd_growth,
  decided_words,
  payload_phase,
  payload_words,
  payload_odd,
  front_of,
  payload_reading,
}
use Rattle.rules_reading.proofs.First.{no_place, odd_first}
use Rattle.rules_reading.proofs.Payloads.{found_unusable, room_refused, unusable_refused, odd_refused, payload_good}
use Rattle.rules_reading.proofs.Places.{decided_words_length, payload_unusable_place, payload_odd_place}
use Rattle.rules_reading.proofs.Refusals.{FrontIf, front_refuses}
use Rattle.rules_why.specs.declared.Reason.{Reason}
use Rattle.rules_why.specs.Why.{growth_at, octets_said, reason, reason_of}
use Rattle.choose_recorded.specs.Recorded.{AllUsable}
use Rattle.choose_recorded.proofs.Search.{none_usable}
use Rattle.hear_parts.specs.Hearing.{part_words}
use Rattle.small_calls.specs.Why.{after_told}

-- ---- places
-- the chips of a symbol that is found odd are all there
odd_ends : (r : Rate) (at p m q : ℕ) (cs : List Taken)
    → odd_growth r at (growths_of r p (decided_words r m cs)) ≡ Some q → q + 11 ≤ at + symbol_chips r * m
odd_ends One at p m q cs e =
    let ws = decided_words One m cs in
    let f = odd_first at (growths_of One p ws) q e in
    let size : length (growths_of One p ws) ≡ m = growths_of_length One p ws ∙ decided_words_length One m cs in
    omega (arith, f.place_is, f.inside)
odd_ends Two at p m q cs e = absurd (no_place refl e)
odd_ends Five at p m q cs e = absurd (no_place refl e)
odd_ends Eleven at p m q cs e = absurd (no_place refl e)

symbols_fit : (r : Rate) (n : ℕ) → symbol_chips r * (8 * n / symbol_bits r) ≤ octet_chips r * n
symbols_fit One n = omega arith
symbols_fit Two n = omega arith
symbols_fit Five n = omega arith
symbols_fit Eleven n = omega arith

front_some : (k : Kind) → 11 ≤ front_chips k
front_some Long = omega arith
front_some Short = omega arith

module _ (k : Kind) (chips : List ℕ) (t : Told) where
  abbrev rec : List Taken
  rec = hard_recording chips

  abbrev all : ℕ
  all = frame_chips k t.rate t.n

  module _ (there : all ≤ length chips) (p : ℕ) where
    pub odd_room : payload_odd k t.rate t.n rec ≡ Some p → (11 ≤ p) × (p + 11 ≤ length chips)
    unfolding payload_odd payload_words
    odd_room e =
        let ends = odd_ends t.rate (front_chips k) (payload_phase k rec) (8 * t.n / symbol_bits t.rate) p
        (drop (front_chips k) rec) e in
        let from = payload_odd_place k rec p t e in (
          omega (arith, from.0, front_some k),
          omega (arith, ends, symbols_fit t.rate t.n, there),
        )

    pub unusable_there : found_unusable k t rec ≡ Some p → p < length chips
    unusable_there e = omega (arith, (payload_unusable_place k rec p t e).1, there)

  -- where 9 finds nothing the payload's chips are usable, and then those of two symbols across its beginning too
  module _ (there : all ≤ length chips) (None-found : found_unusable k t rec ≡ None) where
    pub payload_usable : AllUsable rec (front_chips k) (octet_chips t.rate * t.n)
    payload_usable =
        let part : all - front_chips k ≡ octet_chips t.rate * t.n = omega arith in
        none_usable rec (front_chips k) (octet_chips t.rate * t.n) (omega (arith, there, length_hard chips))
        (rw (← part) None-found)

    pub odd_usable : (p : ℕ) → payload_odd k t.rate t.n rec ≡ Some p → AllUsable rec 0 (front_chips k)
        → AllUsable rec (p - 11) 22
    unfolding payload_odd payload_words
    odd_usable p e u =
        let ends = odd_ends t.rate (front_chips k) (payload_phase k rec) (8 * t.n / symbol_bits t.rate) p
        (drop (front_chips k) rec) e in
        let from = payload_odd_place k rec p t e in
        let fit : p + 11 ≤ front_chips k + octet_chips t.rate * t.n =
        omega (arith, ends, symbols_fit t.rate t.n) in
        record {
          each = λ j l.
              by (p - 11 + j) (omega (arith, fit, l, from.0, front_some k)) (dec_lt (p - 11 + j) (front_chips k));
        }
      where
        Usable : ℕ → Type 0
        Usable q = is_unusable (get_or rec q unusable) ≡ false

        by : (q : ℕ) → q < front_chips k + octet_chips t.rate * t.n → Dec (q < front_chips k) → Usable q
        by q l (yes m) = let z : 0 + q ≡ q = omega arith in subst Usable z (u.each q m)
        by q l (no m) =
            let z : front_chips k + (q - front_chips k) ≡ q = omega (arith, m) in
            subst Usable z (payload_usable.each (q - front_chips k) (omega (arith, l, m)))

  -- ---- what is searched
  pub unusable_is : {from to : ℕ} (f : Option ℕ) → from ≡ front_chips k → to ≡ all
      → f ≡ first_unusable from (take (to - from) (drop from rec)) → f ≡ found_unusable k t rec
  unusable_is f a b c = c ∙ ap₂ (λ x y. first_unusable x (take (y - x) (drop x rec))) a b

  pub odd_is : {from phase : ℕ} (o : Option ℕ) → from ≡ front_chips k → phase ≡ payload_phase k rec
      → o ≡ odd_growth t.rate from (growths_of t.rate phase (part_words t.rate from t.n rec))
      → o ≡ payload_odd k t.rate t.n rec
  unfolding payload_odd payload_words
  odd_is o a b c =
      c ∙ ap₂ (λ x y. odd_growth t.rate x (growths_of t.rate y (part_words t.rate x t.n rec))) a b

  -- ---- what a front told
  module _ (told : front_of k rec ≡ Ok t) where
    tells : Tells ours k (signal_heard k rec) (service_heard k rec) (length_heard k rec) t
    tells = (subst (FrontIf k rec) told (front_refuses k rec)).tells

    pub few_octets : t.n ≤ 4095
    few_octets = tells.few

    octets_are : octets_said k rec ≡ pos t.n
    octets_are = rw (← tells.rate_is, tells.length_is, ← tells.seven_is) (octets_back t.rate t.n)

  -- ---- what is shown
  module _ (kind room : ℕ) where
    abbrev Shown : Reason → Type 0
    Shown r = r ≡ reason_of kind k chips rec room (payload_reading k t rec room)

    module _ (fits : t.n ≤ room) where
      pub shown_unusable : {r : Reason} (p : ℕ) → found_unusable k t rec ≡ Some p → r ≡ reason 9 p 0 (get_or chips p 0)
          → Shown r
      shown_unusable p e h = rw (unusable_refused k t rec room p fits e) h

      pub shown_odd : {r : Reason} (p : ℕ) {g : ℕ} → found_unusable k t rec ≡ None
          → payload_odd k t.rate t.n rec ≡ Some p → g ≡ growth_at p rec → r ≡ reason 10 p 0 g → Shown r
      shown_odd p e o g h = rw (odd_refused k t rec room p fits e o) (h ∙ ap (reason 10 p 0) g)

      pub shown_good : {r : Reason} → found_unusable k t rec ≡ None → payload_odd k t.rate t.n rec ≡ None
          → r ≡ reason 0 0 0 0 → Shown r
      shown_good e o h = rw (payload_good k t rec room fits e o) h

    -- ---- 16 and 17 before it
    abbrev ShownAfter : Reason → Type 0
    ShownAfter r = r ≡ after_told kind k chips room (Ok t)

    module _ (told : front_of k rec ≡ Ok t) where
      pub shown_ends : {r : Reason} {a : ℕ} → a ≡ all → length chips < a → r ≡ reason 16 0 a (length chips)
          → ShownAfter r
      shown_ends {a = a} e l h =
          let short : length rec < all = omega (arith, e, l, length_hard chips) in
          rw (lt-ltb (length rec) all short, octets_are told, ← (tells told).rate_is)
          (h ∙ ap (λ (c : ℕ). reason 16 0 c (length chips)) e)

      pub shown_room : {r : Reason} → all ≤ length chips → room < t.n → r ≡ reason 17 0 t.n room → ShownAfter r
      shown_room l m h =
          let long : all ≤ length rec = omega (arith, l, length_hard chips) in
          rw (le-ltb (length rec) all long, room_refused k t rec room m, octets_are told) h

      pub shown_behind : {r : Reason} → all ≤ length chips → Shown r → ShownAfter r
      shown_behind l h =
          let long : all ≤ length rec = omega (arith, l, length_hard chips) in
          rw (le-ltb (length rec) all long) h
