-- What a front that was heard shows, and the whole.
--     odd_front                      a symbol found odd in a front has the one before it, and all its chips
--     front_odd_lem, front_header        10 over the front, and 11 to 15
--     why_no_kind, why_shorter, why_unusable, why_told    the whole: 1, 8, 9 over the front, and what a front comes to
-- Assumes nothing.
use Rattle.std.specs.Prelude.{Result, Ok, Err, Some}
use Rattle.rules_calls.specs.declared.Told.{Told}
use mathlib.Core.Path.{◌≡◌, refl, sym, ap, ap₂, subst, ◌∙◌}
use mathlib.Core.Bool.{true, false}
use mathlib.Core.List.{List}
use Prim.Native.Nat.{ℕ, ◌+◌, ◌-◌, ◌*◌, ◌≤◌}
use native.Mathlib.Omega.{arith}
use lib.ListN.{length, get_or}
use Rattle.rules_chips.specs.Chips.{Taken, hard_recording}
use Rattle.rules_chips.proofs.Recorders.{length_hard}
use Rattle.rules_frame.specs.declared.Kind.{Kind}
use Rattle.rules_frame.specs.declared.Kind.TheVariants.{Long, Short}
use Rattle.rules_frame.specs.Frame.{is_kind, kind_of, front_chips}
use Rattle.rules_calls.specs.declared.Refusal.{Refusal}
use Rattle.rules_calls.specs.declared.Refusal.TheVariants.{
  ShorterThanFront,
  Unusable,
  OddGrowth,
  Sfd,
  Crc,
  Signal,
  Service,
  Length,
}
use Rattle.rules_calls.specs.Answers.{refusal_number, refusal_place}
use Rattle.rules_calls.specs.Headers.{ours, header_of}
use Rattle.rules_calls.proofs.Accepting.{
  signal_out,
  service_out,
  length_out,
  fields_told,
  HeaderComes,
  sfd_other,
  crc_other,
  fields_behind,
  header_comes,
}
use Rattle.rules_reading.specs.Heard.{sfd_heard, header_heard, length_heard}
use Rattle.rules_reading.specs.Reading.{front_odd, front_of, reading_of}
use Rattle.rules_reading.proofs.FirstPlaces.{ones_of, front_odd_first, front_odd_at}
use Rattle.rules_reading.proofs.Telling.{found_or_none}
use Rattle.rules_why.specs.declared.Reason.{Reason}
use Rattle.rules_why.specs.Why.{growth_at, reason, shown_of, reason_of, why_of}
use Rattle.choose_recorded.specs.Recorded.{AllUsable}
use Rattle.choose_recorded.proofs.Search.{usable_part}
use Rattle.read_fronts.specs.Openings.{after_usable}
use Rattle.small_calls.specs.Why.{header_row, header_shown, after_told}

ones_fit : (k : Kind) → 11 * ones_of k ≤ front_chips k
ones_fit Long = omega arith
ones_fit Short = omega arith

module _ (kind : ℕ) (k : Kind) (chips : List ℕ) (room : ℕ) where
  abbrev rec : List Taken
  rec = hard_recording chips

  abbrev sfd : List ℕ
  sfd = sfd_heard k rec

  abbrev header : List ℕ
  header = header_heard k rec

  -- what is known of a refusal of a front of usable chips: of 10 its place, and of the others that the SFD and the
  -- header show their row
  data Shows : Refusal → Type 0 where
    at_odd : (p l : ℕ) → 11 ≤ p → p + 11 ≤ front_chips k → Shows (OddGrowth p l)
    in_header_lem : {e : Refusal} → (refusal_number e ≡ 10 → ⊥)
        → (header_row k sfd header e).0 ≡ (shown_of kind k chips rec room e).0
        → (header_row k sfd header e).1 ≡ (shown_of kind k chips rec room e).1 → Shows e

  abbrev ShownIf : Result Told Refusal → Type 0
  ShownIf (Err e) = Shows e
  ShownIf (Ok t) = Unit {0}

  header_shown_lem : ShownIf (header_of ours k sfd header)
  header_shown_lem = go (header_comes ours k sfd header)
    where
      go : {f : Result Told Refusal} → HeaderComes ours k sfd header f → ShownIf f
      go (sfd_other s) = in_header_lem {e = Sfd} (λ n. omega arith) refl refl
      go (crc_other s c) = in_header_lem {e = Crc} (λ n. omega arith) refl refl
      go (fields_behind s c (signal_out a)) =
          in_header_lem {e = Signal (length_heard k rec)} (λ n. omega arith) refl refl
      go (fields_behind s c (service_out a b)) =
          in_header_lem {e = Service (length_heard k rec)} (λ n. omega arith) refl refl
      go (fields_behind s c (length_out a b d)) =
          in_header_lem {e = Length (length_heard k rec)} (λ n. omega arith) refl refl
      go (fields_behind s c (fields_told t h)) = tt

  odd_shown : (p : ℕ) → front_odd k rec ≡ Some p → Shows (OddGrowth p 0)
  odd_shown p e =
      let f = front_odd_first rec k p e in
      let l = front_odd_at rec k p e in
      at_odd p 0 (omega (arith, f.place_is)) (omega (arith, f.place_is, l, ones_fit k))

  front_shown : ShownIf (after_usable ours k rec)
  front_shown =
      found_or_none ShownIf (front_odd k rec) (λ p. Err (OddGrowth p 0)) _ odd_shown (λ e. header_shown_lem)

  module _ (e : Refusal) (told : after_usable ours k rec ≡ Err e) where
    shown : Shows e
    shown = subst ShownIf told front_shown

    pub odd_front : (p l : ℕ) → e ≡ OddGrowth p l → front_chips k ≤ length rec → AllUsable rec 0 (front_chips k)
        → (11 ≤ p) × (p + 11 ≤ length chips) × AllUsable rec (p - 11) 22
    odd_front p l q h u = go shown q
      where
        go : {e : Refusal} → Shows e → e ≡ OddGrowth p l
            → (11 ≤ p) × (p + 11 ≤ length chips) × AllUsable rec (p - 11) 22
        go (at_odd p' l' a b) q =
            let s : p' ≡ p = ap refusal_place q in
            let z : 0 + (p - 11) ≡ p - 11 = omega arith in (
              omega arith,
              omega (arith, length_hard chips),
              subst (λ (at : ℕ). AllUsable rec at 22) z (usable_part (p - 11) 22 u (omega arith)),
            )
        go (in_header_lem n x y) q = absurd (n (ap refusal_number q))

    module _ (usable : front_of k rec ≡ after_usable ours k rec) where
      is : after_told kind k chips room (front_of k rec) ≡ reason_of kind k chips rec room (Err e)
      is = ap (after_told kind k chips room) (usable ∙ told)

      pub front_odd_lem : {r : Reason} (p l : ℕ) {g : ℕ} → e ≡ OddGrowth p l → g ≡ growth_at p rec
          → r ≡ reason 10 p 0 g → r ≡ after_told kind k chips room (front_of k rec)
      front_odd_lem p l q x h =
          h
          ∙ ap (reason 10 p 0) x
          ∙ sym (is ∙ ap (λ (d : Refusal). reason_of kind k chips rec room (Err d)) q)

      pub front_header : {r : Reason} {s h : List ℕ} → ((p l : ℕ) → e ≡ OddGrowth p l → ⊥) → s ≡ sfd → h ≡ header
          → r ≡ header_shown k s h e → r ≡ after_told kind k chips room (front_of k rec)
      front_header {r} {s} {h} other a b q =
          q ∙ ap₂ {C = Reason} (λ x y. header_shown k x y e) a b ∙ go shown other ∙ sym is
        where
          go : {e : Refusal} → Shows e → ((p l : ℕ) → e ≡ OddGrowth p l → ⊥)
              → header_shown k sfd header e ≡ reason_of kind k chips rec room (Err e)
          go (at_odd p l a b) n = absurd (n p l refl)
          go {e} (in_header_lem m x y) n = ap₂ {C = Reason} (reason (refusal_number e) (refusal_place e)) x y

-- ---- the whole
module _ (kind : ℕ) (chips : List ℕ) (room : ℕ) where
  abbrev all : List Taken
  all = hard_recording chips

  pub why_no_kind : {r : Reason} → is_kind kind ≡ false → r ≡ reason 1 0 0 kind → r ≡ why_of kind chips room
  unfolding why_of reading_of
  why_no_kind h q = rw h q

  module _ (k : Kind) (h : is_kind kind ≡ true) (e : k ≡ kind_of kind) where
    pub why_told : {r : Reason} → r ≡ after_told kind k chips room (front_of k all) → r ≡ why_of kind chips room
    unfolding why_of reading_of
    why_told q = rw (h, ← e) q

    pub why_shorter : {r : Reason} {n : ℕ} → front_of k all ≡ Err ShorterThanFront → n ≡ front_chips k
        → r ≡ reason 8 0 n (length chips) → r ≡ why_of kind chips room
    why_shorter f x q = why_told (q ∙ rw (f, x))

    pub why_unusable : {r : Reason} (p : ℕ) → front_of k all ≡ Err (Unusable p 0)
        → r ≡ reason 9 p 0 (get_or chips p 0) → r ≡ why_of kind chips room
    why_unusable p f q = why_told (q ∙ rw f)
