-- What the chips fed come to at close: the reading of all of them, by what the receiver holds.
--     reads_no_kind, reads_short, reads_refused     1, 8, and what the front is refused with
--     reads_ends, reads_room, reads_unusable, reads_odd, reads_good    16, 17, 9, 10, or good, once the front told
--     octets_good                                   what a good reading leaves in the buffer
--     yet_is                                        the buffer until close, once the front told
-- Assumes nothing.
use mathlib.Core.Path.{◌≡◌, sym, ap, ap₂, subst, ◌∙◌}
use mathlib.Core.Bool.{true, false}
use mathlib.Core.List.{List, ◌++◌}
use Rattle.std.specs.Prelude.{Option, None, Some, Result, Ok, Err}
use Prim.Native.Nat.{ℕ, ◌+◌, ◌-◌, ◌*◌, ◌/◌, ◌≤◌, ◌<◌}
use native.Mathlib.Omega.{arith}
use borrow.Author.Tests.{lt-ltb, le-ltb}
use lib.ListN.{length, take, drop, replicate, length-take, take-append-drop}
use lib.Seq.{length-take-le}
use Rattle.base.proofs.Lists.{drop_take}
use Rattle.rules_rates.specs.declared.Rate.{Rate}
use Rattle.rules_rates.specs.declared.Rate.TheVariants.{One, Two, Five, Eleven}
use Rattle.rules_rates.specs.Rates.{symbol_chips, symbol_bits, octet_chips}
use Rattle.rules_chips.proofs.Recorders.{length_hard, take_hard}
use Rattle.rules_chips.specs.Chips.{Taken, hard_recording}
use Rattle.rules_bits.specs.Growths.{growths_of}
use Rattle.rules_frame.specs.declared.Kind.{Kind}
use Rattle.rules_frame.specs.Frame.{is_kind, kind_of, front_chips, frame_chips}
use Rattle.rules_calls.specs.declared.Refusal.{Refusal}
use Rattle.rules_calls.specs.declared.Refusal.TheVariants.{
  NoKind,
  ShorterThanFront,
  Unusable,
  OddGrowth,
  Ends,
  OctetRoom,
}
use Rattle.rules_calls.specs.declared.Told.{Told}
use Rattle.rules_calls.specs.declared.Reading.{Reading}
use Rattle.rules_reading.specs.Leads.{frame_leads, least_of}
use Rattle.rules_reading.specs.Reading.{
  first_unusable,
  odd_growth,
  decided_words,
  payload_phase,
  front_by,
  front_of,
  payload_words,
  payload_odd,
  payload_of,
  whole_of,
  payload_reading,
  after_front,
  reading_of,
  octets_after,
  octets_found,
}
use Rattle.rules_reading.proofs.Payloads.{found_unusable, room_refused, unusable_refused, odd_refused, payload_good}
use Rattle.rules_receiving.specs.declared.Progress.{Progress}
use Rattle.rules_receiving.specs.Yet.{
  zeros,
  whole_symbols,
  whole_octets,
  unusable_yet,
  odd_yet,
  octets_yet,
  payload_yet,
  after_front_yet,
  buffer_yet,
}
use Rattle.rules_receiving.specs.Receivers.{PayloadComes}
use Rattle.rules_receiving.proofs.Prefix.{phase_prefix, front_prefix}
use Rattle.rules_receiving.proofs.Payload.{
  payload_words_prefix,
  payload_prefix,
  frame_leads_prefix,
}

-- the reading of hard chips
abbrev pub read_all : ℕ → List ℕ → ℕ → Result Reading Refusal
read_all kind fed room = reading_of kind true (hard_recording fed) room

-- a refusal leaves zeros
pub zeros_found : (kind room : ℕ) (fed : List ℕ) (e : Refusal) → read_all kind fed room ≡ Err e
    → octets_found kind true (hard_recording fed) room ≡ zeros room
unfolding octets_found
zeros_found kind room fed e h = ap (octets_after (kind_of kind) (hard_recording fed) room) h

pub reads_no_kind : (kind room : ℕ) (fed : List ℕ) → is_kind kind ≡ false
    → read_all kind fed room ≡ Err NoKind
unfolding reading_of
reads_no_kind kind room fed e = rw e

pub by_front : (kind room : ℕ) (fed : List ℕ) → is_kind kind ≡ true
    → read_all kind fed room
    ≡ after_front (kind_of kind) (hard_recording fed) room
    (whole_of (kind_of kind) (hard_recording fed) (front_of (kind_of kind) (hard_recording fed)))
unfolding reading_of
by_front kind room fed e = rw e

pub reads_refused : (kind room : ℕ) (fed : List ℕ) (e : Refusal) → is_kind kind ≡ true
    → front_of (kind_of kind) (hard_recording fed) ≡ Err e → read_all kind fed room ≡ Err e
reads_refused kind room fed e h f =
    by_front kind room fed h
    ∙ ap (λ (x : Result Told Refusal). after_front (kind_of kind) (hard_recording fed) room
    (whole_of (kind_of kind) (hard_recording fed) x)) f

pub short_front : (k : Kind) (rec : List Taken) → length rec < front_chips k
    → front_of k rec ≡ Err ShorterThanFront
unfolding front_by
short_front k rec h = rw (lt-ltb (length rec) (front_chips k) h)

pub reads_short : (kind room : ℕ) (fed : List ℕ) → is_kind kind ≡ true → length fed < front_chips (kind_of kind)
    → read_all kind fed room ≡ Err ShorterThanFront
reads_short kind room fed h l =
    reads_refused kind room fed ShorterThanFront h
    (short_front (kind_of kind) (hard_recording fed) (omega (arith, length_hard fed)))

-- whole symbols and octets of a whole payload
all_symbols_lem : (r : Rate) (n : ℕ) → octet_chips r * n / symbol_chips r ≡ 8 * n / symbol_bits r
all_symbols_lem One n = omega arith
all_symbols_lem Two n = omega arith
all_symbols_lem Five n = omega arith
all_symbols_lem Eleven n = omega arith

all_octets : (r : Rate) (n : ℕ) → octet_chips r * n / octet_chips r ≡ n
all_octets One n = omega arith
all_octets Two n = omega arith
all_octets Five n = omega arith
all_octets Eleven n = omega arith

module _
    (kind room : ℕ) (fed : List ℕ) (t : Told) (p : Progress) (hold buf : List ℕ) (is : is_kind kind ≡ true)
    (c : PayloadComes (kind_of kind) t (take (frame_chips (kind_of kind) t.rate t.n) fed) p hold buf) where
  abbrev k : Kind
  k = kind_of kind

  abbrev r : Rate
  r = t.rate

  abbrev all : ℕ
  all = frame_chips k t.rate t.n

  -- the chips fed, and those of the frame
  abbrev rec : List Taken
  rec = hard_recording fed

  abbrev cut : List Taken
  cut = hard_recording (take all fed)

  apart : cut ++ drop all rec ≡ rec
  apart = ap (λ (x : List Taken). x ++ drop all rec) (sym (take_hard all fed)) ∙ take-append-drop all rec

  from_cut : front_chips k ≤ length cut
  from_cut = omega (arith, c.from, length_hard (take all fed))

  told_all : front_of k rec ≡ Ok t
  told_all = subst (λ (x : List Taken). front_of k x ≡ Ok t) apart
      (front_prefix k cut (drop all rec) from_cut ∙ c.told)

  -- the buffer until close is by the chips of the frame
  pub yet_is : buffer_yet kind rec room ≡ payload_yet k t cut room
  yet_is =
      opened
      ∙ ap (after_front_yet k rec room) told_all
      ∙ ap (λ (x : List Taken). payload_yet k t x room) (take_hard all fed)
    where
      opened : buffer_yet kind rec room ≡ after_front_yet k rec room (front_of k rec)
      opened = unfold buffer_yet in rw is

  ends_whole : length rec < all → whole_of k rec (Ok t) ≡ Err (Ends t.length)
  ends_whole h = rw (lt-ltb (length rec) all h)

  there_whole : all ≤ length rec → whole_of k rec (Ok t) ≡ Ok t
  there_whole h = rw (le-ltb (length rec) all h)

  -- 16: too few chips were counted
  pub reads_ends : p.count < all → read_all kind fed room ≡ Err (Ends t.length)
  reads_ends h =
      let few : length rec < all = few_chips (lt c.count_is h) in
      by_front kind room fed is
      ∙ ap (λ (x : Result Told Refusal). after_front k rec room (whole_of k rec x)) told_all
      ∙ ap (after_front k rec room) (ends_whole few)
    where
      lt : {a b d : ℕ} → a ≡ b → a < d → b < d
      lt e h = omega arith

      few_chips : length (take all fed) < all → length rec < all
      few_chips h = omega (arith, length_hard fed, length-take all fed, h)

  module _ (enough : all ≤ p.count) where
    long : all ≤ length fed
    long = omega (arith, c.count_is, enough, length-take all fed)

    cut_long : length cut ≡ all
    cut_long = length_hard (take all fed) ∙ length-take-le all fed long

    by_payload : read_all kind fed room ≡ payload_reading k t rec room
    by_payload =
        by_front kind room fed is
        ∙ ap (λ (x : Result Told Refusal). after_front k rec room (whole_of k rec x)) told_all
        ∙ ap (after_front k rec room) (there_whole (omega (arith, long, length_hard fed)))

    found_is : found_unusable k t rec ≡ unusable_yet k cut
    found_is =
        ap (first_unusable (front_chips k))
        (sym (drop_take (front_chips k) all rec) ∙ ap (drop (front_chips k)) (take_hard all fed))

    there : front_chips k + octet_chips r * t.n ≤ length cut
    there = omega (arith, cut_long)

    symbols_are : whole_symbols r (front_chips k) cut ≡ 8 * t.n / symbol_bits r
    symbols_are =
        ap (λ (i : ℕ). i / symbol_chips r) (behind (octet_chips r * t.n) cut_long) ∙ all_symbols_lem r t.n
      where
        behind : (x : ℕ) → length cut ≡ front_chips k + x → length cut - front_chips k ≡ x
        behind x e = omega arith

    octets_are : whole_octets r (front_chips k) cut ≡ t.n
    octets_are =
        ap (λ (i : ℕ). i / octet_chips r) (behind (octet_chips r * t.n) cut_long) ∙ all_octets r t.n
      where
        behind : (x : ℕ) → length cut ≡ front_chips k + x → length cut - front_chips k ≡ x
        behind x e = omega arith

    odd_is : payload_odd k r t.n rec ≡ odd_yet k r cut
    odd_is = subst (λ (x : List Taken). payload_odd k r t.n x ≡ odd_yet k r cut) apart shorter
      where
        last : odd_growth r (front_chips k) (growths_of r (payload_phase k cut) (payload_words k r t.n cut))
            ≡ odd_yet k r cut
        last =
            unfold odd_yet payload_words in
            ap (λ (i : ℕ). odd_growth r (front_chips k)
            (growths_of r (payload_phase k cut) (decided_words r i (drop (front_chips k) cut)))) (sym symbols_are)

        shorter : payload_odd k r t.n (cut ++ drop all rec) ≡ odd_yet k r cut
        shorter =
            unfold payload_odd in
            ap₂ {C = Option ℕ} (λ x y. odd_growth r (front_chips k) (growths_of r x y))
            (phase_prefix k cut (drop all rec) from_cut)
            (payload_words_prefix k r t.n cut (drop all rec) there)
            ∙ last

    pub reads_room : room < t.n → read_all kind fed room ≡ Err (OctetRoom t.length)
    reads_room h = by_payload ∙ room_refused k t rec room h

    pub reads_unusable : (at : ℕ) → t.n ≤ room → unusable_yet k cut ≡ Some at
        → read_all kind fed room ≡ Err (Unusable at t.length)
    reads_unusable at h e = by_payload ∙ unusable_refused k t rec room at h (found_is ∙ e)

    pub reads_odd : (at : ℕ) → t.n ≤ room → unusable_yet k cut ≡ None → odd_yet k r cut ≡ Some at
        → read_all kind fed room ≡ Err (OddGrowth at t.length)
    reads_odd at h e o = by_payload ∙ odd_refused k t rec room at h (found_is ∙ e) (odd_is ∙ o)

    pub reads_good : t.n ≤ room → unusable_yet k cut ≡ None → odd_yet k r cut ≡ None
        → read_all kind fed room ≡ Ok (record { told = t; used = all; least = (least_of (frame_leads k r (whole_octets r (front_chips k) cut) cut)) })
    reads_good h e o =
        by_payload
        ∙ payload_good k t rec room h (found_is ∙ e) (odd_is ∙ o)
        ∙ ap (λ (x : List ℕ). Ok (record { told = t; used = all; least = least_of x }))
        (subst (λ (x : List Taken). frame_leads k r t.n x ≡ frame_leads k r t.n cut) apart
        (frame_leads_prefix k r t.n cut (drop all rec) there)
        ∙ ap (λ (m : ℕ). frame_leads k r m cut) (sym octets_are))

    pub octets_good : t.n ≤ room → unusable_yet k cut ≡ None → odd_yet k r cut ≡ None
        → octets_found kind true rec room ≡ octets_yet k r cut room
    octets_good h e o =
        found (reads_good h e o)
        ∙ ap₂ {C = List ℕ} (λ x m. x ++ replicate (room - m) 0)
        (subst (λ (x : List Taken). payload_of k r t.n x ≡ payload_of k r t.n cut) apart
        (payload_prefix k r t.n cut (drop all rec) there)
        ∙ ap (λ (m : ℕ). payload_of k r m cut) (sym octets_are))
        (sym octets_are)
      where
        found : read_all kind fed room
            ≡ Ok (record { told = t; used = all; least = (least_of (frame_leads k r (whole_octets r (front_chips k) cut) cut)) })
            → octets_found kind true rec room ≡ payload_of k r t.n rec ++ replicate (room - t.n) 0
        found e = unfold octets_found in ap (octets_after k rec room) e
