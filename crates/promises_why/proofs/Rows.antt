-- Each refusal that a reading of a hard recording can come to (`reading_comes` of rules_reading) shows its row of the
-- table, and two numbers that differ but where `Alike` says. Assumes nothing.
use mathlib.Core.Path.{◌≡◌, refl, sym, ◌∙◌, subst}
use mathlib.Core.Bool.{true, false}
use mathlib.Core.List.{List}
use Rattle.std.specs.Prelude.{Option, None, Some, Result, Err}
use Prim.Native.Nat.{ℕ, ◌+◌, ◌*◌, ◌/◌, ◌%◌, ◌≤◌, ◌<◌}
use native.Mathlib.Decide.{dec_lt}
use native.Mathlib.Omega.{arith}
use borrow.Author.Tests.{ltb-false}
use lib.IntN.{pos}
use lib.ListN.{length, take, drop}
use Rattle.base.proofs.Below.{below_drop}
use Rattle.rules_rates.specs.declared.Rate.{Rate}
use Rattle.rules_rates.specs.declared.Rate.TheVariants.{One}
use Rattle.rules_rates.specs.Rates.{code_of, rate_of, octet_chips, octets_read, length_holds}
use Rattle.rules_rates.proofs.Lengths.{octets_back}
use Rattle.rules_rates.proofs.Plain.{holds_any}
use Rattle.rules_chips.specs.Chips.{Taken, hard_recording}
use Rattle.rules_chips.proofs.Recorders.{length_hard}
use Rattle.rules_bits.specs.Bits.{highest_first}
use Rattle.rules_bits.specs.Crc.{crc_bits}
use Rattle.rules_bits.proofs.Crc.{crc_length, crc_below}
use Rattle.rules_bits.proofs.Highest.{highest_only}
use Rattle.rules_frame.specs.declared.Kind.{Kind}
use Rattle.rules_frame.specs.Frame.{is_kind, kind_of, front_chips, frame_chips}
use Rattle.rules_calls.specs.declared.Refusal.{Refusal}
use Rattle.rules_calls.specs.declared.Refusal.TheVariants.{Unusable, OddGrowth, Crc, Service, Length, Ends, OctetRoom}
use Rattle.rules_calls.specs.declared.Told.{Told}
use Rattle.rules_calls.specs.declared.Reading.{Reading}
use Rattle.rules_calls.specs.Headers.{service_allowed, ours}
use Rattle.rules_reading.specs.Places.{UnusableFirst, FirstOddSymbol}
use Rattle.rules_reading.specs.Heard.{header_heard, signal_heard, service_heard, length_heard}
use Rattle.rules_reading.specs.Reading.{payload_odd, payload_reading}
use Rattle.rules_reading.proofs.Payloads.{found_unusable, room_refused, unusable_refused, odd_refused, payload_good}
use Rattle.rules_reading.proofs.Fields.{signal_field, header_below}
use Rattle.rules_reading.proofs.FirstPlaces.{
  front_unusable_first,
  payload_unusable_first,
  front_odd_first,
  payload_odd_first,
}
use Rattle.rules_reading.proofs.Refusals.{
  Clear,
  CrcHeard,
  Sound,
  FrontRefusal,
  front_short,
  front_unusable,
  front_odd_lem,
  sfd_differs,
  crc_differs,
  no_signal,
  no_service,
  no_length,
  FrontHeard,
  WholeRefusal,
  met_in_front,
  frame_ends,
}
use Rattle.rules_reading.proofs.Comes.{ReadingComes, kind_none, rows_apart, by_front, by_payload, reading_comes}
use Rattle.promises.specs.Reasons.{HasHeader, HasPayload}
use Rattle.promises.proofs.Reasons.{
  front_known,
  clash,
  has_bits,
  at_24,
  at_32,
  has_header,
  code_of_lem,
  has_payload,
  free,
  rate_of_lem,
}
use Rattle.rules_why.specs.declared.Reason.{Reason}
use Rattle.rules_why.specs.Why.{service_left, length_for, reason, reason_of, why_of}
use Rattle.rules_why.specs.Plain.{Cleared, LengthWanted}
use Rattle.rules_why.proofs.Numbers.{left_some, wanted_same}
use Rattle.rules_why.proofs.Laws.{
  unusable_octet,
  shown_10,
  shown_11,
  shown_12,
  shown_14,
  shown_15,
  shown_16,
  shown_17,
  crc_sixteen,
  service_below,
  why_is,
}
use Rattle.promises_why.specs.Table.{
  Table,
  row_0,
  row_1,
  row_8,
  row_9,
  row_10,
  row_11,
  row_12,
  row_13,
  row_14,
  row_15,
  row_16,
  row_17,
}
use Rattle.promises_why.specs.Promises.{Alike, all_zeros, signal_0, length_0}

module _ (kind : ℕ) (chips : List ℕ) (room : ℕ) where
  pub record Shows (r : Reason) : Type 0 where
    pub row : Table kind chips room r.number r.place r.expected r.found
    pub apart : r.expected ≡ r.found → Alike r

  differ : {r : Reason} → Table kind chips room r.number r.place r.expected r.found
      → (r.expected ≡ r.found → ⊥) → Shows r
  differ t d = record { row = t; apart = λ e. absurd (d e) }

  -- what is shown, known by an equation
  by_shown : {number place : ℕ} {x y : ℕ × ℕ} → x ≡ y → Shows (reason number place y.0 y.1)
      → Shows (reason number place x.0 x.1)
  by_shown {number} {place} e s =
      subst (λ (z : ℕ × ℕ). Shows (reason number place z.0 z.1)) (sym e) s

  abbrev rec : List Taken
  rec = hard_recording chips

  abbrev k : Kind
  k = kind_of kind

  abbrev ShowsIf : Result Reading Refusal → Type 0
  ShowsIf g = Shows (reason_of kind k chips rec room g)

  abbrev signal : ℕ
  signal = signal_heard k rec

  abbrev service : ℕ
  service = service_heard k rec

  abbrev l : ℕ
  l = length_heard k rec

  -- ---- 9 and 10, in the front and in the payload
  unusable_shows : (p m : ℕ) → UnusableFirst rec p → ShowsIf (Err (Unusable p m))
  unusable_shows p m f =
      let o = unusable_octet chips p f in
      differ (row_9 p o) (λ e. omega (arith, e, o))

  odd_shows : (p m : ℕ) → FirstOddSymbol rec p → ShowsIf (Err (OddGrowth p m))
  odd_shows p m f =
      let g = (shown_10 kind k chips rec room p m f).1 in
      differ (row_10 g) (λ e. omega (arith, e, g.odd))

  module _ (known : is_kind kind ≡ true) where
    -- ---- the front's
    crc_shows : Clear k rec → (CrcHeard k rec → ⊥) → ShowsIf (Err Crc)
    crc_shows c d =
        let header = header_heard k rec in
        let w = shown_12 kind k chips rec room in
        differ
        (subst (λ (x : ℕ). Table kind chips room 12 0 x (highest_first (drop 32 header))) (sym w.0)
        (row_12 (has_bits kind true rec room known refl c) (signal_field k rec One 0)
        (at_24 kind true rec room known refl) (at_32 kind true rec room known refl) w.1))
        (λ e. d
        (highest_only (crc_bits (take 32 header)) (drop 32 header)
        (crc_length (take 32 header) ∙ sym (crc_sixteen kind k chips rec room)) (crc_below (take 32 header))
        (below_drop 32 (header_below k rec)) e))

    module _ (s : Sound k rec) (a : ours.signals k signal ≡ true) where
      abbrev rate : Rate
      rate = rate_of signal

      header : HasHeader kind true rec signal service l
      header = has_header kind true rec room known refl s

      coded : code_of rate ≡ signal
      coded = code_of_lem kind true rec room known refl signal a

      service_shows : (m : ℕ) → service_allowed rate service ≡ false → ShowsIf (Err (Service m))
      service_shows m b =
          let left = service_left rate service in
          differ
          (row_14 header
          (subst (λ (x : ℕ). Cleared x service left) coded (shown_14 kind k chips rec room m).1))
          (λ e. left_some rate service (service_below kind k chips rec room) b (sym e))

      length_shows : length_holds rate l (service / 128 % 2) ≡ false → ShowsIf (Err (Length l))
      length_shows d =
          let seven = service / 128 % 2 in
          let wanted = length_for rate (octets_read rate l seven) in
          let w = (shown_15 kind k chips rec room l).0 in
          record {
            row = row_15 header (subst (λ (x : ℕ). LengthWanted x l seven wanted) coded w);
            apart = λ e.
                let z : l ≡ 0 = wanted_same w e (λ n h. clash (holds_any rate h) d) in
                subst (λ (x : ℕ × ℕ). Alike (reason 15 0 x.0 x.1)) (λ i. (sym (e ∙ z) i, sym z i)) length_0;
          }

    in_front : {e : Refusal} → FrontRefusal k rec e → ShowsIf (Err e)
    in_front (front_short l) =
        differ (row_8 (front_known kind known)) (λ e. omega (arith, l, e, length_hard chips))
    in_front (front_unusable p l f) = unusable_shows p 0 (front_unusable_first k rec p l f)
    in_front (front_odd_lem p l u f) = odd_shows p 0 (front_odd_first rec k p f)
    in_front (sfd_differs c d) =
        differ (row_11 (has_bits kind true rec room known refl c) (shown_11 kind k chips rec room).1) (λ e. d (sym e))
    in_front (crc_differs c s d) = crc_shows c d
    in_front (no_signal s a) = record {
      row = row_13 (has_header kind true rec room known refl s);
      apart = λ e. subst (λ (x : ℕ). Alike (reason 13 0 0 x)) e signal_0;
    }
    in_front (no_service s a b) = service_shows s a l b
    in_front (no_length s a b d) = length_shows s a d

    -- ---- what a front told
    module _ (t : Told) (h : FrontHeard k rec t) where
      abbrev told : HasPayload kind true rec (code_of t.rate) service t.length t.n (front_chips k)
          (octet_chips t.rate)
      told = has_payload kind true rec room known refl t h

      octets_are : octets_read (rate_of signal) l (service / 128 % 2) ≡ pos t.n
      octets_are =
          (λ i. octets_read (sym h.tells.rate_is i) (h.tells.length_is i) (sym h.tells.seven_is i))
          ∙ octets_back t.rate t.n

      ends_shows : length rec < frame_chips k t.rate t.n → ShowsIf (Err (Ends t.length))
      ends_shows m =
          by_shown
          (shown_16 kind k chips rec room t.n t.length octets_are
          ∙ (λ i. (front_chips k + octet_chips (sym h.tells.rate_is i) * t.n, length chips)))
          (differ (row_16 told) (λ e. omega (arith, m, e, length_hard chips)))

      room_shows : room < t.n → ShowsIf (Err (OctetRoom t.length))
      room_shows m =
          by_shown (shown_17 kind k chips rec room t.n t.length octets_are)
          (differ (row_17 told) (λ e. omega (arith, m, e)))

      module _ (there : frame_chips k t.rate t.n ≤ length rec) where
        payload_shows : ShowsIf (payload_reading k t rec room)
        payload_shows =
            by (dec_lt room t.n) (found_unusable k t rec) refl (payload_odd k t.rate t.n rec) refl
          where
            come : (g : Result Reading Refusal) → payload_reading k t rec room ≡ g → ShowsIf g → ShowsIf (payload_reading k t rec room)
            come g e x = subst ShowsIf (sym e) x

            by : Dec (room < t.n) → (o : Option ℕ) → found_unusable k t rec ≡ o → (q : Option ℕ)
                → payload_odd k t.rate t.n rec ≡ q → ShowsIf (payload_reading k t rec room)
            by (yes m) o e q d = come _ (room_refused k t rec room m) (room_shows m)
            by (no m) (Some p) e q d =
                come _ (unusable_refused k t rec room p (omega (arith, m)) e)
                (unusable_shows p t.length
                (payload_unusable_first k rec t there (free kind true rec room known refl t h there) p e))
            by (no m) None e (Some p) d =
                come _ (odd_refused k t rec room p (omega (arith, m)) e d)
                (odd_shows p t.length
                (payload_odd_first rec k t.rate t.n p (rate_of_lem kind true rec room known refl t h there)
                h.sound.clear.even d))
            by (no m) None e None d =
                come _ (payload_good k t rec room (omega (arith, m)) e d)
                (record { row = row_0; apart = λ e. all_zeros })

    whole_shows : {e : Refusal} → WholeRefusal k rec e → ShowsIf (Err e)
    whole_shows (met_in_front f) = in_front f
    whole_shows (frame_ends t h m) = ends_shows t h m

  comes_shows : {g : Result Reading Refusal} → ReadingComes kind true rec room g → ShowsIf g
  comes_shows (kind_none b) = differ row_1 (λ e. omega (arith, e, ltb-false kind 2 b))
  comes_shows (rows_apart b d) = absurd (clash refl d)
  comes_shows (by_front b d w) = whole_shows b w
  comes_shows (by_payload b d t h there) = payload_shows b t h there

  pub why_shows : Shows (why_of kind chips room)
  why_shows = subst Shows (sym (why_is kind chips room)) (comes_shows (reading_comes kind true rec room))
