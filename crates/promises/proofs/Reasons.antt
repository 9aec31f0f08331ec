-- A read answers by the numbers, in their order, and why: what any reading comes to (`reading_comes` of rules_reading),
-- case by case, in plain numbers. Assumes nothing.
use mathlib.Core.Path.{◌≡◌, refl, sym, ap, ap₂, ◌∙◌, subst}
use mathlib.Core.Bool.{Bool, true, false, ◌&&◌, ◌||◌}
use mathlib.Core.List.{List}
use Rattle.std.specs.Prelude.{Option, None, Some, Result, Err}
use Prim.Native.Nat.{ℕ, zero, suc, ◌+◌, ◌*◌, ◌/◌, ◌%◌, ◌≤◌, ◌<◌}
use native.Mathlib.Decide.{dec_lt}
use native.Mathlib.Omega.{arith}
use borrow.Author.Tests.{ltb-true, ltb-false, le-ltb, eqb-true}
use lib.Dec.{T, eqb}
use lib.ListN.{length, drop}
use Rattle.base.proofs.Tests.{left_is, right_is}
use Rattle.rules_rates.specs.declared.Rate.{Rate}
use Rattle.rules_rates.specs.declared.Rate.TheVariants.{One, Two, Five, Eleven}
use Rattle.rules_rates.specs.Rates.{code_of, is_code, rate_of, octet_chips, length_field, bit7}
use Rattle.rules_rates.specs.Plain.{LengthOf, SevenOf}
use Rattle.rules_rates.proofs.Facts.{no_other_code}
use Rattle.rules_rates.proofs.Plain.{length_is, seven_is, holds_any}
use Rattle.rules_chips.specs.Chips.{Taken}
use Rattle.rules_bits.specs.Bits.{number_of}
use Rattle.rules_frame.specs.declared.Kind.{Kind}
use Rattle.rules_frame.specs.declared.Kind.TheVariants.{Long, Short}
use Rattle.rules_frame.specs.Frame.{is_kind, kind_of, sfd_of, sync_bits, goes_with, clock_bit, front_chips, frame_chips}
use Rattle.rules_calls.specs.declared.Refusal.{Refusal}
use Rattle.rules_calls.specs.declared.Refusal.TheVariants.{Ends}
use Rattle.rules_calls.specs.declared.Told.{Told}
use Rattle.rules_calls.specs.declared.Record.{Record}
use Rattle.rules_calls.specs.declared.Reading.{Reading}
use Rattle.rules_calls.specs.Answers.{record_of}
use Rattle.rules_calls.specs.Headers.{service_allowed, ours}
use Rattle.rules_calls.proofs.HeaderOnly.{ours_sends}
use Rattle.rules_reading.specs.Places.{UsableAt, odd_behind}
use Rattle.rules_reading.specs.Decoded.{FieldAt}
use Rattle.rules_reading.specs.Leads.{frame_leads, least_of}
use Rattle.rules_reading.specs.Reading.{front_odd, payload_odd, payload_reading}
use Rattle.rules_reading.proofs.Payloads.{found_unusable, room_refused, unusable_refused, odd_refused, payload_good}
use Rattle.rules_reading.proofs.Places.{front_place, payload_unusable_place, payload_odd_place, payload_odd_rate}
use Rattle.rules_reading.specs.Heard.{header_heard, signal_heard, service_heard, length_heard}
use Rattle.rules_reading.proofs.Refusals.{
  Clear,
  Sound,
  FrontRefusal,
  front_short,
  front_unusable,
  front_odd_lem,
  sfd_differs,
  crc_differs,
  no_signal,
  no_service,
  no_length,
  FrontHeard,
  WholeRefusal,
  met_in_front,
  frame_ends,
}
use Rattle.rules_reading.proofs.FirstPlaces.{
  front_unusable_first,
  front_all_usable,
  payload_unusable_first,
  payload_all_usable,
  ones_of,
  front_odd_first,
  front_odd_at,
  front_even_ones,
  payload_odd_first,
  payload_even_ones,
  IsOne,
}
use Rattle.rules_reading.proofs.Fields.{
  sfd_field,
  signal_field,
  service_field_lem,
  length_field_lem,
  crc_field,
  crc_is_right,
  crc_is_wrong,
}
use Rattle.rules_reading.proofs.Comes.{ReadingComes, kind_none, rows_apart, by_front, by_payload, reading_comes}
use Rattle.promises.specs.Calls.{Read, Goes, long_1, short_2}
use Rattle.promises.specs.Coming.{FrontOf, front_at}
use Rattle.promises.specs.Reasons.{
  BitsOf,
  long_bits,
  short_bits,
  FrontField,
  ServiceOf,
  service_0,
  service_4,
  service_128,
  service_132,
  HasFront,
  HasBits,
  HasHeader,
  HasPayload,
  ReadAnswer,
  is_1,
  is_7,
  is_8,
  front_9,
  front_10,
  is_11,
  is_12,
  is_13,
  is_14,
  is_15,
  is_16,
  is_17,
  payload_9,
  payload_10,
  is_0,
}
use Rattle.promises.proofs.Only.{goes, code_back}
use Rattle.promises.proofs.Back.{known}

-- ---- the definitions' words, in plain numbers
pub front_known : (kind : ℕ) → is_kind kind ≡ true → FrontOf kind (front_chips (kind_of kind))
front_known zero e = front_at long_1
front_known (suc zero) e = front_at short_2
front_known (suc (suc k)) e = absurd (subst T (sym e ∙ le-ltb (suc (suc k)) 2 (omega arith)) tt)

bits_known : (kind : ℕ) → is_kind kind ≡ true
    → BitsOf kind (sync_bits (kind_of kind)) (sfd_of (kind_of kind)) (ones_of (kind_of kind))
bits_known zero e = long_bits
bits_known (suc zero) e = short_bits
bits_known (suc (suc k)) e = absurd (subst T (sym e ∙ le-ltb (suc (suc k)) 2 (omega arith)) tt)

two_ways : (s : ℕ) (rate : ℕ) → (eqb s 0 || eqb s 4) ≡ true → ServiceOf rate s
two_ways s rate = go (eqb s 0) (eqb s 4) (eqb-true s 0) (eqb-true s 4)
  where
    go : (a b : Bool) → (a ≡ true → s ≡ 0) → (b ≡ true → s ≡ 4) → (a || b) ≡ true → ServiceOf rate s
    go true b f g t = subst (ServiceOf rate) (sym (f refl)) (service_0 rate)
    go false b f g t = subst (ServiceOf rate) (sym (g t)) (service_4 rate)

service_in_lem : (r : Rate) (s : ℕ) → service_allowed r s ≡ true → ServiceOf (code_of r) s
service_in_lem One s e = two_ways s 10 e
service_in_lem Two s e = two_ways s 20 e
service_in_lem Five s e = two_ways s 55 e
service_in_lem Eleven s e =
    go (eqb s 0 || eqb s 4) (eqb s 128) (eqb s 132) (two_ways s 110) (eqb-true s 128) (eqb-true s 132) e
  where
    go : (a b c : Bool) → (a ≡ true → ServiceOf 110 s) → (b ≡ true → s ≡ 128) → (c ≡ true → s ≡ 132)
        → (a || b || c) ≡ true → ServiceOf 110 s
    go true b c f g h t = f refl
    go false true c f g h t = subst (ServiceOf 110) (sym (g refl)) service_128
    go false false c f g h t = subst (ServiceOf 110) (sym (h t)) service_132

service_yes : {rate s : ℕ} → ServiceOf rate s → (r : Rate) → code_of r ≡ rate → service_allowed r s ≡ true
service_yes (service_0 rate) One e = refl
service_yes (service_0 rate) Two e = refl
service_yes (service_0 rate) Five e = refl
service_yes (service_0 rate) Eleven e = refl
service_yes (service_4 rate) One e = refl
service_yes (service_4 rate) Two e = refl
service_yes (service_4 rate) Five e = refl
service_yes (service_4 rate) Eleven e = refl
service_yes service_128 One e = absurd (omega arith)
service_yes service_128 Two e = absurd (omega arith)
service_yes service_128 Five e = absurd (omega arith)
service_yes service_128 Eleven e = refl
service_yes service_132 One e = absurd (omega arith)
service_yes service_132 Two e = absurd (omega arith)
service_yes service_132 Five e = absurd (omega arith)
service_yes service_132 Eleven e = refl

pub clash : {b : Bool} → b ≡ true → b ≡ false → ⊥
clash e f = subst T (sym e ∙ f) tt

module _ (kind : ℕ) (agree : Bool) (rec : List Taken) (room : ℕ) (known-kind : is_kind kind ≡ true)
    (rows : agree ≡ true) where
  abbrev k : Kind
  k = kind_of kind

  abbrev Says : Record → Type 0
  Says = ReadAnswer kind agree rec room

  -- ---- what passed the tests, one after the other
  has_front : front_chips k ≤ length rec → HasFront kind agree rec (front_chips k)
  has_front l = record { front_is = front_known kind known-kind; rows_agree = rows; long = l }

  pub has_bits : Clear k rec → HasBits kind agree rec (sync_bits k) (sfd_of k)
  has_bits c = record {
    front = front_chips k;
    ones = ones_of k;
    has = has_front c.long;
    bits_are = bits_known kind known-kind;
    usable = front_all_usable k rec c.long c.usable;
    even = front_even_ones rec k c.even;
  }

  pub at_24 : FrontField kind rec (sync_bits k + 24) 8 (service_heard k rec)
  at_24 =
      subst (λ (b : ℕ). FieldAt k One rec 0 b 8 (service_heard k rec)) (omega arith) (service_field_lem k rec One 0)

  pub at_32 : FrontField kind rec (sync_bits k + 32) 16 (length_heard k rec)
  at_32 =
      subst (λ (b : ℕ). FieldAt k One rec 0 b 16 (length_heard k rec)) (omega arith) (length_field_lem k rec One 0)

  abbrev crc_heard : ℕ
  crc_heard = number_of (drop 32 (header_heard k rec))

  at_48 : FrontField kind rec (sync_bits k + 48) 16 crc_heard
  at_48 = subst (λ (b : ℕ). FieldAt k One rec 0 b 16 crc_heard) (omega arith) (crc_field k rec One 0)

  pub has_header : Sound k rec → HasHeader kind agree rec (signal_heard k rec) (service_heard k rec) (length_heard k rec)
  has_header s = record {
    at = sync_bits k;
    sfd = sfd_of k;
    crc = crc_heard;
    has = has_bits s.clear;
    sfd_is = subst (FieldAt k One rec 0 (sync_bits k) 16) s.sfd_is (sfd_field k rec One 0);
    signal_is = signal_field k rec One 0;
    service_is = at_24;
    length_is = at_32;
    crc_is = at_48;
    right = crc_is_right k rec s.crc_is;
  }

  -- SIGNAL is a rate of the kind, or none
  goes_in : (signal : ℕ) → ours.signals k signal ≡ true
      → Goes kind signal (front_chips k) (octet_chips (rate_of signal))
  goes_in signal e =
      subst (λ (x : ℕ). Goes kind x (front_chips k) (octet_chips (rate_of signal)))
      (sym (no_other_code signal (left_is (is_code signal) (goes_with k (rate_of signal)) e)))
      (goes kind (rate_of signal) known-kind (right_is (is_code signal) (goes_with k (rate_of signal)) e))

  goes_out : (signal : ℕ) → ours.signals k signal ≡ false → (front octet : ℕ) → Goes kind signal front octet → ⊥
  goes_out signal e front octet g =
      let w = known g in
      clash (ap₂ {C = Bool} (λ x y. x && y) w.rate_is w.together) e

  pub code_of_lem : (signal : ℕ) → ours.signals k signal ≡ true → code_of (rate_of signal) ≡ signal
  code_of_lem signal e = sym (no_other_code signal (left_is (is_code signal) (goes_with k (rate_of signal)) e))

  -- ---- the front's refusals
  in_front : {e : Refusal} → FrontRefusal k rec e → Says (record_of (Err e))
  in_front (front_short l) = is_8 (front_known kind known-kind) rows l
  in_front (front_unusable p l f) =
      front_9 (has_front l) (front_place k rec (front_unusable p l f)) (front_unusable_first k rec p l f)
  in_front (front_odd_lem p l u f) =
      front_10 (has_front l) (front_all_usable k rec l u) (bits_known kind known-kind) (front_odd_at rec k p f)
      (front_odd_first rec k p f)
  in_front (sfd_differs c d) = is_11 (has_bits c) (sfd_field k rec One 0) d
  in_front (crc_differs c s d) =
      is_12 (has_bits c) (subst (FieldAt k One rec 0 (sync_bits k) 16) s (sfd_field k rec One 0))
      (signal_field k rec One 0) at_24 at_32 at_48 (crc_is_wrong k rec d)
  in_front (no_signal s a) = is_13 (has_header s) (goes_out (signal_heard k rec) a)
  in_front (no_service s a b) =
      is_14 (has_header s) (goes_in (signal_heard k rec) a)
      (λ x. clash (service_yes x (rate_of (signal_heard k rec)) (code_of_lem (signal_heard k rec) a)) b)
  in_front (no_length s a b d) =
      let signal = signal_heard k rec in
      let r = rate_of signal in
      let e = code_of_lem signal a in
      is_15 (has_header s) (goes_in signal a)
      (subst (λ (x : ℕ). ServiceOf x (service_heard k rec)) e (service_in_lem r (service_heard k rec) b))
      (λ n low high l seven. clash (holds_any r (record {
        some = low;
        few = high;
        length_of = subst (λ (x : ℕ). LengthOf x n (length_heard k rec)) (sym e) l;
        seven_of =
            subst (λ (x : ℕ). SevenOf x n (length_heard k rec) (service_heard k rec / 128 % 2)) (sym e) seven;
      }))
      d)

  -- ---- what a front told
  module _ (t : Told) (h : FrontHeard k rec t) where
    abbrev r : Rate
    r = t.rate

    abbrev service : ℕ
    service = service_heard k rec

    pub has_payload : HasPayload kind agree rec (code_of r) service t.length t.n (front_chips k) (octet_chips r)
    has_payload =
        let s = ours_sends k (signal_heard k rec) service (length_heard k rec) t h.tells in
        let is : length_field r t.n ≡ t.length = sym (s.told_is ∙ s.length_is) in
        record {
          header =
              subst (λ (x : ℕ). HasHeader kind agree rec x service t.length) s.signal_is
              (subst (HasHeader kind agree rec (signal_heard k rec) service) (sym s.told_is) (has_header h.sound));
          goes = goes kind r known-kind s.goes;
          service_of = service_in_lem r service h.tells.service_in_lem;
          some = s.some;
          few = s.few;
          length_of = subst (LengthOf (code_of r) t.n) is (length_is r t.n);
          seven_of =
              subst (λ (b : ℕ). SevenOf (code_of r) t.n t.length b) h.tells.seven_is
              (subst (λ (l : ℕ). SevenOf (code_of r) t.n l (bit7 r t.n)) is (seven_is r t.n));
        }

    clock_is : clock_bit t.clock ≡ service / 4 % 2
    clock_is = ap clock_bit h.tells.clock_is ∙ of_bit (service / 4 % 2) (omega arith)
      where
        of_bit : (x : ℕ) → x < 2 → clock_bit (eqb x 1) ≡ x
        of_bit zero l = refl
        of_bit (suc zero) l = refl
        of_bit (suc (suc x)) l = absurd (omega arith)

    module _ (there : frame_chips k r t.n ≤ length rec) where
      pub free : (q : ℕ) → q < front_chips k → UsableAt rec q
      free = front_all_usable k rec h.sound.clear.long h.sound.clear.usable

      pub rate_of_lem : goes_with k r ≡ true
      rate_of_lem = (ours_sends k (signal_heard k rec) service (length_heard k rec) t h.tells).goes

      -- at 1 Mbit/s, where 10 was looked for and not found
      even_to : payload_odd k r t.n rec ≡ None → code_of r ≡ 10 → (s : ℕ) → 11 * suc s < frame_chips k r t.n
          → odd_behind rec s ≡ 0
      even_to d ten s l = by k r rate_of_lem (sym (code_back r) ∙ ap rate_of ten) h.sound.clear.even d l
        where
          by : (k : Kind) (r : Rate) → goes_with k r ≡ true → r ≡ One → front_odd k rec ≡ None
              → payload_odd k r t.n rec ≡ None → 11 * suc s < frame_chips k r t.n → odd_behind rec s ≡ 0
          by Long One g o e d l = payload_even_ones rec Long One t.n g o e d s (omega (arith, l))
          by Short One g o e d l = absurd (subst T (sym g) tt)
          by k Two g o e d l = absurd (subst IsOne (sym o) tt)
          by k Five g o e d l = absurd (subst IsOne (sym o) tt)
          by k Eleven g o e d l = absurd (subst IsOne (sym o) tt)

      in_payload : (g : Result Reading Refusal) → payload_reading k t rec room ≡ g → Says (record_of g)
          → Says (record_of (payload_reading k t rec room))
      in_payload g e x = subst (λ (y : Result Reading Refusal). Says (record_of y)) (sym e) x

      payload_says : Says (record_of (payload_reading k t rec room))
      payload_says = by (dec_lt room t.n) (found_unusable k t rec) refl (payload_odd k r t.n rec) refl
        where
          by : Dec (room < t.n) → (o : Option ℕ) → found_unusable k t rec ≡ o → (q : Option ℕ)
              → payload_odd k r t.n rec ≡ q → Says (record_of (payload_reading k t rec room))
          by (yes l) o e q d = in_payload _ (room_refused k t rec room l) (is_17 has_payload there l)
          by (no l) (Some p) e q d =
              let m : t.n ≤ room = omega (arith, l) in
              let w = payload_unusable_place k rec p t e in
              in_payload _ (unusable_refused k t rec room p m e)
              (payload_9 has_payload there m w.0 w.1 (payload_unusable_first k rec t there free p e))
          by (no l) None e (Some p) d =
              let m : t.n ≤ room = omega (arith, l) in
              let w = payload_odd_place k rec p t d in
              in_payload _ (odd_refused k t rec room p m e d)
              (payload_10 has_payload there m (payload_all_usable k rec t there free e)
              (ap code_of (payload_odd_rate k rec p t d)) w.0 w.1
              (payload_odd_first rec k r t.n p rate_of_lem h.sound.clear.even d))
          by (no l) None e None d =
              let m : t.n ≤ room = omega (arith, l) in
              in_payload _ (payload_good k t rec room m e d)
              (subst (λ (c : ℕ). Says (record {
                number = 0;
                place = 0;
                rate = code_of r;
                length = t.length;
                n = t.n;
                used = frame_chips k r t.n;
                clock = c;
                lead = (least_of (frame_leads k r t.n rec)).lead;
                symbol = (least_of (frame_leads k r t.n rec)).symbol;
              }))
              (sym clock_is) (is_0 _ _ has_payload there m (payload_all_usable k rec t there free e) (even_to d)))

    ends_says : length rec < frame_chips k r t.n → Says (record_of (Err (Ends t.length)))
    ends_says l = is_16 has_payload l

  whole_says : {e : Refusal} → WholeRefusal k rec e → Says (record_of (Err e))
  whole_says (met_in_front f) = in_front f
  whole_says (frame_ends t h l) = ends_says t h l

answer_says : (kind : ℕ) (agree : Bool) (rec : List Taken) (room : ℕ) {g : Result Reading Refusal}
    → ReadingComes kind agree rec room g → ReadAnswer kind agree rec room (record_of g)
answer_says kind agree rec room (kind_none b) = is_1 (ltb-false kind 2 b)
answer_says kind agree rec room (rows_apart b d) = is_7 (ltb-true kind 2 b) d
answer_says kind agree rec room (by_front b d w) = whole_says kind agree rec room b d w
answer_says kind agree rec room (by_payload b d t h there) = payload_says kind agree rec room b d t h there

pub read_says : (kind : ℕ) (agree : Bool) (rec : List Taken) (room : ℕ) (a : Record) (left : List ℕ)
    → Read kind agree rec room a left → ReadAnswer kind agree rec room a
read_says kind agree rec room a left f =
    subst (ReadAnswer kind agree rec room) (sym f.answer)
    (answer_says kind agree rec room (reading_comes kind agree rec room))
