-- What is shown of each refusal, row by row, for every recording: in plain numbers, and by what the symbols say.
--     shown_1, shown_8 to shown_17       what is expected and what is found
--     unusable_octet                     of 9 the octet is above 4
--     grown_once, highest_once           of 10 and 12 there is one number
--     service_below, crc_sixteen         SERVICE is an octet, and a CRC sixteen bits
--     why_number, why_place              number and place are those of the reading with the same room
--     reason_good                        and a good one shows four zeros
-- By the laws of the reading's own fields and places. Assumes nothing.
use Rattle.std.specs.Prelude.{Result, Ok, Err}
use mathlib.Core.Path.{◌≡◌, refl, sym, ap, ◌∙◌, subst}
use mathlib.Core.Bool.{Bool, true, false, not}
use mathlib.Core.List.{List}
use Prim.Native.Nat.{ℕ, suc, ◌+◌, ◌-◌, ◌*◌, ◌/◌, ◌%◌, ◌^◌, ◌≤◌, ◌<◌}
use native.Mathlib.Decide.{dec_lt}
use native.Mathlib.Omega.{arith}
use borrow.Author.Tests.{leb-false}
use lib.Dec.{T, leb}
use lib.IntN.{pos, nat_abs}
use lib.ListN.{length, get_or, drop, length-drop, get_or-eq_default}
use Rattle.base.specs.Below.{Below}
use Rattle.base.specs.Tables.{tabulate}
use Rattle.base.proofs.Below.{below_drop}
use Rattle.base.proofs.Tables.{length_tabulate, get_or_tabulate, tabulate_ext}
use Rattle.rules_rates.specs.declared.Rate.{Rate}
use Rattle.rules_rates.specs.declared.Rate.TheVariants.{One}
use Rattle.rules_rates.specs.Rates.{code_of, rate_of, octet_chips, octets_read}
use Rattle.rules_chips.specs.Chips.{Taken, unusable, is_unusable, hard_recording}
use Rattle.rules_chips.proofs.Recorders.{length_hard, get_or_hard, unusable_hard}
use Rattle.rules_bits.specs.Bits.{bits_of, number_of, highest_first}
use Rattle.rules_bits.specs.Growths.{grown_by}
use Rattle.rules_bits.specs.Crc.{crc_bits}
use Rattle.rules_bits.proofs.Bits.{bits_number, number_below}
use Rattle.rules_frame.specs.declared.Kind.{Kind}
use Rattle.rules_frame.specs.Frame.{kind_of, sfd_of, sync_bits, field_bits, front_chips}
use Rattle.rules_calls.specs.declared.Refusal.{Refusal}
use Rattle.rules_calls.specs.declared.Refusal.TheVariants.{
  NoKind,
  ShorterThanFront,
  Unusable,
  OddGrowth,
  Sfd,
  Crc,
  Signal,
  Service,
  Length,
  Ends,
  OctetRoom,
}
use Rattle.rules_calls.specs.declared.Told.{Told}
use Rattle.rules_calls.specs.declared.Least.{Least}
use Rattle.rules_calls.specs.declared.Reading.{Reading}
use Rattle.rules_calls.specs.Answers.{record_of}
use Rattle.rules_reading.specs.Places.{word_from, UnusableFirst, FirstOddSymbol}
use Rattle.rules_reading.specs.Decoded.{PlainBit, of_three, FieldAt}
use Rattle.rules_reading.specs.Heard.{header_heard, signal_heard, service_heard, length_heard}
use Rattle.rules_reading.specs.Reading.{reading_of}
use Rattle.rules_reading.proofs.Fields.{sfd_field, service_field_lem, crc_field, header_length_lem, header_below, fields_are}
use Rattle.rules_reading.proofs.Once.{plain_once}
use Rattle.rules_why.specs.declared.Reason.{Reason}
use Rattle.rules_why.specs.Why.{growth_at, reason, shown_of, reason_of, why_of}
use Rattle.rules_why.specs.Plain.{GrownAt, HighestAt, Cleared, LengthWanted}
use Rattle.rules_why.proofs.Numbers.{cleared_is, wanted_is}

-- ---- bits of a recording
module _ {k : Kind} {r : Rate} {rec : List Taken} {n : ℕ} where
  plain_below : {b x : ℕ} → PlainBit k r rec n b x → x < 2
  plain_below (of_three b x y z p q s) = omega arith

  row_below : (bit : ℕ → ℕ) (from count : ℕ) → ((i : ℕ) → i < count → PlainBit k r rec n (from + i) (bit i))
      → Below 2 (tabulate bit count)
  row_below bit from count each = record { at = λ i. by i (dec_lt i count) }
    where
      by : (i : ℕ) → Dec (i < count) → get_or (tabulate bit count) i 0 < 2
      by i (yes l) = rw (get_or_tabulate bit count i 0 l) (plain_below (each i l))
      by i (no l) =
          let past : length (tabulate bit count) ≤ i = omega (arith, l, length_tabulate bit count) in
          rw (get_or-eq_default (tabulate bit count) 0 past) (omega arith)

  field_below : {from count v : ℕ} → FieldAt k r rec n from count v → v < 2 ^ count
  field_below {from} {count} {v} f =
      let l = number_below (tabulate f.bit count) (row_below f.bit from count f.each) in
      rw f.value_is
      (subst (λ (m : ℕ). number_of (tabulate f.bit count) < 2 ^ m) (length_tabulate f.bit count) l)

  -- the bits of a field are those of any row of bits, so many, with its number
  field_bits_lem : {from count : ℕ} {bs : List ℕ} (f : FieldAt k r rec n from count (number_of bs)) → length bs ≡ count
      → Below 2 bs → bs ≡ tabulate f.bit count
  field_bits_lem {from} {count} {bs} f e h =
      sym (bits_number count bs e h)
      ∙ ap (bits_of count) f.value_is
      ∙ bits_number count (tabulate f.bit count) (length_tabulate f.bit count)
      (row_below f.bit from count f.each)

-- ---- 9: an octet that is shown is none of 0 to 4
pub unusable_octet : (chips : List ℕ) (p : ℕ) → UnusableFirst (hard_recording chips) p → 4 < get_or chips p 0
unusable_octet chips p f = by (leb (get_or chips p 0) 4) refl
    (subst T (ap is_unusable (get_or_hard chips p unusable 0 (omega (arith, f.there, length_hard chips)))
    ∙ unusable_hard (get_or chips p 0)) f.is_one)
  where
    by : (b : Bool) → leb (get_or chips p 0) 4 ≡ b → T (not b) → 4 < get_or chips p 0
    by true e t = absurd t
    by false e t = leb-false (get_or chips p 0) 4 e

-- ---- 10 and 12: there is one number
pub grown_once : {rec : List Taken} {place a b : ℕ} → GrownAt rec place a → GrownAt rec place b → a ≡ b
grown_once {rec} g h =
    let e : g.before ≡ h.before = omega (arith, g.place_is, h.place_is) in
    g.grown_is ∙ ap (grown_behind rec) e ∙ sym h.grown_is
  where
    grown_behind : List Taken → ℕ → ℕ
    grown_behind rec s = grown_by (word_from One (11 * s) rec) (word_from One (11 * suc s) rec)

pub highest_once : {k : Kind} {rec : List Taken} {from from' count a b : ℕ} → HighestAt k rec from count a
    → HighestAt k rec from' count b → from ≡ from' → a ≡ b
highest_once {k} {rec} {from} {from'} {count} g h e =
    g.value_is
    ∙ ap highest_first (tabulate_ext g.bit h.bit count (λ i l. plain_once k One rec 0 (g.each i l) (h.each i l)
    (ap (λ (x : ℕ). x + i) e)))
    ∙ sym h.value_is

-- ---- the table
module _ (kind : ℕ) (k : Kind) (chips : List ℕ) (rec : List Taken) (room : ℕ) where
  abbrev shown : Refusal → ℕ × ℕ
  shown = shown_of kind k chips rec room

  -- promise: What is shown of each refusal is its row of the table, for every recording: by the names of reading's own
  -- definitions, and of 10 to 12, 14 and 15 by what the symbols say or in plain numbers
  -- rule: 6.22
  -- code: small_calls::why
  -- with: shown_8, shown_9, shown_10, shown_11, shown_12, shown_13, shown_14, shown_15, shown_16, shown_17
  pub shown_1 : shown NoKind ≡ (0, kind)
  shown_1 = refl

  pub shown_8 : shown ShorterThanFront ≡ (front_chips k, length chips)
  shown_8 = refl

  pub shown_9 : (place l : ℕ) → shown (Unusable place l) ≡ (0, get_or chips place 0)
  shown_9 place l = refl

  pub shown_10 : (place l : ℕ) → FirstOddSymbol rec place
      → ((shown (OddGrowth place l)).0 ≡ 0) × GrownAt rec place (shown (OddGrowth place l)).1
  shown_10 place l f = (
    refl,
    record {
      before = f.symbol;
      place_is = f.place_is;
      grown_is = grown_is;
      odd = ap (λ (g : ℕ). g % 2) grown_is ∙ f.is_odd;
      small = omega arith;
    },
  )
    where
      back : place - 11 ≡ 11 * f.symbol
      back = omega (arith, f.place_is)

      grown_is : growth_at place rec
          ≡ grown_by (word_from One (11 * f.symbol) rec) (word_from One (11 * suc f.symbol) rec)
      grown_is = λ i. grown_by (word_from One (back i) rec) (word_from One (f.place_is i) rec)

  pub shown_11 : ((shown Sfd).0 ≡ sfd_of k) × FieldAt k One rec 0 (sync_bits k) 16 (shown Sfd).1
  shown_11 = (refl, sfd_field k rec One 0)

  pub crc_sixteen : length (drop 32 (header_heard k rec)) ≡ 16
  crc_sixteen = length-drop 32 (header_heard k rec) ∙ omega (arith, header_length_lem k rec)

  pub shown_12 : ((shown Crc).0
      ≡ highest_first (crc_bits (field_bits (signal_heard k rec) (service_heard k rec) (length_heard k rec))))
      × HighestAt k rec (sync_bits k + 48) 16 (shown Crc).1
  shown_12 = (ap (λ (bs : List ℕ). highest_first (crc_bits bs)) (sym (fields_are k rec)), found)
    where
      from_sync : FieldAt k One rec 0 (sync_bits k + 48) 16 (number_of (drop 32 (header_heard k rec)))
      from_sync =
          subst (λ (b : ℕ). FieldAt k One rec 0 b 16 (number_of (drop 32 (header_heard k rec)))) (omega arith)
          (crc_field k rec One 0)

      found : HighestAt k rec (sync_bits k + 48) 16 (highest_first (drop 32 (header_heard k rec)))
      found = record {
        bit = from_sync.bit;
        each = from_sync.each;
        value_is = ap highest_first (field_bits_lem from_sync crc_sixteen (below_drop 32 (header_below k rec)));
      }

  pub shown_13 : (l : ℕ) → shown (Signal l) ≡ (0, signal_heard k rec)
  shown_13 l = refl

  -- the rate that SIGNAL says, and bit 7
  abbrev r : Rate
  r = rate_of (signal_heard k rec)

  abbrev seven : ℕ
  seven = service_heard k rec / 128 % 2

  pub service_below : service_heard k rec < 256
  service_below = field_below (service_field_lem k rec One 0)

  pub shown_14 : (l : ℕ) → ((shown (Service l)).0 ≡ 0)
      × Cleared (code_of r) (service_heard k rec) (shown (Service l)).1
  shown_14 l = (refl, cleared_is r (service_heard k rec) service_below)

  pub shown_15 : (l : ℕ)
      → LengthWanted (code_of r) (length_heard k rec) seven (shown (Length l)).0 × ((shown (Length l)).1 ≡ l)
  shown_15 l = (wanted_is r (length_heard k rec) seven, refl)

  pub shown_16 : (n l : ℕ) → octets_read r (length_heard k rec) seven ≡ pos n
      → shown (Ends l) ≡ (front_chips k + octet_chips r * n, length chips)
  shown_16 n l e = λ i. (front_chips k + octet_chips r * nat_abs (e i), length chips)

  pub shown_17 : (n l : ℕ) → octets_read r (length_heard k rec) seven ≡ pos n → shown (OctetRoom l) ≡ (n, room)
  shown_17 n l e = λ i. (nat_abs (e i), room)

  pub reason_good : (t : Told) (used : ℕ) (least : Least)
      → reason_of kind k chips rec room (Ok (record { told = t; used = used; least = least })) ≡ reason 0 0 0 0
  reason_good t used least = refl

  reason_number : (g : Result Reading Refusal) → (reason_of kind k chips rec room g).number ≡ (record_of g).number
  reason_number (Err e) = refl
  reason_number (Ok g) = refl

  reason_place : (g : Result Reading Refusal) → (reason_of kind k chips rec room g).place ≡ (record_of g).place
  reason_place (Err e) = refl
  reason_place (Ok g) = refl

-- ---- the whole: number and place are those of the reading with the same room, for every room
module _ (kind : ℕ) (chips : List ℕ) (room : ℕ) where
  abbrev read : Result Reading Refusal
  read = reading_of kind true (hard_recording chips) room

  pub why_is : why_of kind chips room ≡ reason_of kind (kind_of kind) chips (hard_recording chips) room read
  unfolding why_of
  why_is = refl

  pub why_number : (why_of kind chips room).number ≡ (record_of read).number
  why_number =
      ap (λ (r : Reason). r.number) why_is ∙ reason_number kind (kind_of kind) chips (hard_recording chips) room read

  pub why_place : (why_of kind chips room).place ≡ (record_of read).place
  why_place =
      ap (λ (r : Reason). r.place) why_is ∙ reason_place kind (kind_of kind) chips (hard_recording chips) room read
