-- What any header comes to for our readers. A header that they accept is one that a writer sends: its SFD and CRC are
-- right, and its SIGNAL, SERVICE and LENGTH are those of the rate, the octets and the clock bit that it tells.
--     fields_only    of any three fields
--     header_only    of any bits
-- By what any header comes to (`Accepting`), and what our own set of SIGNALs and SERVICEs has. Assumes nothing.
use Rattle.std.specs.Prelude.{Result, Ok, Err}
use Rattle.rules_calls.specs.declared.Refusal.{Refusal}
use mathlib.Core.Path.{◌≡◌, refl, sym, ap, ap₂, ◌∙◌, subst}
use mathlib.Core.Bool.{Bool, true, false, ◌||◌}
use mathlib.Core.List.{List}
use Prim.Native.Nat.{ℕ, ◌+◌, ◌*◌, ◌/◌, ◌%◌, ◌≤◌}
use borrow.Author.Tests.{eqb-true}
use lib.Dec.{eqb}
use lib.ListN.{take, drop}
use Rattle.base.proofs.Tests.{left_is, right_is}
use Rattle.rules_rates.specs.declared.Rate.{Rate}
use Rattle.rules_rates.specs.declared.Rate.TheVariants.{One, Two, Five, Eleven}
use Rattle.rules_rates.specs.Rates.{code_of, is_code, rate_of, length_field}
use Rattle.rules_rates.proofs.Facts.{no_other_code}
use Rattle.rules_bits.specs.Bits.{number_of}
use Rattle.rules_bits.specs.Crc.{crc_bits}
use Rattle.rules_frame.specs.declared.Kind.{Kind}
use Rattle.rules_frame.specs.Frame.{sfd_of, goes_with, clock_bit, service_field}
use Rattle.rules_calls.specs.declared.Told.{Told}
use Rattle.rules_calls.specs.Headers.{service_allowed, ours, fields_of, header_of}
use Rattle.rules_calls.proofs.Accepting.{
  Tells,
  FieldsCome,
  signal_out,
  service_out,
  length_out,
  fields_told,
  fields_come,
  HeaderComes,
  sfd_other,
  crc_other,
  fields_behind,
  header_comes,
}

-- a rate of the kind, 1 to 4,095 octets, and the three fields that are sent for them
pub record Sends (k : Kind) (signal service l : ℕ) (t : Told) : Type 0 where
  pub goes : goes_with k t.rate ≡ true
  pub some : 1 ≤ t.n
  pub few : t.n ≤ 4095
  pub signal_is : signal ≡ code_of t.rate
  pub service_is : service ≡ service_field t.rate t.clock t.n
  pub length_is : l ≡ length_field t.rate t.n
  pub told_is : t.length ≡ l

abbrev pub SendsIf : Kind → ℕ → ℕ → ℕ → Result Told Refusal → Type 0
SendsIf k signal service l (Err e) = Unit {0}
SendsIf k signal service l (Ok t) = Sends k signal service l t

-- SERVICE is its two bits
abbrev TwoBits : ℕ → Type 0
TwoBits s = s ≡ 4 * clock_bit (eqb (s / 4 % 2) 1) + 128 * (s / 128 % 2)

clock_only : (s : ℕ) → (eqb s 0 || eqb s 4) ≡ true → TwoBits s
clock_only s = go (eqb s 0) (eqb s 4) (eqb-true s 0) (eqb-true s 4)
  where
    go : (a b : Bool) → (a ≡ true → s ≡ 0) → (b ≡ true → s ≡ 4) → (a || b) ≡ true → TwoBits s
    go true b f g t = subst TwoBits (sym (f refl)) refl
    go false b f g t = subst TwoBits (sym (g t)) refl

two_bits_lem : (r : Rate) (s : ℕ) → service_allowed r s ≡ true → TwoBits s
two_bits_lem One s = clock_only s
two_bits_lem Two s = clock_only s
two_bits_lem Five s = clock_only s
two_bits_lem Eleven s =
    go (eqb s 0) (eqb s 4) (eqb s 128) (eqb s 132) (eqb-true s 0) (eqb-true s 4) (eqb-true s 128) (eqb-true s 132)
  where
    go : (a b d e : Bool) → (a ≡ true → s ≡ 0) → (b ≡ true → s ≡ 4) → (d ≡ true → s ≡ 128) → (e ≡ true → s ≡ 132)
        → (a || b || d || e) ≡ true → TwoBits s
    go true b d e f g h i t = subst TwoBits (sym (f refl)) refl
    go false true d e f g h i t = subst TwoBits (sym (g refl)) refl
    go false false true e f g h i t = subst TwoBits (sym (h refl)) refl
    go false false false e f g h i t = subst TwoBits (sym (i t)) refl

-- what is told of the fields that our readers accept is what they are sent for
pub ours_sends : (k : Kind) (signal service l : ℕ) (t : Told) → Tells ours k signal service l t
    → Sends k signal service l t
ours_sends k signal service l t h =
    let coded = h.signal_in_lem in
    let named = rate_of signal in
    record {
      goes =
          subst (λ (r : Rate). goes_with k r ≡ true) (sym h.rate_is)
          (right_is (is_code signal) (goes_with k named) coded);
      some = h.some;
      few = h.few;
      signal_is =
          no_other_code signal (left_is (is_code signal) (goes_with k named) coded) ∙ ap code_of (sym h.rate_is);
      service_is =
          two_bits_lem t.rate service h.service_in_lem
          ∙ ap₂ {C = ℕ} (λ c b. 4 * clock_bit c + 128 * b) (sym h.clock_is) (sym h.seven_is);
      length_is = h.length_is;
      told_is = h.told_is;
    }

pub fields_only : (k : Kind) (signal service l : ℕ) → SendsIf k signal service l (fields_of ours k signal service l)
fields_only k signal service l = go (fields_come ours k signal service l)
  where
    go : {f : Result Told Refusal} → FieldsCome ours k signal service l f → SendsIf k signal service l f
    go (signal_out a) = tt
    go (service_out a b) = tt
    go (length_out a b c) = tt
    go (fields_told t h) = ours_sends k signal service l t h

module _ (k : Kind) (sfd header : List ℕ) where
  abbrev pub HeaderSends : Result Told Refusal → Type 0
  HeaderSends (Err e) = Unit {0}
  HeaderSends (Ok t) =
      (number_of sfd ≡ sfd_of k) × (crc_bits (take 32 header) ≡ drop 32 header)
      × Sends k (number_of (take 8 header)) (number_of (take 8 (drop 8 header))) (number_of (take 16 (drop 16 header))) t

  -- promise: A header that is accepted is one that a writer sends; each of 11 to 15 is given whatever stands in what is
  -- asked after it
  -- rule: 5.8 to 5.14, 6.4
  -- code: common_header::header_of
  -- with: sfd_refused, crc_refused, signal_refused, service_refused, length_refused, fields_read, headers_facts
  pub header_only : HeaderSends (header_of ours k sfd header)
  header_only = go (header_comes ours k sfd header)
    where
      go : {f : Result Told Refusal} → HeaderComes ours k sfd header f → HeaderSends f
      go (sfd_other s) = tt
      go (crc_other s c) = tt
      go (fields_behind s c (signal_out a)) = tt
      go (fields_behind s c (service_out a b)) = tt
      go (fields_behind s c (length_out a b d)) = tt
      go (fields_behind s c (fields_told t h)) = (s, c, ours_sends k _ _ _ t h)
