-- What any three fields and any header come to, for a reader that accepts any set of headers. Nothing here depends on
-- which SIGNALs and SERVICEs that set has.
--     fields_come    13, 14, 15 or what is told, each with the tests that led there
--     length_told    13, 14, 15 and a good header tell the LENGTH that was read
--     header_comes   the same with 11 and 12 before it
--     sfd_refused, crc_refused, signal_refused, service_refused, length_refused
--                    each refusal, whatever stands in what is asked after it
--     header_accepted, fields_accepted    and what comes where each test is passed
--     same_refl, same_eq    rows of bits that are the same are equal, and the other way
-- By the tests of the definition, followed to their end once. Assumes nothing.
use Rattle.std.specs.Prelude.{Result, Ok, Err}
use Rattle.rules_calls.specs.declared.Refusal.{Refusal}
use mathlib.Core.Path.{◌≡◌, refl, sym, ap₂, ◌∙◌, subst}
use mathlib.Core.Bool.{Bool, true, false, ◌&&◌}
use mathlib.Core.List.{List, [], ◌∷◌}
use Prim.Native.Nat.{ℕ, ◌/◌, ◌%◌, ◌≤◌}
use borrow.Author.Tests.{eqb-true, eq-eqb, ne_eqb}
use lib.Dec.{T, eqb}
use lib.ListN.{take, drop}
use lib.IntN.{ℤ, nat_abs}
use Rattle.base.proofs.Tests.{left_is, right_is}
use Rattle.rules_rates.specs.declared.Rate.{Rate}
use Rattle.rules_rates.specs.Rates.{rate_of, length_field, bit7, octets_read, is_payload, length_holds}
use Rattle.rules_rates.proofs.Plain.{holds_only}
use Rattle.rules_bits.specs.Bits.{number_of}
use Rattle.rules_bits.specs.Crc.{crc_bits}
use Rattle.rules_frame.specs.declared.Kind.{Kind}
use Rattle.rules_frame.specs.Frame.{sfd_of}
use Rattle.rules_calls.specs.declared.Refusal.TheVariants.{Sfd, Crc, Signal, Service, Length}
use Rattle.rules_calls.specs.declared.Told.{Told}
use Rattle.rules_calls.specs.Answers.{refusal_length}
use Rattle.rules_calls.specs.Headers.{Accepted, told, same_bits, fields_of, header_of}

pub same_refl : (xs : List ℕ) → same_bits xs xs ≡ true
unfolding same_bits
same_refl [] = refl
same_refl (x ∷ xs) = rw (eq-eqb x x refl) (same_refl xs)

pub same_eq : (xs ys : List ℕ) → same_bits xs ys ≡ true → xs ≡ ys
unfolding same_bits
same_eq [] [] e = refl
same_eq [] (y ∷ ys) e = absurd (subst T (sym e) tt)
same_eq (x ∷ xs) [] e = absurd (subst T (sym e) tt)
same_eq (x ∷ xs) (y ∷ ys) e =
    ap₂ {C = List ℕ} (λ z zs. z ∷ zs) (eqb-true x y (left_is (eqb x y) (same_bits xs ys) e))
    (same_eq xs ys (right_is (eqb x y) (same_bits xs ys) e))

same_is : (xs ys : List ℕ) → xs ≡ ys → same_bits xs ys ≡ true
same_is xs ys e = subst (λ (zs : List ℕ). same_bits xs zs ≡ true) e (same_refl xs)

-- fields that are accepted, and what they tell: 1 to 4,095 octets, LENGTH and bit 7 being those sent for them
pub record Tells (accepted : Accepted) (k : Kind) (signal service l : ℕ) (t : Told) : Type 0 where
  pub rate_is : t.rate ≡ rate_of signal
  pub signal_in_lem : accepted.signals k signal ≡ true
  pub service_in_lem : accepted.services t.rate service ≡ true
  pub some : 1 ≤ t.n
  pub few : t.n ≤ 4095
  pub length_is : l ≡ length_field t.rate t.n
  pub seven_is : bit7 t.rate t.n ≡ service / 128 % 2
  pub clock_is : t.clock ≡ eqb (service / 4 % 2) 1
  pub told_is : t.length ≡ l

module _ (accepted : Accepted) (k : Kind) (signal service l : ℕ) where
  abbrev r : Rate
  r = rate_of signal

  abbrev seven : ℕ
  seven = service / 128 % 2

  pub data FieldsCome : Result Told Refusal → Type 0 where
    signal_out : accepted.signals k signal ≡ false → FieldsCome (Err (Signal l))
    service_out : accepted.signals k signal ≡ true → accepted.services r service ≡ false
        → FieldsCome (Err (Service l))
    length_out : accepted.signals k signal ≡ true → accepted.services r service ≡ true
        → length_holds r l seven ≡ false → FieldsCome (Err (Length l))
    fields_told : (t : Told) → Tells accepted k signal service l t → FieldsCome (Ok t)

  -- ---- each test, failed
  pub signal_refused : accepted.signals k signal ≡ false
      → fields_of accepted k signal service l ≡ Err (Signal l)
  unfolding fields_of
  signal_refused a = rw a

  pub service_refused : accepted.signals k signal ≡ true → accepted.services r service ≡ false
      → fields_of accepted k signal service l ≡ Err (Service l)
  unfolding fields_of
  service_refused a b = rw (a, b)

  pub length_refused : accepted.signals k signal ≡ true → accepted.services r service ≡ true
      → length_holds r l seven ≡ false → fields_of accepted k signal service l ≡ Err (Length l)
  unfolding fields_of
  length_refused a b c = rw (a, b, c)

  -- ---- and all of them passed
  abbrev z : ℤ
  z = octets_read r l seven

  abbrev all : Told
  all = told r l (nat_abs z) (eqb (service / 4 % 2) 1)

  pub fields_accepted : accepted.signals k signal ≡ true → accepted.services r service ≡ true
      → length_holds r l seven ≡ true → fields_of accepted k signal service l ≡ Ok all
  unfolding fields_of
  fields_accepted a b c = rw (a, b, c)

  holding : accepted.signals k signal ≡ true → accepted.services r service ≡ true → length_holds r l seven ≡ true
      → Tells accepted k signal service l all
  holding a b c =
      let n = nat_abs z in
      let first = left_is (is_payload z && eqb (length_field r n) l) (eqb (bit7 r n) seven) c in
      let size = holds_only r l seven c in
      record {
        rate_is = refl;
        signal_in_lem = a;
        service_in_lem = b;
        some = size.some;
        few = size.few;
        length_is = sym (eqb-true (length_field r n) l (right_is (is_payload z) _ first));
        seven_is = eqb-true (bit7 r n) seven (right_is (is_payload z && eqb (length_field r n) l) _ c);
        clock_is = refl;
        told_is = refl;
      }

  pub fields_come : FieldsCome (fields_of accepted k signal service l)
  fields_come = go _ _ _ refl refl refl
    where
      go : (a b c : Bool) → accepted.signals k signal ≡ a → accepted.services r service ≡ b
          → length_holds r l seven ≡ c → FieldsCome (fields_of accepted k signal service l)
      go false b c ea eb ec = subst FieldsCome (sym (signal_refused ea)) (signal_out ea)
      go true false c ea eb ec = subst FieldsCome (sym (service_refused ea eb)) (service_out ea eb)
      go true true false ea eb ec = subst FieldsCome (sym (length_refused ea eb ec)) (length_out ea eb ec)
      go true true true ea eb ec =
          subst FieldsCome (sym (fields_accepted ea eb ec)) (fields_told all (holding ea eb ec))

  -- ---- LENGTH
  abbrev pub LengthTold : Result Told Refusal → Type 0
  LengthTold (Err e) = refusal_length e ≡ l
  LengthTold (Ok t) = t.length ≡ l

  pub length_told : LengthTold (fields_of accepted k signal service l)
  length_told = go fields_come
    where
      go : {f : Result Told Refusal} → FieldsCome f → LengthTold f
      go (signal_out a) = refl
      go (service_out a b) = refl
      go (length_out a b c) = refl
      go (fields_told t h) = h.told_is

-- ---- 11 and 12 before them
module _ (accepted : Accepted) (k : Kind) (sfd header : List ℕ) where
  abbrev pub signal_in : ℕ
  signal_in = number_of (take 8 header)

  abbrev pub service_in : ℕ
  service_in = number_of (take 8 (drop 8 header))

  abbrev pub length_in : ℕ
  length_in = number_of (take 16 (drop 16 header))

  abbrev pub Summed : Type 0
  Summed = crc_bits (take 32 header) ≡ drop 32 header

  abbrev summed : Bool
  summed = same_bits (crc_bits (take 32 header)) (drop 32 header)

  pub data HeaderComes : Result Told Refusal → Type 0 where
    sfd_other : (number_of sfd ≡ sfd_of k → ⊥) → HeaderComes (Err Sfd)
    crc_other : number_of sfd ≡ sfd_of k → (Summed → ⊥) → HeaderComes (Err Crc)
    fields_behind : number_of sfd ≡ sfd_of k → Summed → {f : Result Told Refusal} → FieldsCome accepted k signal_in service_in length_in f
        → HeaderComes f

  pub sfd_refused : (number_of sfd ≡ sfd_of k → ⊥) → header_of accepted k sfd header ≡ Err Sfd
  unfolding header_of
  sfd_refused h = rw (ne_eqb _ _ h)

  unequal : (Summed → ⊥) → summed ≡ false
  unequal h = go summed refl
    where
      go : (b : Bool) → summed ≡ b → b ≡ false
      go false e = refl
      go true e = absurd (h (same_eq _ _ e))

  pub crc_refused : number_of sfd ≡ sfd_of k → (Summed → ⊥) → header_of accepted k sfd header ≡ Err Crc
  unfolding header_of
  crc_refused s h = rw (eq-eqb _ _ s, unequal h)

  pub header_accepted : number_of sfd ≡ sfd_of k → Summed
      → header_of accepted k sfd header ≡ fields_of accepted k signal_in service_in length_in
  unfolding header_of
  header_accepted s h = rw (eq-eqb _ _ s, same_is _ _ h)

  pub header_comes : HeaderComes (header_of accepted k sfd header)
  header_comes = go (eqb (number_of sfd) (sfd_of k)) summed refl refl
    where
      differ : eqb (number_of sfd) (sfd_of k) ≡ false → number_of sfd ≡ sfd_of k → ⊥
      differ e s = subst T (sym (eq-eqb _ _ s) ∙ e) tt

      go : (a b : Bool) → eqb (number_of sfd) (sfd_of k) ≡ a → summed ≡ b → HeaderComes (header_of accepted k sfd header)
      go false b ea eb = subst HeaderComes (sym (sfd_refused (differ ea))) (sfd_other (differ ea))
      go true false ea eb =
          let s = eqb-true _ _ ea in
          let other : Summed → ⊥ = λ h. subst T (sym (same_is _ _ h) ∙ eb) tt in
          subst HeaderComes (sym (crc_refused s other)) (crc_other s other)
      go true true ea eb =
          let s = eqb-true _ _ ea in
          let h = same_eq _ _ eb in
          subst HeaderComes (sym (header_accepted s h))
          (fields_behind s h (fields_come accepted k signal_in service_in length_in))
