-- The header's fields as a front is heard are the numbers of their bits (Decoded.antt), and its CRC is right exactly
-- where the number of the CRC's bits is that of the three fields.
--     sfd_field, signal_field, service_field_lem, length_field_lem, crc_field
--     crc_is_right, crc_is_wrong
-- Assumes nothing.
use mathlib.Core.Path.{◌≡◌, sym, ap, ap₂, ◌∙◌, subst}
use mathlib.Core.List.{List, ◌++◌}
use Prim.Native.Nat.{ℕ, ◌+◌, ◌≤◌}
use native.Mathlib.Omega.{arith}
use lib.ListN.{length, take, drop, length-drop, take-append-drop}
use lib.Seq.{length-take-le, drop-drop, take_all, take-append-add}
use Rattle.base.specs.Below.{Below}
use Rattle.base.proofs.Below.{below_take, below_drop}
use Rattle.rules_rates.specs.declared.Rate.{Rate}
use Rattle.rules_rates.specs.declared.Rate.TheVariants.{One}
use Rattle.rules_chips.specs.Chips.{Taken}
use Rattle.rules_bits.specs.Bits.{bits_of, number_of}
use Rattle.rules_bits.specs.Crc.{crc_bits}
use Rattle.rules_bits.proofs.Bits.{bits_number}
use Rattle.rules_bits.proofs.Crc.{crc_length, crc_below}
use Rattle.rules_bits.proofs.Scrambler.{descramble_length, descramble_below}
use Rattle.rules_frame.specs.declared.Kind.{Kind}
use Rattle.rules_frame.specs.declared.Kind.TheVariants.{Long, Short}
use Rattle.rules_frame.specs.Frame.{sync_bits, start, preamble_length, field_bits}
use Rattle.rules_reading.specs.Decoded.{FieldAt}
use Rattle.rules_reading.specs.Reading.{front_heard, front_bits}
use Rattle.rules_reading.specs.Heard.{sfd_heard, header_heard, signal_heard, service_heard, length_heard}
use Rattle.rules_reading.proofs.Refusals.{CrcHeard}
use Rattle.rules_reading.proofs.Decoding.{front_length, front_fields}

some_sync : (k : Kind) → 8 ≤ sync_bits k
some_sync Long = omega arith
some_sync Short = omega arith

-- so many, and then so many more
take_more : (m c : ℕ) (xs : List ℕ) → m ≤ length xs → take (m + c) xs ≡ take m xs ++ take c (drop m xs)
take_more m c xs h =
    let long : length (take m xs) ≡ m = length-take-le m xs h in
    ap₂ {C = List ℕ} (λ i ys. take (i + c) ys) (sym long) (sym (take-append-drop m xs))
    ∙ take-append-add (take m xs) (drop m xs) c

module _ (k : Kind) (rec : List Taken) where
  abbrev P : ℕ
  P = preamble_length k

  abbrev header : List ℕ
  header = header_heard k rec

  bits_length : length (front_bits k rec) ≡ P + 48
  unfolding front_bits
  bits_length = descramble_length (start k) (front_heard k rec) ∙ front_length k One rec 0

  pub header_length_lem : length header ≡ 48
  header_length_lem = length-drop P (front_bits k rec) ∙ omega (arith, bits_length)

  pub header_below : Below 2 header
  unfolding front_bits
  header_below = below_drop P (descramble_below (start k) (front_heard k rec))

  -- ---- the fields, as numbers of bits of the frame, whatever its payload is
  module _ (r : Rate) (n : ℕ) where
    pub sfd_field : FieldAt k r rec n (sync_bits k) 16 (number_of (sfd_heard k rec))
    sfd_field = front_fields k r rec n (sync_bits k) 16 (some_sync k) (omega arith)

    part_field : (from count : ℕ) → from + count ≤ 48
        → FieldAt k r rec n (P + from) count (number_of (take count (drop from header)))
    part_field from count l =
        subst (FieldAt k r rec n (P + from) count)
        (ap (λ (x : List ℕ). number_of (take count x)) (sym (drop-drop from P (front_bits k rec))))
        (front_fields k r rec n (P + from) count (omega arith) (omega arith))

    pub signal_field : FieldAt k r rec n P 8 (signal_heard k rec)
    signal_field = front_fields k r rec n P 8 (omega arith) (omega arith)

    pub service_field_lem : FieldAt k r rec n (P + 8) 8 (service_heard k rec)
    service_field_lem = part_field 8 8 (omega arith)

    pub length_field_lem : FieldAt k r rec n (P + 16) 16 (length_heard k rec)
    length_field_lem = part_field 16 16 (omega arith)

    pub crc_field : FieldAt k r rec n (P + 32) 16 (number_of (drop 32 header))
    crc_field =
        subst (λ (x : List ℕ). FieldAt k r rec n (P + 32) 16 (number_of x))
        (take_all 16 (drop 32 header) (omega (arith, length-drop 32 header, header_length_lem)))
        (part_field 32 16 (omega arith))

  -- ---- the CRC, over the three fields
  abbrev summed : List ℕ
  summed = crc_bits (field_bits (signal_heard k rec) (service_heard k rec) (length_heard k rec))

  pub fields_are : field_bits (signal_heard k rec) (service_heard k rec) (length_heard k rec) ≡ take 32 header
  unfolding field_bits
  fields_are =
      ap₂ {C = List ℕ} (λ x y. x ++ y)
      (bits_number 8 (take 8 header) (length-take-le 8 header (omega (arith, header_length_lem)))
      (below_take 8 header_below))
      (ap₂ {C = List ℕ} (λ x y. x ++ y)
      (bits_number 8 (take 8 (drop 8 header)) (length-take-le 8 (drop 8 header) eight)
      (below_take 8 (below_drop 8 header_below)))
      (bits_number 16 (take 16 (drop 16 header)) (length-take-le 16 (drop 16 header) sixteen)
      (below_take 16 (below_drop 16 header_below))))
      ∙ sym
      (take_more 8 24 header (omega (arith, header_length_lem))
      ∙ ap (λ (x : List ℕ). take 8 header ++ x)
      (take_more 8 16 (drop 8 header) eight
      ∙ ap (λ (x : List ℕ). take 8 (drop 8 header) ++ take 16 x) (drop-drop 8 8 header)))
    where
      eight : 8 ≤ length (drop 8 header)
      eight = omega (arith, length-drop 8 header, header_length_lem)

      sixteen : 16 ≤ length (drop 16 header)
      sixteen = omega (arith, length-drop 16 header, header_length_lem)

  summed_is : summed ≡ crc_bits (take 32 header)
  summed_is = ap crc_bits fields_are

  pub crc_is_right : CrcHeard k rec → number_of (drop 32 header) ≡ number_of summed
  crc_is_right h = ap number_of (sym (summed_is ∙ h))

  pub crc_is_wrong : (CrcHeard k rec → ⊥) → number_of (drop 32 header) ≡ number_of summed → ⊥
  crc_is_wrong h e =
      h
      (sym summed_is
      ∙ sym (bits_number 16 summed (crc_length _) (crc_below _))
      ∙ ap (bits_of 16) (sym e)
      ∙ bits_number 16 (drop 32 header) (length-drop 32 header ∙ omega (arith, header_length_lem))
      (below_drop 32 header_below))
