-- The writer's header is read back.
--     fields_sent      the writer's SIGNAL, SERVICE and LENGTH for n octets tell the rate, n and the clock bit, to any
--                      reader that accepts them
--     fields_back      to ours, at each rate of the kind
--     fields_read      any three fields with their CRC and the SFD of the kind are the fields read
--     header_sent_lem      so the 48 bits of the writer's header come to what its fields do, for any reader
--     header_back      and ours are told the rate, n and the clock bit
-- The fields are cut out of the bits by computing, and LENGTH and bit 7 give n back. Assumes nothing.
use Rattle.std.specs.Prelude.{Ok, Err}
use mathlib.Core.Path.{◌≡◌, refl, ap, ◌∙◌}
use mathlib.Core.Bool.{Bool, true, false, cond, not}
use mathlib.Core.List.{List}
use Prim.Native.Nat.{ℕ, ◌+◌, ◌*◌, ◌/◌, ◌%◌, ◌≤◌, ◌<◌}
use native.Mathlib.Omega.{arith}
use borrow.Author.Tests.{eq-eqb}
use lib.Dec.{eqb, leb}
use Rattle.rules_rates.specs.declared.Rate.{Rate}
use Rattle.rules_rates.specs.declared.Rate.TheVariants.{One, Two, Five, Eleven}
use Rattle.rules_rates.specs.Rates.{code_of, is_code, rate_of, length_field, bit7}
use Rattle.rules_rates.proofs.Lengths.{octets_back, length_holds_lem}
use Rattle.rules_bits.specs.Bits.{bits_of, number_of}
use Rattle.rules_bits.specs.Crc.{crc_bits}
use Rattle.rules_bits.proofs.Bits.{number_bits}
use Rattle.rules_frame.specs.declared.Kind.{Kind}
use Rattle.rules_frame.proofs.Headers.{clock_lt}
use Rattle.rules_frame.specs.declared.Kind.TheVariants.{Long, Short}
use Rattle.rules_calls.specs.declared.Refusal.TheVariants.{Sfd, Crc}
use Rattle.rules_frame.specs.Frame.{sfd_of, goes_with, clock_bit, service_field, field_bits, header_bits, sent_header}
use Rattle.rules_calls.specs.Headers.{Accepted, ours, told, same_bits, service_allowed, fields_of, header_of}
use Rattle.rules_calls.proofs.Accepting.{same_refl}

pub code_small : (r : Rate) → code_of r < 256
code_small One = omega arith
code_small Two = omega arith
code_small Five = omega arith
code_small Eleven = omega arith

code_is : (r : Rate) → is_code (code_of r) ≡ true
code_is One = refl
code_is Two = refl
code_is Five = refl
code_is Eleven = refl

rate_back : (r : Rate) → rate_of (code_of r) ≡ r
rate_back One = refl
rate_back Two = refl
rate_back Five = refl
rate_back Eleven = refl

bit7_lt : (r : Rate) (n : ℕ) → bit7 r n < 2
bit7_lt One n = omega arith
bit7_lt Two n = omega arith
bit7_lt Five n = omega arith
bit7_lt Eleven n = one (leb (8 * n + 8) (11 * length_field Eleven n))
  where
    one : (b : Bool) → cond b 1 0 < 2
    one true = omega arith
    one false = omega arith

-- the bits of SERVICE
seven_back : (r : Rate) (clock : Bool) (n : ℕ) → service_field r clock n / 128 % 2 ≡ bit7 r n
seven_back r clock n = back (clock_bit clock) (bit7 r n) (clock_lt clock) (bit7_lt r n)
  where
    back : (c b : ℕ) → c < 2 → b < 2 → (4 * c + 128 * b) / 128 % 2 ≡ b
    back c b i h = omega arith

clock_back : (r : Rate) (clock : Bool) (n : ℕ) → eqb (service_field r clock n / 4 % 2) 1 ≡ clock
clock_back r clock n =
    ap (λ (c : ℕ). eqb c 1) (back (clock_bit clock) (bit7 r n) (clock_lt clock)) ∙ told_bit clock
  where
    back : (c b : ℕ) → c < 2 → (4 * c + 128 * b) / 4 % 2 ≡ c
    back c b i = omega arith

    told_bit : (clock : Bool) → eqb (clock_bit clock) 1 ≡ clock
    told_bit true = refl
    told_bit false = refl

service_back : (r : Rate) (clock : Bool) (n : ℕ) → service_allowed r (service_field r clock n) ≡ true
service_back One true n = refl
service_back One false n = refl
service_back Two true n = refl
service_back Two false n = refl
service_back Five true n = refl
service_back Five false n = refl
service_back Eleven clock n = one clock (leb (8 * n + 8) (11 * length_field Eleven n))
  where
    one : (clock b : Bool) → service_allowed Eleven (4 * clock_bit clock + 128 * cond b 1 0) ≡ true
    one true true = refl
    one true false = refl
    one false true = refl
    one false false = refl

-- the writer's three fields, for a reader that accepts them
pub fields_sent : (accepted : Accepted) (k : Kind) (r : Rate) (clock : Bool) (n : ℕ)
    → accepted.signals k (code_of r) ≡ true → accepted.services r (service_field r clock n) ≡ true → 1 ≤ n → n ≤ 4095
    → fields_of accepted k (code_of r) (service_field r clock n) (length_field r n)
    ≡ Ok (told r (length_field r n) n clock)
unfolding fields_of
fields_sent accepted k r clock n signal service low high =
    rw (
      signal,
      rate_back r,
      service,
      seven_back r clock n,
      clock_back r clock n,
      length_holds_lem r n low high,
      octets_back r n,
    )

-- ours accept them at each rate of the kind
module _ (k : Kind) (r : Rate) (clock : Bool) (n : ℕ) (goes : goes_with k r ≡ true) (low : 1 ≤ n) (high : n ≤ 4095) where
  pub fields_back : fields_of ours k (code_of r) (service_field r clock n) (length_field r n)
      ≡ Ok (told r (length_field r n) n clock)
  fields_back = fields_sent ours k r clock n (rw (code_is r, rate_back r) goes) (service_back r clock n) low high

-- the header's bits, cut
cut : (accepted : Accepted) (k : Kind) (s v l : ℕ) (sfd : List ℕ)
    → header_of accepted k sfd (header_bits s v l)
    ≡ cond (not (eqb (number_of sfd) (sfd_of k))) (Err Sfd)
    (cond (not (same_bits (crc_bits (field_bits s v l)) (crc_bits (field_bits s v l)))) (Err Crc)
    (fields_of accepted k (number_of (bits_of 8 s)) (number_of (bits_of 8 v)) (number_of (bits_of 16 l))))
unfolding header_of header_bits field_bits bits_of
cut accepted k s v l sfd = refl

sfd_back : (k : Kind) → number_of (bits_of 16 (sfd_of k)) ≡ sfd_of k
sfd_back Long = number_bits 16 0xF3A0 (omega arith)
sfd_back Short = number_bits 16 0x05CF (omega arith)

-- any three fields that fit, with their CRC and the SFD of the kind, are the fields read
pub fields_read : (accepted : Accepted) (k : Kind) (s v l : ℕ) → s < 256 → v < 256 → l < 65536
    → header_of accepted k (bits_of 16 (sfd_of k)) (header_bits s v l) ≡ fields_of accepted k s v l
fields_read accepted k s v l hs hv hl =
    cut accepted k s v l (bits_of 16 (sfd_of k))
    ∙ rw (
      eq-eqb _ _ (sfd_back k),
      same_refl (crc_bits (field_bits s v l)),
      number_bits 8 s hs,
      number_bits 8 v hv,
      number_bits 16 l hl,
    )

length_lt : (r : Rate) (n : ℕ) → n ≤ 4095 → length_field r n < 65536
length_lt One n h = omega arith
length_lt Two n h = omega arith
length_lt Five n h = omega arith
length_lt Eleven n h = omega arith

service_lt : (r : Rate) (clock : Bool) (n : ℕ) → service_field r clock n < 256
service_lt r clock n = omega (arith, clock_lt clock, bit7_lt r n)

-- so the writer's header comes to what its fields do, accepted or not
pub header_sent_lem : (accepted : Accepted) (k : Kind) (r : Rate) (clock : Bool) (n : ℕ) → n ≤ 4095
    → header_of accepted k (bits_of 16 (sfd_of k)) (sent_header r clock n)
    ≡ fields_of accepted k (code_of r) (service_field r clock n) (length_field r n)
unfolding sent_header
header_sent_lem accepted k r clock n high =
    fields_read accepted k (code_of r) (service_field r clock n) (length_field r n) (code_small r) (service_lt r clock n)
    (length_lt r n high)

-- promise: A writer's header tells a reader its rate, LENGTH, n and clock bit
-- rule: 5.8 to 5.14
-- code: header_octets, common_header::header_of
pub header_back : (k : Kind) (r : Rate) (clock : Bool) (n : ℕ) → goes_with k r ≡ true → 1 ≤ n → n ≤ 4095
    → header_of ours k (bits_of 16 (sfd_of k)) (sent_header r clock n) ≡ Ok (told r (length_field r n) n clock)
header_back k r clock n goes low high = header_sent_lem ours k r clock n high ∙ fields_back k r clock n goes low high
