-- What a header tells, from its bits, by who reads: refusals 11 to 15, in this order (RULES 5.8 to 5.14, 6.4, 6.30).
-- Definitions only. Assumes nothing.
use Rattle.rules_calls.specs.declared.Refusal.{Refusal}
use Rattle.std.specs.Prelude.{ℕ, ◌/◌, ◌%◌, Bool, true, false, cond, not, ◌&&◌, ◌||◌, List, [], ◌∷◌, take, drop, eqb, nat_abs, Result, Ok, Err}
use Rattle.rules_rates.specs.declared.Rate.{Rate}
use Rattle.rules_rates.specs.declared.Rate.TheVariants.{One, Two, Five, Eleven}
use Rattle.rules_rates.specs.Rates.{is_code, rate_of, octets_read, length_holds}
use Rattle.rules_bits.specs.Bits.{number_of}
use Rattle.rules_bits.specs.Crc.{crc_bits}
use Rattle.rules_frame.specs.declared.Kind.{Kind}
use Rattle.rules_frame.specs.Frame.{sfd_of, goes_with}
use Rattle.rules_calls.specs.declared.Refusal.TheVariants.{Sfd, Crc, Signal, Service, Length}
use Rattle.rules_calls.specs.declared.Told.{Told}
use Rattle.rules_calls.specs.declared.Reader.{Reader}
use Rattle.rules_calls.specs.declared.Reader.TheVariants.{Ours, Of1997}

-- 14: SERVICE is 0 or 4, its bit 2 being the clock bit; at 11 Mbit/s, where bit 7 may be set, also 128 or 132
abbrev pub service_allowed : Rate → ℕ → Bool
service_allowed One s = eqb s 0 || eqb s 4
service_allowed Two s = eqb s 0 || eqb s 4
service_allowed Five s = eqb s 0 || eqb s 4
service_allowed Eleven s = eqb s 0 || eqb s 4 || eqb s 128 || eqb s 132

-- which headers a reader accepts: 13 and 14 are asked by these two tests alone
pub record Accepted : Type 0 where
  -- 13: the SIGNALs of a kind
  pub signals : Kind → ℕ → Bool
  -- 14: the SERVICEs of a rate
  pub services : Rate → ℕ → Bool

-- what our readers accept: the codes of the rates that go with the kind, and SERVICE as above
abbrev pub ours : Accepted
ours = record { signals = λ k signal. is_code signal && goes_with k (rate_of signal); services = service_allowed }

-- what the guides of 1997 accept: SIGNAL 10 or 20, and SERVICE 0. They know the long kind alone, so it is not asked
abbrev pub of1997 : Accepted
of1997 = record { signals = λ k signal. eqb signal 10 || eqb signal 20; services = λ r s. eqb s 0 }

-- which of the two, from who reads
-- working notion: of the code, in which who reads is a value
abbrev pub accepted_by : Reader → Accepted
accepted_by Ours = ours
accepted_by Of1997 = of1997

-- two rows of bits are the same
unfoldable pub same_bits : List ℕ → List ℕ → Bool
same_bits [] [] = true
same_bits [] (y ∷ ys) = false
same_bits (x ∷ xs) [] = false
same_bits (x ∷ xs) (y ∷ ys) = eqb x y && same_bits xs ys

-- what a good header tells
abbrev pub told : Rate → ℕ → ℕ → Bool → Told
told r l n clock = record { rate = r; length = l; n = n; clock = clock }

-- 13, 14, 15: from the three fields, for a reader that accepts these headers
unfoldable pub fields_of : Accepted → Kind → ℕ → ℕ → ℕ → Result Told Refusal
fields_of accepted k signal service l =
    let r = rate_of signal in
    let seven = service / 128 % 2 in
    let clock = eqb (service / 4 % 2) 1 in
    cond (not (accepted.signals k signal)) (Err (Signal l))
    (cond (not (accepted.services r service)) (Err (Service l))
    (cond (not (length_holds r l seven)) (Err (Length l))
    (Ok (told r l (nat_abs (octets_read r l seven)) clock))))

-- 11 to 15: from the header's 48 bits and the SFD's sixteen. SYNC bits are not compared
unfoldable pub header_of : Accepted → Kind → List ℕ → List ℕ → Result Told Refusal
header_of accepted k sfd header =
    cond (not (eqb (number_of sfd) (sfd_of k))) (Err Sfd)
    (cond (not (same_bits (crc_bits (take 32 header)) (drop 32 header))) (Err Crc)
    (fields_of accepted k (number_of (take 8 header)) (number_of (take 8 (drop 8 header)))
    (number_of (take 16 (drop 16 header)))))
