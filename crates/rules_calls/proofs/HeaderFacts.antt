-- Headers, computed from the definition and compared with what RULES 5.8 to 5.14 and 6.4 say of each: refusals 11 to 15
-- with number, place and LENGTH, at their limits and where two hold together, and what a good header tells, all for
-- what our readers accept; and what a guide of 1997 makes of a few (RULES 6.30). Assumes nothing.
use Rattle.std.specs.Prelude.{Result, Ok, Err}
use Rattle.rules_calls.specs.declared.Told.{Told}
use Rattle.rules_calls.specs.declared.Refusal.{Refusal}
use mathlib.Core.Path.{◌≡◌, refl}
use mathlib.Core.Bool.{cond}
use mathlib.Core.List.{List, [], ◌∷◌, ◌++◌, map}
use Prim.Native.Nat.{ℕ, zero, suc, ◌-◌}
use lib.ListN.{set, get_or, replicate}
use Rattle.rules_rates.specs.declared.Rate.{Rate}
use Rattle.rules_rates.specs.declared.Rate.TheVariants.{One, Two, Five, Eleven}
use Rattle.rules_rates.specs.Rates.{code_of}
use Rattle.rules_bits.specs.Bits.{bits_of, number_of}
use Rattle.rules_bits.specs.Crc.{add_where, crc_step, remainder, crc_bits}
use Rattle.rules_frame.specs.Frame.{clock_bit, field_bits, header_bits}
use Rattle.rules_frame.specs.declared.Kind.{Kind}
use Rattle.rules_frame.specs.declared.Kind.TheVariants.{Long, Short}
use Rattle.rules_calls.specs.declared.Record.{Record}
use Rattle.rules_calls.specs.Answers.{record_of}
use Rattle.rules_calls.specs.Headers.{service_allowed, ours, of1997, same_bits, fields_of, header_of}

-- a refusal's number, place and LENGTH; or what a good header tells: 0, rate code, LENGTH, n, the clock bit
abbrev refused : Record → List ℕ
refused a = a.number ∷ a.place ∷ a.length ∷ []

abbrev told : Result Told Refusal → List ℕ
told (Err e) = refused (record_of (Err e))
told (Ok t) = 0 ∷ code_of t.rate ∷ t.length ∷ t.n ∷ clock_bit t.clock ∷ []

-- SIGNAL: the four codes of a long header, the three of a short one. LENGTH 8 with SERVICE 0 is 1, 2, 5 or 11 octets
pub signals_long : map (λ (s : ℕ). told (fields_of ours Long s 0 8)) (10 ∷ 20 ∷ 55 ∷ 110 ∷ 0 ∷ 11 ∷ 21 ∷ 138 ∷ [])
    ≡ (0 ∷ 10 ∷ 8 ∷ 1 ∷ 0 ∷ []) ∷ (0 ∷ 20 ∷ 8 ∷ 2 ∷ 0 ∷ []) ∷ (0 ∷ 55 ∷ 8 ∷ 5 ∷ 0 ∷ []) ∷ (0 ∷ 110 ∷ 8 ∷ 11 ∷ 0 ∷ [])
    ∷ (13 ∷ 0 ∷ 8 ∷ []) ∷ (13 ∷ 0 ∷ 8 ∷ []) ∷ (13 ∷ 0 ∷ 8 ∷ []) ∷ (13 ∷ 0 ∷ 8 ∷ []) ∷ []
unfolding fields_of
signals_long = refl

pub signals_short : map (λ (s : ℕ). told (fields_of ours Short s 0 8)) (10 ∷ 20 ∷ 55 ∷ 110 ∷ 111 ∷ [])
    ≡ (13 ∷ 0 ∷ 8 ∷ []) ∷ (0 ∷ 20 ∷ 8 ∷ 2 ∷ 0 ∷ []) ∷ (0 ∷ 55 ∷ 8 ∷ 5 ∷ 0 ∷ []) ∷ (0 ∷ 110 ∷ 8 ∷ 11 ∷ 0 ∷ [])
    ∷ (13 ∷ 0 ∷ 8 ∷ []) ∷ []
unfolding fields_of
signals_short = refl

-- SERVICE, all 256 values: those that a rate allows, the largest first
pub allowed : Rate → ℕ → List ℕ
allowed r zero = []
allowed r (suc s) = cond (service_allowed r s) (s ∷ allowed r s) (allowed r s)

pub services_all : map (λ (r : Rate). allowed r 256) (One ∷ Two ∷ Five ∷ Eleven ∷ [])
    ≡ (4 ∷ 0 ∷ []) ∷ (4 ∷ 0 ∷ []) ∷ (4 ∷ 0 ∷ []) ∷ (132 ∷ 128 ∷ 4 ∷ 0 ∷ []) ∷ []
unfolding allowed
services_all = refl

-- what they tell: 0 and 4 at every rate, 128 and 132 with 14 but at 11 Mbit/s, where 4 and 132 tell the clock bit and
-- 128 and 132 bit 7. LENGTH 8 is 1, 2, 5 or 11 octets, 10 with bit 7
abbrev services : ℕ → List (List ℕ)
services signal = map (λ (s : ℕ). told (fields_of ours Long signal s 8)) (0 ∷ 4 ∷ 128 ∷ 132 ∷ [])

pub services_each : map services (10 ∷ 20 ∷ 55 ∷ 110 ∷ [])
    ≡ ((0 ∷ 10 ∷ 8 ∷ 1 ∷ 0 ∷ []) ∷ (0 ∷ 10 ∷ 8 ∷ 1 ∷ 1 ∷ []) ∷ (14 ∷ 0 ∷ 8 ∷ []) ∷ (14 ∷ 0 ∷ 8 ∷ []) ∷ [])
    ∷ ((0 ∷ 20 ∷ 8 ∷ 2 ∷ 0 ∷ []) ∷ (0 ∷ 20 ∷ 8 ∷ 2 ∷ 1 ∷ []) ∷ (14 ∷ 0 ∷ 8 ∷ []) ∷ (14 ∷ 0 ∷ 8 ∷ []) ∷ [])
    ∷ ((0 ∷ 55 ∷ 8 ∷ 5 ∷ 0 ∷ []) ∷ (0 ∷ 55 ∷ 8 ∷ 5 ∷ 1 ∷ []) ∷ (14 ∷ 0 ∷ 8 ∷ []) ∷ (14 ∷ 0 ∷ 8 ∷ []) ∷ [])
    ∷ ((0 ∷ 110 ∷ 8 ∷ 11 ∷ 0 ∷ []) ∷ (0 ∷ 110 ∷ 8 ∷ 11 ∷ 1 ∷ []) ∷ (0 ∷ 110 ∷ 8 ∷ 10 ∷ 0 ∷ [])
    ∷ (0 ∷ 110 ∷ 8 ∷ 10 ∷ 1 ∷ []) ∷ []) ∷ []
unfolding fields_of
services_each = refl

-- every other bit is refused with 14, alone and with the clock bit, under each kind at its lowest rate and at 11 Mbit/s
abbrev fourteens : Kind → ℕ → List (List ℕ)
fourteens k signal =
    map (λ (s : ℕ). told (fields_of ours k signal s 8))
    (1 ∷ 2 ∷ 8 ∷ 16 ∷ 32 ∷ 64 ∷ 5 ∷ 6 ∷ 12 ∷ 20 ∷ 36 ∷ 68 ∷ 129 ∷ 133 ∷ [])

pub services_refused : fourteens Long 10 ++ fourteens Long 110 ++ fourteens Short 20 ++ fourteens Short 110
    ≡ replicate 56 (14 ∷ 0 ∷ 8 ∷ [])
unfolding fields_of
services_refused = refl

-- the clock bit beside 13 and 15, whose order and LENGTH it leaves as they are; with a bit more it is 14
pub clock_order : map (λ (s : ℕ). told (fields_of ours Long 11 s 8)) (4 ∷ 5 ∷ [])
    ++ map (λ (s : ℕ). told (fields_of ours Long 110 s 9)) (4 ∷ 132 ∷ 5 ∷ [])
    ≡ (13 ∷ 0 ∷ 8 ∷ []) ∷ (13 ∷ 0 ∷ 8 ∷ [])
    ∷ (0 ∷ 110 ∷ 9 ∷ 12 ∷ 1 ∷ []) ∷ (15 ∷ 0 ∷ 9 ∷ []) ∷ (14 ∷ 0 ∷ 9 ∷ []) ∷ []
unfolding fields_of
clock_order = refl

-- and whole: the bit changed on its way, either way, is 12; set, with the other kind's SFD, 11; with LENGTH 9, 15
pub clock_headers : map told
    (header_of ours Long (bits_of 16 0xF3A0) (set (header_bits 10 0 8) 10 1)
    ∷ header_of ours Long (bits_of 16 0xF3A0) (set (header_bits 10 4 8) 10 0)
    ∷ header_of ours Long (bits_of 16 0x05CF) (header_bits 10 4 8)
    ∷ header_of ours Long (bits_of 16 0xF3A0) (header_bits 10 4 9)
    ∷ header_of ours Short (bits_of 16 0x05CF) (header_bits 110 132 3)
    ∷ [])
    ≡ (12 ∷ 0 ∷ 0 ∷ []) ∷ (12 ∷ 0 ∷ 0 ∷ []) ∷ (11 ∷ 0 ∷ 0 ∷ []) ∷ (15 ∷ 0 ∷ 9 ∷ []) ∷ (0 ∷ 110 ∷ 3 ∷ 3 ∷ 1 ∷ []) ∷ []
unfolding field_bits header_bits bits_of number_of add_where crc_step remainder crc_bits same_bits fields_of header_of
clock_headers = refl

-- LENGTH at the limits of 1 to 4,095 octets, and of no number of octets, at each rate; at 11 Mbit/s also with bit 7
pub lengths : map (λ (l : ℕ). told (fields_of ours Long 10 0 l)) (0 ∷ 8 ∷ 9 ∷ 32760 ∷ 32768 ∷ [])
    ∷ map (λ (l : ℕ). told (fields_of ours Long 20 0 l)) (0 ∷ 4 ∷ 5 ∷ 16380 ∷ 16384 ∷ [])
    ∷ map (λ (l : ℕ). told (fields_of ours Long 55 0 l)) (0 ∷ 2 ∷ 4 ∷ 5957 ∷ 5958 ∷ [])
    ∷ map (λ (l : ℕ). told (fields_of ours Long 110 0 l)) (0 ∷ 1 ∷ 7 ∷ 2978 ∷ 2979 ∷ [])
    ∷ map (λ (l : ℕ). told (fields_of ours Long 110 128 l)) (0 ∷ 1 ∷ 3 ∷ 2979 ∷ 2980 ∷ [])
    ∷ []
    ≡ ((15 ∷ 0 ∷ 0 ∷ []) ∷ (0 ∷ 10 ∷ 8 ∷ 1 ∷ 0 ∷ []) ∷ (15 ∷ 0 ∷ 9 ∷ []) ∷ (0 ∷ 10 ∷ 32760 ∷ 4095 ∷ 0 ∷ [])
    ∷ (15 ∷ 0 ∷ 32768 ∷ []) ∷ [])
    ∷ ((15 ∷ 0 ∷ 0 ∷ []) ∷ (0 ∷ 20 ∷ 4 ∷ 1 ∷ 0 ∷ []) ∷ (15 ∷ 0 ∷ 5 ∷ []) ∷ (0 ∷ 20 ∷ 16380 ∷ 4095 ∷ 0 ∷ [])
    ∷ (15 ∷ 0 ∷ 16384 ∷ []) ∷ [])
    ∷ ((15 ∷ 0 ∷ 0 ∷ []) ∷ (0 ∷ 55 ∷ 2 ∷ 1 ∷ 0 ∷ []) ∷ (15 ∷ 0 ∷ 4 ∷ []) ∷ (0 ∷ 55 ∷ 5957 ∷ 4095 ∷ 0 ∷ [])
    ∷ (15 ∷ 0 ∷ 5958 ∷ []) ∷ [])
    ∷ ((15 ∷ 0 ∷ 0 ∷ []) ∷ (0 ∷ 110 ∷ 1 ∷ 1 ∷ 0 ∷ []) ∷ (0 ∷ 110 ∷ 7 ∷ 9 ∷ 0 ∷ []) ∷ (0 ∷ 110 ∷ 2978 ∷ 4094 ∷ 0 ∷ [])
    ∷ (15 ∷ 0 ∷ 2979 ∷ []) ∷ [])
    ∷ ((15 ∷ 0 ∷ 0 ∷ []) ∷ (15 ∷ 0 ∷ 1 ∷ []) ∷ (0 ∷ 110 ∷ 3 ∷ 3 ∷ 0 ∷ []) ∷ (0 ∷ 110 ∷ 2979 ∷ 4095 ∷ 0 ∷ [])
    ∷ (15 ∷ 0 ∷ 2980 ∷ []) ∷ [])
    ∷ []
unfolding fields_of
lengths = refl

-- headers whole: good; the other kind's SFD, and one with a bit changed; a changed bit of SIGNAL, SERVICE, LENGTH and
-- CRC; then two at a time, the earlier one given: 11 and 12, 12 and 13, 13 and 14, 14 and 15
pub headers : List (List ℕ)
headers =
    map told
    (header_of ours Long (bits_of 16 0xF3A0) (header_bits 10 0 8)
    ∷ header_of ours Short (bits_of 16 0x05CF) (header_bits 110 128 3)
    ∷ header_of ours Long (bits_of 16 0x05CF) (header_bits 10 0 8)
    ∷ header_of ours Short (bits_of 16 0x85CF) (header_bits 20 0 8)
    ∷ header_of ours Long (bits_of 16 0xF3A0) (set (header_bits 10 0 8) 0 1)
    ∷ header_of ours Long (bits_of 16 0xF3A0) (set (header_bits 10 0 8) 8 1)
    ∷ header_of ours Long (bits_of 16 0xF3A0) (set (header_bits 10 0 8) 31 1)
    ∷ header_of ours Long (bits_of 16 0xF3A0) (set (header_bits 10 0 8) 47 0)
    ∷ header_of ours Long (bits_of 16 0xF3A1) (set (header_bits 10 0 8) 31 1)
    ∷ header_of ours Long (bits_of 16 0xF3A0) (set (header_bits 11 0 8) 31 1)
    ∷ header_of ours Long (bits_of 16 0xF3A0) (header_bits 11 1 8)
    ∷ header_of ours Long (bits_of 16 0xF3A0) (header_bits 10 1 9)
    ∷ [])

pub headers_facts : headers
    ≡ (0 ∷ 10 ∷ 8 ∷ 1 ∷ 0 ∷ [])
    ∷ (0 ∷ 110 ∷ 3 ∷ 3 ∷ 0 ∷ [])
    ∷ (11 ∷ 0 ∷ 0 ∷ [])
    ∷ (11 ∷ 0 ∷ 0 ∷ [])
    ∷ (12 ∷ 0 ∷ 0 ∷ [])
    ∷ (12 ∷ 0 ∷ 0 ∷ [])
    ∷ (12 ∷ 0 ∷ 0 ∷ [])
    ∷ (12 ∷ 0 ∷ 0 ∷ [])
    ∷ (11 ∷ 0 ∷ 0 ∷ [])
    ∷ (12 ∷ 0 ∷ 0 ∷ [])
    ∷ (13 ∷ 0 ∷ 8 ∷ [])
    ∷ (14 ∷ 0 ∷ 9 ∷ [])
    ∷ []
unfolding headers field_bits header_bits bits_of number_of add_where crc_step remainder crc_bits same_bits fields_of header_of
headers_facts = refl

-- 13 and 14 tell all sixteen bits of LENGTH
pub long_lengths : told (fields_of ours Long 11 0 65535) ∷ told (fields_of ours Long 10 1 65535) ∷ []
    ≡ (13 ∷ 0 ∷ 65535 ∷ []) ∷ (14 ∷ 0 ∷ 65535 ∷ []) ∷ []
unfolding fields_of
long_lengths = refl

-- each bit of the CRC
pub crc_each : map
    (λ (i : ℕ). told
    (header_of ours Long (bits_of 16 0xF3A0) (set (header_bits 10 0 8) i (1 - get_or (header_bits 10 0 8) i 0))))
    (32 ∷ 33 ∷ 34 ∷ 35 ∷ 36 ∷ 37 ∷ 38 ∷ 39 ∷ 40 ∷ 47 ∷ [])
    ≡ (12 ∷ 0 ∷ 0 ∷ []) ∷ (12 ∷ 0 ∷ 0 ∷ []) ∷ (12 ∷ 0 ∷ 0 ∷ []) ∷ (12 ∷ 0 ∷ 0 ∷ []) ∷ (12 ∷ 0 ∷ 0 ∷ [])
    ∷ (12 ∷ 0 ∷ 0 ∷ []) ∷ (12 ∷ 0 ∷ 0 ∷ []) ∷ (12 ∷ 0 ∷ 0 ∷ []) ∷ (12 ∷ 0 ∷ 0 ∷ []) ∷ (12 ∷ 0 ∷ 0 ∷ []) ∷ []
unfolding field_bits header_bits bits_of number_of add_where crc_step remainder crc_bits same_bits fields_of header_of
crc_each = refl

-- a guide of 1997: SIGNAL 10 and 20 alone, whatever SERVICE and LENGTH are; then SERVICE 0 alone, whatever LENGTH is
pub guides_facts : map (λ (s : ℕ). told (fields_of of1997 Long s 0 8)) (10 ∷ 20 ∷ 55 ∷ 110 ∷ 0 ∷ 11 ∷ [])
    ++ map (λ (s : ℕ). told (fields_of of1997 Long s 4 9)) (10 ∷ 20 ∷ 55 ∷ 110 ∷ [])
    ++ map (λ (s : ℕ). told (fields_of of1997 Long 10 s 9)) (0 ∷ 1 ∷ 128 ∷ [])
    ≡ (0 ∷ 10 ∷ 8 ∷ 1 ∷ 0 ∷ []) ∷ (0 ∷ 20 ∷ 8 ∷ 2 ∷ 0 ∷ [])
    ∷ (13 ∷ 0 ∷ 8 ∷ []) ∷ (13 ∷ 0 ∷ 8 ∷ []) ∷ (13 ∷ 0 ∷ 8 ∷ []) ∷ (13 ∷ 0 ∷ 8 ∷ [])
    ∷ (14 ∷ 0 ∷ 9 ∷ []) ∷ (14 ∷ 0 ∷ 9 ∷ []) ∷ (13 ∷ 0 ∷ 9 ∷ []) ∷ (13 ∷ 0 ∷ 9 ∷ [])
    ∷ (15 ∷ 0 ∷ 9 ∷ []) ∷ (14 ∷ 0 ∷ 9 ∷ []) ∷ (14 ∷ 0 ∷ 9 ∷ []) ∷ []
unfolding fields_of
guides_facts = refl
