-- The frame: its two kinds of front, the header, the payload, and all of its chips (RULES 5.1 to 5.14).
-- Source 002, an earlier draft, has a short header at 5.5 Mbit/s and uses the lowest SERVICE bit: both were given up.
-- Definitions only. Assumes nothing.
use Rattle.std.specs.Prelude.{◌≡◌, Result, MatchResult, ℕ, ◌+◌, ◌*◌, Bool, true, false, cond, not, List, [], ◌∷◌, ◌++◌, length, take, drop, replicate, eqb, ltb}
use Rattle.rules_rates.specs.declared.Rate.{Rate}
use Rattle.rules_rates.specs.declared.Rate.TheVariants.{One, Two, Five, Eleven}
use Rattle.rules_rates.specs.Rates.{code_of, symbol_chips, octet_chips, length_field, bit7}
use Rattle.rules_bits.specs.Bits.{bits_of, octet_bits}
use Rattle.rules_bits.specs.Growths.{symbols_of, chips_from, last_phase}
use Rattle.rules_bits.specs.Scrambler.{scramble}
use Rattle.rules_bits.specs.Crc.{crc_bits}
use Rattle.rules_frame.specs.declared.Kind.{Kind}
use Rattle.rules_frame.specs.declared.UnknownKind.{UnknownKind}
use Rattle.rules_frame.specs.declared.Kind.TheVariants.{Long, Short}

-- kind is 0 (long) or 1 (short)
abbrev pub is_kind : ℕ → Bool
is_kind kind = ltb kind 2

abbrev pub kind_of : ℕ → Kind
kind_of kind = cond (eqb kind 0) Long Short

-- what comes of a number taken as a kind: the kind, or that it is none
-- working notion: of the code that takes it so
abbrev pub Kinded : ℕ → Result Kind UnknownKind → Type 0
Kinded n r = MatchResult r (λ k. (is_kind n ≡ true) × (k ≡ kind_of n)) (λ e. (is_kind n ≡ false) × (e.0 ≡ n))

-- SYNC, 1 Mbit/s: 128 ones, or 56 zeros
abbrev pub sync_bits : Kind → ℕ
sync_bits Long = 128
sync_bits Short = 56

abbrev pub sync_bit : Kind → ℕ
sync_bit Long = 1
sync_bit Short = 0

-- SFD, 1 Mbit/s, lowest bit first: F3A0h, or 05CFh
abbrev pub sfd_of : Kind → ℕ
sfd_of Long = 0xF3A0
sfd_of Short = 0x05CF

-- SIGNAL 8, SERVICE 8, LENGTH 16, CRC 16 bits, at 1 or 2 Mbit/s
abbrev pub header_rate : Kind → Rate
header_rate Long = One
header_rate Short = Two

-- scrambler start, last output first: 1101100, or 0011011
abbrev pub start : Kind → List ℕ
start Long = 1 ∷ 1 ∷ 0 ∷ 1 ∷ 1 ∷ 0 ∷ 0 ∷ []
start Short = 0 ∷ 0 ∷ 1 ∷ 1 ∷ 0 ∷ 1 ∷ 1 ∷ []

-- front chips: 2,112, or 1,056
abbrev pub front_chips : Kind → ℕ
front_chips Long = 2112
front_chips Short = 1056

-- and front symbols, all of 11 chips: 192, or 96
abbrev pub front_symbols : Kind → ℕ
front_symbols Long = 192
front_symbols Short = 96

-- short excludes 10
abbrev pub goes_with : Kind → Rate → Bool
goes_with Long r = true
goes_with Short One = false
goes_with Short Two = true
goes_with Short Five = true
goes_with Short Eleven = true

-- a starting phase is 0 to 3
abbrev pub is_phase : ℕ → Bool
is_phase phase = ltb phase 4

-- clock is a yes or no: 0 is no, any other number yes
abbrev pub clock_of : ℕ → Bool
clock_of clock = not (eqb clock 0)

-- the clock bit
abbrev pub clock_bit : Bool → ℕ
clock_bit clock = cond clock 1 0

-- SERVICE is 0 but for bit 2, the clock bit, and bit 7
abbrev pub service_field : Rate → Bool → ℕ → ℕ
service_field r clock n = 4 * clock_bit clock + 128 * bit7 r n

-- Parts, as bits: the preamble is SYNC and SFD; a header is its three fields and their CRC
unfoldable pub preamble_bits : Kind → List ℕ
preamble_bits k = replicate (sync_bits k) (sync_bit k) ++ bits_of 16 (sfd_of k)

unfoldable pub field_bits : ℕ → ℕ → ℕ → List ℕ
field_bits signal service l = bits_of 8 signal ++ (bits_of 8 service ++ bits_of 16 l)

unfoldable pub header_bits : ℕ → ℕ → ℕ → List ℕ
header_bits signal service l = field_bits signal service l ++ crc_bits (field_bits signal service l)

-- the header that is sent for n octets at a rate, the clock bit set or not
unfoldable pub sent_header : Rate → Bool → ℕ → List ℕ
sent_header r clock n = header_bits (code_of r) (service_field r clock n) (length_field r n)

unfoldable pub frame_bits : Kind → List ℕ → List ℕ → List ℕ
frame_bits k header payload = preamble_bits k ++ (header ++ octet_bits payload)

-- bits of the preamble and of the header, counted
abbrev pub preamble_length : Kind → ℕ
preamble_length k = sync_bits k + 16

abbrev pub header_length : ℕ
header_length = 48

-- chips of the preamble, counted
abbrev pub preamble_chips : Kind → ℕ
preamble_chips k = preamble_length k * symbol_chips One

-- Three parts of bits as chips: each symbol grows from the one before it, across all changes of rate
unfoldable pub parts_chips : Kind → Rate → ℕ → List ℕ → List ℕ → List ℕ → List ℕ
parts_chips k r p preamble header payload =
    let a = symbols_of One preamble in
    let b = symbols_of (header_rate k) header in
    let c = symbols_of r payload in
    let q = last_phase p a in
    chips_from One p a ++ (chips_from (header_rate k) q b ++ chips_from r (last_phase q b) c)

-- every bit of the frame is scrambled in one run
unfoldable pub sent_bits : Kind → List ℕ → List ℕ → List ℕ
sent_bits k header payload = scramble (start k) (frame_bits k header payload)

-- the chips of a frame with these header bits, from starting phase p; and with the header that is sent
unfoldable pub framed : Kind → Rate → ℕ → List ℕ → List ℕ → List ℕ
framed k r p header payload =
    let s = sent_bits k header payload in
    let m = preamble_length k in
    parts_chips k r p (take m s) (take header_length (drop m s)) (drop (m + header_length) s)

unfoldable pub frame : Kind → Rate → ℕ → Bool → List ℕ → List ℕ
frame k r p clock payload = framed k r p (sent_header r clock (length payload)) payload

-- how many chips a frame of n octets has
abbrev pub frame_chips : Kind → Rate → ℕ → ℕ
frame_chips k r n = front_chips k + octet_chips r * n
