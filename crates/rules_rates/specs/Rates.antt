-- The four rates: their codes, what a symbol and an octet take (RULES 3.1, 3.2, 4.1 to 4.5, 5.2, 5.8), LENGTH and bit 7
-- (5.10 to 5.12, 6.4 no. 15). The draft's lower end of 16 microseconds is not applied (1.3).
-- Definitions only. Assumes nothing.
use Rattle.std.specs.Prelude.{◌≡◌, Bool, true, false, cond, Result, MatchResult, ◌&&◌, ◌||◌, ℕ, ◌+◌, ◌*◌, ◌/◌, leb, eqb, ℤ, pos, ◌-ℤ◌, nat_abs}
use Rattle.std.specs.Int.Signed.{le_z}
use Rattle.rules_rates.specs.declared.Rate.{Rate}
use Rattle.rules_rates.specs.declared.UnknownRate.{UnknownRate}
use Rattle.rules_rates.specs.declared.Rate.TheVariants.{One, Two, Five, Eleven}

-- SIGNAL is 10, 20, 55 or 110 for 1, 2, 5.5, 11 Mbit/s; these are also the rate codes
abbrev pub code_of : Rate → ℕ
code_of One = 10
code_of Two = 20
code_of Five = 55
code_of Eleven = 110

-- whether a number is one of the four codes, and the rate of one that is
abbrev pub is_code : ℕ → Bool
is_code c = eqb c (code_of One) || eqb c (code_of Two) || eqb c (code_of Five) || eqb c (code_of Eleven)

abbrev pub rate_of : ℕ → Rate
rate_of c =
    cond (eqb c (code_of One)) One (cond (eqb c (code_of Two)) Two (cond (eqb c (code_of Five)) Five Eleven))

-- what comes of a number taken as a code: its rate, or that it is none
-- working notion: of the code that takes it so
abbrev pub Coded : ℕ → Result Rate UnknownRate → Type 0
Coded c r = MatchResult r (λ rate. (is_code c ≡ true) × (rate ≡ rate_of c)) (λ e. (is_code c ≡ false) × (e.0 ≡ c))

-- Barker, 11 chips, at 1 and 2 Mbit/s; CCK, 8 chips, at 5.5 and 11
abbrev pub symbol_chips : Rate → ℕ
symbol_chips One = 11
symbol_chips Two = 11
symbol_chips Five = 8
symbol_chips Eleven = 8

-- a symbol carries one, two, four or eight bits
abbrev pub symbol_bits : Rate → ℕ
symbol_bits One = 1
symbol_bits Two = 2
symbol_bits Five = 4
symbol_bits Eleven = 8

-- so an octet is eight, four, two or one symbols
abbrev pub octet_symbols : Rate → ℕ
octet_symbols One = 8
octet_symbols Two = 4
octet_symbols Five = 2
octet_symbols Eleven = 1

-- payload of n octets: 88 n, 44 n, 16 n, 8 n chips
abbrev pub octet_chips : Rate → ℕ
octet_chips One = 88
octet_chips Two = 44
octet_chips Five = 16
octet_chips Eleven = 8

-- LENGTH in microseconds: 8 n, 4 n, 16 n / 11 rounded up, 8 n / 11 rounded up
abbrev pub length_field : Rate → ℕ → ℕ
length_field One n = 8 * n
length_field Two n = 4 * n
length_field Five n = (16 * n + 10) / 11
length_field Eleven n = (8 * n + 10) / 11

-- at 11 Mbit/s bit 7 is 1 exactly when rounding added 8/11 or more
abbrev pub bit7 : Rate → ℕ → ℕ
bit7 One n = 0
bit7 Two n = 0
bit7 Five n = 0
bit7 Eleven n = cond (leb (8 * n + 8) (11 * length_field Eleven n)) 1 0

-- the reader takes LENGTH / 8, LENGTH / 4, LENGTH · 11 / 16, LENGTH · 11 / 8, rounded down,
abbrev pub whole_octets : Rate → ℕ → ℕ
whole_octets One l = l / 8
whole_octets Two l = l / 4
whole_octets Five l = l * 11 / 16
whole_octets Eleven l = l * 11 / 8

-- less 1 where bit 7 is 1: LENGTH 0 with bit 7 set gives -1
abbrev pub octets_read : Rate → ℕ → ℕ → ℤ
octets_read r l seven = pos (whole_octets r l) -ℤ pos seven

-- a payload is 1 to 4,095 octets
abbrev pub is_payload : ℤ → Bool
is_payload n = le_z (pos 1) n && le_z n (pos 4095)

-- whether LENGTH l and bit 7 are those that the writer makes for some n from 1 to 4,095, the n that they give
abbrev pub length_holds : Rate → ℕ → ℕ → Bool
length_holds r l seven =
    let n = octets_read r l seven in
    is_payload n && eqb (length_field r (nat_abs n)) l && eqb (bit7 r (nat_abs n)) seven
