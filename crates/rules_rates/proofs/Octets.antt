-- How many symbols, chips and bits octets are at a rate, over the rate.
--     octet_chips_lem, octet_bits_lem                   one octet
--     part_symbols, part_chips, part_bits       n octets
-- By computing, rate by rate. Assumes nothing.
use mathlib.Core.Path.{◌≡◌, refl}
use Prim.Native.Nat.{ℕ, ◌*◌, ◌/◌}
use native.Mathlib.Omega.{arith}
use Rattle.rules_rates.specs.declared.Rate.{Rate}
use Rattle.rules_rates.specs.declared.Rate.TheVariants.{One, Two, Five, Eleven}
use Rattle.rules_rates.specs.Rates.{symbol_chips, symbol_bits, octet_symbols, octet_chips}

pub octet_chips_lem : (r : Rate) → octet_chips r ≡ symbol_chips r * octet_symbols r
octet_chips_lem One = refl
octet_chips_lem Two = refl
octet_chips_lem Five = refl
octet_chips_lem Eleven = refl

pub octet_bits_lem : (r : Rate) → symbol_bits r * octet_symbols r ≡ 8
octet_bits_lem One = refl
octet_bits_lem Two = refl
octet_bits_lem Five = refl
octet_bits_lem Eleven = refl

pub part_symbols : (r : Rate) (n : ℕ) → 8 * n / symbol_bits r ≡ octet_symbols r * n
part_symbols One n = omega arith
part_symbols Two n = omega arith
part_symbols Five n = omega arith
part_symbols Eleven n = omega arith

pub part_chips : (r : Rate) (n : ℕ) → symbol_chips r * (octet_symbols r * n) ≡ octet_chips r * n
part_chips One n = omega arith
part_chips Two n = omega arith
part_chips Five n = omega arith
part_chips Eleven n = omega arith

pub part_bits : (r : Rate) (n : ℕ) → symbol_bits r * (octet_symbols r * n) ≡ 8 * n
part_bits One n = omega arith
part_bits Two n = omega arith
part_bits Five n = omega arith
part_bits Eleven n = omega arith
