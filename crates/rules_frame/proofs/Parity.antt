-- The half turn of odd CCK symbols, counted from the header or from the frame's start, would give the same chips:
-- headers have 48 or 24 symbols and fronts 192 or 96, all even numbers. So that error cannot be seen, and no edit
-- stands for it. Assumes nothing.
use mathlib.Core.Path.{◌≡◌, refl}
use Prim.Native.Nat.{ℕ, ◌+◌, ◌/◌}
use native.Mathlib.Omega.{arith}
use Rattle.rules_rates.specs.Rates.{symbol_bits}
use Rattle.rules_bits.specs.Growths.{half_turn}
use Rattle.rules_frame.specs.declared.Kind.{Kind}
use Rattle.rules_frame.specs.declared.Kind.TheVariants.{Long, Short}
use Rattle.rules_frame.specs.Frame.{preamble_length, header_length, header_rate, front_symbols}

abbrev pub header_symbols : Kind → ℕ
header_symbols k = header_length / symbol_bits (header_rate k)

-- a front's symbols are the preamble's and the header's
pub front_symbols_lem : (k : Kind) → preamble_length k + header_symbols k ≡ front_symbols k
front_symbols_lem Long = refl
front_symbols_lem Short = refl

-- promise: Headers and fronts have even numbers of symbols
-- rule: 8.3
-- with: from_start
pub from_header : (k : Kind) (j : ℕ) → half_turn (header_symbols k + j) ≡ half_turn j
from_header Long j = omega arith
from_header Short j = omega arith

pub from_start : (k : Kind) (j : ℕ) → half_turn (front_symbols k + j) ≡ half_turn j
from_start Long j = omega arith
from_start Short j = omega arith
