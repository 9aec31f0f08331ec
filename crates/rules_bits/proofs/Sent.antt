-- The words that bits are sent as are allowed at their rate. Assumes nothing.
use mathlib.Core.Path.{◌≡◌}
use mathlib.Core.Bool.{true}
use mathlib.Core.List.{List, [], ◌∷◌}
use Prim.Native.Nat.{ℕ, zero, suc, ◌<◌}
use native.Mathlib.Omega.{arith}
use lib.ListN.{take, drop}
use Rattle.rules_rates.specs.declared.Rate.{Rate}
use Rattle.rules_rates.specs.Rates.{symbol_bits}
use Rattle.rules_chips.specs.Chips.{turned}
use Rattle.rules_symbols.specs.Choice.{is_allowed, numbers}
use Rattle.rules_bits.specs.Growths.{symbol_of, symbols_from}
use Rattle.base.specs.Below.{Below}
use Rattle.rules_bits.specs.Code.{numbers_from}
use Rattle.base.proofs.Below.{below_take, below_drop}
use Rattle.rules_bits.proofs.Heard.{symbol_proper, number_lt, number_allowed}

pub data Allowed (r : Rate) : List ℕ → Type 0 where
  none : Allowed r []
  more : {n : ℕ} {ns : List ℕ} → n < numbers r → is_allowed r n ≡ true → Allowed r ns → Allowed r (n ∷ ns)

quarter : (p g : ℕ) → turned p g < 4
quarter p g = omega arith

pub numbers_allowed : (r : Rate) (k p m : ℕ) (bs : List ℕ) → Below 2 bs
    → Allowed r (numbers_from r p (symbols_from r k m bs))
unfolding numbers_from symbols_from
numbers_allowed r k p zero bs h = none
numbers_allowed r k p (suc m) bs h =
    let d = take (symbol_bits r) bs in
    let s = symbol_of r k d in
    let q = turned p s.grows in
    let here = below_take (symbol_bits r) h in
    let l = quarter p s.grows in
    more (number_lt q s l (symbol_proper r k d here) r) (number_allowed r k q d l here)
    (numbers_allowed r (suc k) q m (drop (symbol_bits r) bs) (below_drop (symbol_bits r) h))
