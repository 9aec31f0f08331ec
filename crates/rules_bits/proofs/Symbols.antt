-- What a symbol's bits ask for, in plain numbers, for every number of a symbol and any bits. With `heard_symbol` of
-- Heard.antt that says what its word is heard as, too. Assumes nothing.
use mathlib.Core.Path.{◌≡◌, refl}
use mathlib.Core.List.{[], ◌∷◌}
use Prim.Native.Nat.{ℕ, ◌+◌, ◌*◌, ◌%◌}
use native.Mathlib.Omega.{arith}
use Rattle.rules_rates.specs.declared.Rate.TheVariants.{One, Two, Five, Eleven}
use Rattle.rules_bits.specs.Growths.{growth, symbol_of}

growth_even : (m x : ℕ) → x + 2 * (2 * m % 2) ≡ x
growth_even m x = omega arith

growth_odd : (m x : ℕ) → x + 2 * ((2 * m + 1) % 2) ≡ x + 2
growth_odd m x = omega arith

module _ (a b c d e f g h m : ℕ) where
  -- promise: What the bits of any symbol ask for: how far the phase grows, by a half turn more where the symbol of 5.5
  -- or 11 Mbit/s is odd, and a CCK word's other phases
  -- rule: 4.1 to 4.5
  -- with: symbol_two, symbol_five, symbol_eleven
  pub symbol_one : (k : ℕ) → symbol_of One k (a ∷ []) ≡ record { grows = 2 * a; p2 = 0; p3 = 0; p4 = 0 }
  unfolding symbol_of
  symbol_one k = refl

  pub symbol_two : (k : ℕ) → symbol_of Two k (a ∷ b ∷ []) ≡ record { grows = growth a b; p2 = 0; p3 = 0; p4 = 0 }
  unfolding symbol_of
  symbol_two k = refl

  -- the even ones and the odd ones
  pub symbol_five : (symbol_of Five (2 * m) (a ∷ b ∷ c ∷ d ∷ [])
      ≡ record { grows = growth a b; p2 = 2 * c + 1; p3 = 0; p4 = 2 * d })
      × (symbol_of Five (2 * m + 1) (a ∷ b ∷ c ∷ d ∷ [])
      ≡ record { grows = growth a b + 2; p2 = 2 * c + 1; p3 = 0; p4 = 2 * d })
  unfolding symbol_of
  symbol_five = (
    (λ i. record { grows = growth_even m (growth a b) i; p2 = 2 * c + 1; p3 = 0; p4 = 2 * d }),
    λ i. record { grows = growth_odd m (growth a b) i; p2 = 2 * c + 1; p3 = 0; p4 = 2 * d },
  )

  pub symbol_eleven : (symbol_of Eleven (2 * m) (a ∷ b ∷ c ∷ d ∷ e ∷ f ∷ g ∷ h ∷ [])
      ≡ record { grows = growth a b; p2 = 2 * c + d; p3 = 2 * e + f; p4 = 2 * g + h })
      × (symbol_of Eleven (2 * m + 1) (a ∷ b ∷ c ∷ d ∷ e ∷ f ∷ g ∷ h ∷ [])
      ≡ record { grows = growth a b + 2; p2 = 2 * c + d; p3 = 2 * e + f; p4 = 2 * g + h })
  unfolding symbol_of
  symbol_eleven = (
    (λ i. record { grows = growth_even m (growth a b) i; p2 = 2 * c + d; p3 = 2 * e + f; p4 = 2 * g + h }),
    λ i. record { grows = growth_odd m (growth a b) i; p2 = 2 * c + d; p3 = 2 * e + f; p4 = 2 * g + h },
  )
