-- The largest store has 4,146 octets: a longer row of octets is refused with 22, 23 or 24.
-- Assumes nothing.
use mathlib.Core.Path.{◌≡◌, refl}
use mathlib.Core.List.{List}
use mathlib.Core.Logic.{◌⊎◌, inl, inr}
use Prim.Native.Nat.{ℕ, zero, suc, ◌+◌, ◌*◌, ◌≤◌, ◌<◌}
use native.Mathlib.Omega.{arith}
use lib.ListN.{length}
use Rattle.base.specs.Below.{Below}
use Rattle.rules_store.specs.declared.Settings.{Settings}
use Rattle.rules_store.specs.Store.{count, no_settings, store_read}
use Rattle.rules_store.specs.Plain.{
  start_at,
  Past,
  past_22,
  past_23,
  past_24,
  past_25,
  past_26,
  past_27,
  StoreTells,
  is_21,
  is_21_table,
  is_22,
  is_23,
  is_24,
  is_24_end,
  is_25,
  is_26,
  is_27,
  is_28,
  is_told,
}
use Rattle.rules_store.proofs.Told.{read_row}

module _ (octets : List ℕ) (b : Below 256 octets) where
  abbrev n : ℕ
  n = count octets

  -- bodies are of at most 255 octets each
  start_most : (i : ℕ) → start_at octets n i ≤ 2 + 4 * n + 255 * i
  unfolding start_at
  start_most zero = omega arith
  start_most (suc i) = omega (arith, start_most i, b.at (5 + 4 * i))

  few_of : Past octets 23 → n ≤ 16
  few_of (past_23 (past_22 p m) r) = m

  pub length_most : Past octets 24 → length octets ≤ 4146
  length_most (past_24 p a e) = omega (arith, few_of p, start_most n)

  before_25 : Past octets 25 → Past octets 24
  before_25 (past_25 p a) = p

  before_26 : Past octets 26 → Past octets 24
  before_26 (past_26 a b c p x y z) = before_25 p

  before_27 : Past octets 27 → Past octets 24
  before_27 (past_27 p a) = before_26 p

  module _ (long : 4146 < length octets) where
    no_further : {A : Type 0} → Past octets 24 → A
    no_further p = absurd (omega (arith, length_most p))

    rows : {s : Settings} → StoreTells octets s → (s ≡ no_settings 22) ⊎ ((s ≡ no_settings 23) ⊎ (s ≡ no_settings 24))
    rows (is_21 h) = absurd (omega arith)
    rows (is_21_table h) = absurd (omega (arith, b.at 1))
    rows (is_22 p h) = inl refl
    rows (is_23 p i h d) = inr (inl refl)
    rows (is_24 p i h q) = inr (inr refl)
    rows (is_24_end p q) = inr (inr refl)
    rows (is_25 p i h k) = no_further p
    rows (is_26 p tag l h q) = no_further (before_25 p)
    rows (is_27 p i h l m q) = no_further (before_26 p)
    rows (is_28 p x y z q) = no_further (before_27 p)
    rows (is_told p x y z a) = no_further (before_27 p)

    pub largest : (store_read octets ≡ no_settings 22)
        ⊎ ((store_read octets ≡ no_settings 23) ⊎ (store_read octets ≡ no_settings 24))
    largest = rows (read_row octets)
