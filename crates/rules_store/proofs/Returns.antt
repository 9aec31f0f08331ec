-- Writing and changing as code follows them: what is answered and what is left, at each return.
--     wrong_left, short_left, put_left     a write
--     kind_stands, rate_stands, phase_stands     a new setting
--     not_read, not_tagged, not_good, has_three, as_read, value_fits, place_in, put_there     a change
-- Assumes nothing.
use mathlib.Core.Path.{◌≡◌, refl, sym, ap, ◌∙◌}
use mathlib.Core.Bool.{Bool, true, false, ◌&&◌, and-true}
use mathlib.Core.List.{List, ◌++◌}
use Prim.Native.Nat.{ℕ, ◌+◌, ◌-◌, ◌≤◌, ◌<◌}
use native.Mathlib.Omega.{arith}
use borrow.Author.Tests.{eq-eqb, ne_eqb, lt-ltb, le-ltb}
use lib.ListN.{length, set, replicate}
use Rattle.base.proofs.Tests.{left_is, right_is}
use Rattle.rules_rates.specs.Rates.{is_code, rate_of}
use Rattle.rules_frame.specs.Frame.{is_kind, kind_of, goes_with, is_phase}
use Rattle.rules_store.specs.declared.Settings.{Settings}
use Rattle.rules_store.specs.Store.{
  count,
  table_end,
  entries,
  rising,
  body_of,
  complete,
  allowed_settings,
  store_read,
  is_setting,
  changed,
  allowed_in,
  store_changed,
  change_left,
}
use Rattle.rules_store.specs.Pieces.{store_of, store_written, write_left}
use Rattle.rules_store.proofs.Allowed.{allowed_octets}
use Rattle.rules_store.proofs.Order.{Good, read_passed, read_good}
use Rattle.rules_store.proofs.Three.{in_three}
use Rattle.rules_store.proofs.OneChanged.{body_high}
use Rattle.rules_store.proofs.Steps.{full_row}

-- ---- writing: d is the buffer as it was

module _ (kind rate phase : ℕ) (d : List ℕ) where
  abbrev Wrote : ℕ → List ℕ → Type 0
  Wrote number o = (number ≡ store_written kind rate phase (length d)) × (o ≡ write_left kind rate phase (length d))

  pub wrong_left : (z : List ℕ) → z ≡ replicate (length d) 0 → allowed_settings kind rate phase ≡ false → Wrote 28 z
  unfolding store_written write_left
  wrong_left z f a = (rw a, rw a f)

  module _ (a : allowed_settings kind rate phase ≡ true) where
    pub short_left : (z : List ℕ) → z ≡ replicate (length d) 0 → length d < 17 → Wrote 29 z
    unfolding store_written write_left
    short_left z f h = let short = lt-ltb (length d) 17 h in (rw (a, short), rw (a, short) f)

    pub put_left : (o : List ℕ) → 17 ≤ length d → o ≡ store_of kind rate phase ++ replicate (length d - 17) 0
        → Wrote 0 o
    unfolding store_written write_left
    put_left o h e = let long = le-ltb (length d) 17 h in (rw (a, long), rw (a, long) e)

-- ---- changing: s is what was read

-- what is asked of a new setting, the others being allowed
module _ (tag value : ℕ) (s : Settings) (a : allowed_in s ≡ true) where
  abbrev k : Bool
  k = is_kind s.kind

  abbrev r : Bool
  r = is_code s.rate

  abbrev g : Bool
  g = goes_with (kind_of s.kind) (rate_of s.rate)

  abbrev p : Bool
  p = is_phase s.phase

  three : (k && r && g) ≡ true
  three = left_is (k && r && g) p a

  phased : p ≡ true
  phased = right_is (k && r && g) p a

  coded : r ≡ true
  coded = right_is k r (left_is (k && r) g three)

  known : k ≡ true
  known = left_is k r (left_is (k && r) g three)

  pub kind_stands : tag ≡ 1 → (is_kind value && goes_with (kind_of value) (rate_of s.rate))
      ≡ allowed_in (changed tag value s)
  kind_stands t = rw (t, coded, phased, and-true (is_kind value), and-true (is_kind value && _))

  pub rate_stands : tag ≡ 2 → (is_code value && goes_with (kind_of s.kind) (rate_of value))
      ≡ allowed_in (changed tag value s)
  rate_stands t = rw (t, known, phased, and-true (is_code value && _))

  pub phase_stands : is_setting tag ≡ true → (tag ≡ 1 → ⊥) → (tag ≡ 2 → ⊥)
      → is_phase value ≡ allowed_in (changed tag value s)
  phase_stands =
      in_three (λ t. (t ≡ 1 → ⊥) → (t ≡ 2 → ⊥) → is_phase value ≡ allowed_in (changed t value s))
      (λ n m. absurd (n refl)) (λ n m. absurd (m refl)) (λ n m. rw three) tag

module _ (octets : List ℕ) (tag value : ℕ) (s : Settings) (e : s ≡ store_read octets) where
  abbrev Answers : ℕ → List ℕ → Type 0
  Answers number o = (number ≡ store_changed octets tag value) × (o ≡ change_left octets tag value)

  -- a refusal leaves the store
  stays : (number : ℕ) → number ≡ store_changed octets tag value → (number ≡ 0 → ⊥) → Answers number octets
  unfolding change_left
  stays number h n = (h, rw (← h, ne_eqb number 0 n))

  pub not_read : (s.number ≡ 0 → ⊥) → Answers s.number octets
  unfolding store_changed
  not_read n = stays s.number (rw (← e, ne_eqb s.number 0 n)) n

  module _ (z : s.number ≡ 0) where
    good : Good octets
    good = read_passed octets (ap (λ (x : Settings). x.number) (sym e) ∙ z)

    pub has_three : (table_end (count octets) ≤ length octets) × (rising 0 (entries octets) ≡ true)
        × (complete (entries octets) ≡ true)
    has_three = (good.full.sound.long, good.full.sound.rises, good.full.whole)

    pub as_read : allowed_in s ≡ true
    as_read = ap allowed_in (e ∙ read_good octets good) ∙ good.right

    pub not_tagged : is_setting tag ≡ false → Answers 30 octets
    unfolding store_changed
    not_tagged t = stays 30 (rw (← e, eq-eqb s.number 0 z, t)) (λ h. omega arith)

    module _ (t : is_setting tag ≡ true) where
      pub not_good : allowed_in (changed tag value s) ≡ false → Answers 28 octets
      unfolding store_changed
      not_good a = stays 28 (rw (← e, eq-eqb s.number 0 z, t, a)) (λ h. omega arith)

      module _ (a : allowed_in (changed tag value s) ≡ true) where
        pub value_fits : value < 256
        value_fits =
            in_three (λ k. allowed_in (changed k value s) ≡ true → value < 256)
            (λ h. (allowed_octets value s.rate s.phase h).0)
            (λ h. (allowed_octets s.kind value s.phase h).1)
            (λ h. (allowed_octets s.kind s.rate value h).2) tag t a

        answer : 0 ≡ store_changed octets tag value
        unfolding store_changed
        answer = rw (← e, eq-eqb s.number 0 z, t, a)

        module _ (at : ℕ) (first : at ≡ (body_of 1 (entries octets)).offset) where
          place : at + (tag - 1) ≡ (body_of tag (entries octets)).offset
          place =
              let row = full_row octets good.full in
              in_three (λ k. at + (k - 1) ≡ (body_of k (entries octets)).offset) (omega (arith, first))
              (omega (arith, first, row.second)) (omega (arith, first, row.third)) tag t

          pub place_in : at + (tag - 1) < length octets
          place_in = omega (arith, place, body_high octets good.full tag t)

          pub put_there : Answers 0 (set octets (at + (tag - 1)) value)
          unfolding change_left
          put_there = (answer, rw (← answer) (ap (λ (k : ℕ). set octets k value) place))
