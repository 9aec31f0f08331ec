-- A front that meets none of 8 to 15 has no odd growth in its preamble: 10 was looked for and not found.
--     front_even    each growth there, by the words of two symbols
-- Assumes nothing.
use mathlib.Core.Path.{◌≡◌, refl, sym, ap, ◌∙◌, subst}
use mathlib.Core.List.{List}
use Rattle.std.specs.Prelude.{Option, None, Some, Ok}
use Prim.Native.Nat.{ℕ, ◌+◌, ◌%◌, ◌<◌}
use native.Mathlib.Omega.{arith}
use lib.ListN.{length, get_or}
use Rattle.rules_rates.specs.declared.Rate.TheVariants.{One}
use Rattle.rules_chips.specs.Chips.{Taken}
use Rattle.rules_bits.specs.Growths.{grown_by, growths_of}
use Rattle.rules_bits.proofs.Heard.{growths_of_length, growth_at_lem}
use Rattle.rules_frame.specs.declared.Kind.{Kind}
use Rattle.rules_frame.specs.Frame.{sync_bits}
use Rattle.rules_calls.specs.declared.Told.{Told}
use Rattle.rules_reading.specs.Reading.{or_else, first_odd, front_odd, front_of, reference, preamble_words}
use Rattle.rules_reading.proofs.Refusals.{FrontIf, front_refuses}
use Rattle.rules_reading.proofs.First.{no_place, odd_none}
use Rattle.rules_reading.proofs.Sfd.{word_at, words_length, word_here}

-- ---- a search that found nothing
or_none : (o rest : Option ℕ) → or_else o (λ p. Some p) rest ≡ None → o ≡ None
or_none None rest e = refl
or_none (Some p) rest e = absurd (no_place e refl)

-- ---- the front
module _ (k : Kind) (rec : List Taken) where
  abbrev growths : List ℕ
  growths = growths_of One (reference k rec) (preamble_words k rec)

  none_odd : front_odd k rec ≡ None → first_odd 0 growths ≡ None
  unfolding front_odd
  none_odd e = or_none (first_odd 0 growths) _ e

  pub front_even : (t : Told) → front_of k rec ≡ Ok t → (n : ℕ) → n + 1 < sync_bits k + 16
      → grown_by (word_at One rec n) (word_at One rec (n + 1)) % 2 ≡ 0
  front_even t e n h =
      ap (λ (g : ℕ). g % 2) (sym grown)
      ∙ odd_none 0 growths (none_odd (subst (FrontIf k rec) e (front_refuses k rec)).sound.clear.even) (n + 1) inside
    where
      inside : n + 1 < length growths
      inside =
          omega
          (arith, growths_of_length One (reference k rec) (preamble_words k rec), words_length k rec)

      grown : get_or growths (n + 1) 0 ≡ grown_by (word_at One rec n) (word_at One rec (n + 1))
      grown =
          growth_at_lem (reference k rec) (preamble_words k rec) n (omega (arith, words_length k rec))
          ∙ (λ i. grown_by (word_here k rec n (omega arith) i) (word_here k rec (n + 1) h i))
