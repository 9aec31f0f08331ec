-- A symbol's bytes as they are, in 64ths of a full chip, decide what its counts do, which are 16 times as large, and so
-- is the lead: once for every place, of a Barker symbol by two sums, of a CCK symbol by its rows of I and of Q, at any
-- rate.
-- Assumes nothing.
use mathlib.Core.Path.{◌≡◌, refl, sym, ap, ◌∙◌, subst}
use mathlib.Core.List.{List, map}
use Prim.Native.Nat.{ℕ, ◌+◌, ◌*◌, ◌/◌, ◌≤◌}
use native.Mathlib.Nat.{mul-add}
use native.Mathlib.Omega.{arith}
use lib.Dec.{lit≤}
use lib.ListN.{length, get_or, take, drop}
use lib.IntN.{ℤ, pos}
use Rattle.base.specs.Tables.{tabulate}
use Rattle.base.proofs.Tables.{length_tabulate, get_or_tabulate, tabulate_ext, map_tabulate}
use Rattle.rules_rates.specs.declared.Rate.{Rate}
use Rattle.rules_rates.specs.declared.Rate.TheVariants.{One}
use Rattle.choose_axes.specs.declared.Axis.TheVariants.{I, Q}
use Rattle.choose_axes.specs.Axes.{along}
use Rattle.rules_chips.specs.declared.Counts.{Counts}
use Rattle.rules_chips.specs.Chips.{pair, nothing, taken_counts, byte_counts, byte_recording}
use Rattle.rules_chips.proofs.Bytes.{counts_at, part_bytes}
use Rattle.rules_symbols.specs.Choice.{decided, lead_of}
use Rattle.rules_choosing.specs.Scores.{ChosenAs}
use Rattle.choose_sums.specs.Sums.{by_signs, as_chip}
use Rattle.choose_sums.proofs.Signs.{sums_chosen}
use Rattle.rules_choosing.proofs.Scaled.{decided_times, lead_times}
use Rattle.choose_bytes.specs.Rows.{barker_bytes, five_bytes}

-- cs decide what ds do, with a 16th of the lead
abbrev pub Sixteenth : Rate → List Counts → List Counts → Type 0
Sixteenth r cs ds = (decided r cs ≡ decided r ds) × (16 * lead_of r cs ≡ lead_of r ds)

module _ (bytes : List ℤ) (at n : ℕ) where
  -- the two bytes of the symbol's chip j
  abbrev unit : ℕ → Counts
  unit j = pair (get_or bytes (2 * at + 2 * j) (pos 0)) (get_or bytes (2 * at + 1 + 2 * j) (pos 0))

  abbrev units : List Counts
  units = tabulate unit n

  mapped : {A : Type 0} (f : Counts → A) → map f units ≡ tabulate (λ j. f (unit j)) n
  mapped f =
      map_tabulate f units n nothing (length_tabulate unit n)
      ∙ tabulate_ext (λ j. f (get_or units j nothing)) (λ j. f (unit j)) n
      (λ j l. ap f (get_or_tabulate unit n j nothing l))

  abbrev times : Counts → Counts
  times c = byte_counts c.i c.q

  -- they are those of the recording's chip there
  place : (j : ℕ) → times (unit j) ≡ counts_at bytes (at + j)
  place j = λ i. byte_counts (get_or bytes (first i) (pos 0)) (get_or bytes (second i) (pos 0))
    where
      first : 2 * at + 2 * j ≡ 2 * (at + j)
      first = sym (mul-add 2 at j)

      second : 2 * at + 1 + 2 * j ≡ 2 * (at + j) + 1
      second = omega (arith, mul-add 2 at j)

  counts_are : at + n ≤ length bytes / 2 → map times units ≡ map taken_counts (take n (drop at (byte_recording bytes)))
  counts_are h =
      mapped times ∙ tabulate_ext (λ j. times (unit j)) (λ j. counts_at bytes (at + j)) n (λ j l. place j)
      ∙ sym (part_bytes bytes at n h)

  -- counts 16 times as large decide the same word, with 16 times the lead
  pub units_chosen : (r : Rate) → at + n ≤ length bytes / 2
      → Sixteenth r units (map taken_counts (take n (drop at (byte_recording bytes))))
  units_chosen r h = (
    ap (decided r) (sym (mapped (λ c. c)))
        ∙ sym (decided_times 16 (lit≤ tt) times (λ c. c) (λ c. record { real = refl; imag = refl }) r units)
        ∙ ap (decided r) (counts_are h),
    ap (λ (cs : List Counts). 16 * lead_of r cs) (sym (mapped (λ c. c)))
        ∙ sym (lead_times 16 (lit≤ tt) times (λ c. c) (λ c. record { real = refl; imag = refl }) r units)
        ∙ ap (lead_of r) (counts_are h),
  )

pub barker_units : (bytes : List ℤ) (at : ℕ) → at + 11 ≤ length bytes / 2
    → Sixteenth One (barker_bytes bytes at) (map taken_counts (take 11 (drop at (byte_recording bytes))))
barker_units bytes at h =
    subst (λ (cs : List Counts). Sixteenth One cs (map taken_counts (take 11 (drop at (byte_recording bytes)))))
    (λ i. as_chip (by_signs (mapped bytes at 11 (along I) i)) (by_signs (mapped bytes at 11 (along Q) i)))
    (alike.0 ∙ all.0, ap (λ (t : ℕ). 16 * t) alike.1 ∙ all.1)
  where
    sums : List Counts
    sums = as_chip (by_signs (map (along I) (units bytes at 11))) (by_signs (map (along Q) (units bytes at 11)))

    alike : ChosenAs One (units bytes at 11) (decided One sums) (lead_of One sums)
    alike = sums_chosen (units bytes at 11) (refl, refl)

    all : Sixteenth One (units bytes at 11) (map taken_counts (take 11 (drop at (byte_recording bytes))))
    all = units_chosen bytes at 11 One h

pub eight_units : (r : Rate) (bytes : List ℤ) (at : ℕ) → at + 8 ≤ length bytes / 2
    → Sixteenth r (five_bytes bytes at) (map taken_counts (take 8 (drop at (byte_recording bytes))))
eight_units r bytes at h =
    subst (λ (cs : List Counts). Sixteenth r cs (map taken_counts (take 8 (drop at (byte_recording bytes)))))
    (sym (tabulate_ext _ (unit bytes at 8) 8 (λ k l i. pair
    (get_or_tabulate (λ j. get_or bytes (2 * at + 2 * j) (pos 0)) 8 k (pos 0) l i)
    (get_or_tabulate (λ j. get_or bytes (2 * at + 1 + 2 * j) (pos 0)) 8 k (pos 0) l i))))
    (units_chosen bytes at 8 r h)
