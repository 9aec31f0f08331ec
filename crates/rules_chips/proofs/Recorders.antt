-- What the recorders make of their rows: the counts that reading goes by are those of the recorded chips, and a
-- recording has at each place what the rows have there. `part_taken` is what a symbol is read from, once for every
-- recorder, place and width.
-- Assumes nothing.
use mathlib.Core.Path.{◌≡◌, refl, sym, ap, ◌∙◌}
use mathlib.Core.Bool.{Bool, true, false, not, cond}
use mathlib.Core.List.{List, [], ◌∷◌, ◌++◌, map}
use Prim.Native.Nat.{ℕ, zero, suc, ◌+◌, ◌≤◌, ◌<◌, min}
use native.Mathlib.Nat.{le_of_suc-le-suc, not-suc-le-zero, zero-min, min-zero, suc-min-suc, min-eq_left, le_refl}
use native.Mathlib.Omega.{arith}
use lib.Dec.{T, leb, nleb→lt}
use lib.ListN.{length, get_or, take, drop, length-map, length-drop}
use lib.Seq.{length-take-le, get_or-take, get_or-drop}
use lib.Ieee.{Float}
use borrow.Author.Tests.{ne_eqb}
use Rattle.base.specs.Tables.{tabulate}
use Rattle.base.proofs.Tables.{tabulate_ext, map_tabulate, length_tabulate, get_or_tabulate}
use Rattle.rules_chips.specs.declared.Sample.{Sample}
use Rattle.rules_chips.specs.declared.Counts.{Counts}
use Rattle.rules_chips.specs.declared.Chip.{Chip}
use Rattle.rules_chips.specs.declared.Chip.TheVariants.{Lost, Soft}
use Rattle.rules_chips.specs.Chips.{
  nothing,
  usable_sample,
  counts_of,
  Taken,
  unusable,
  counted,
  is_unusable,
  taken_counts,
  hard_chip,
  hard_taken,
  hard_recording,
  soft_taken,
  soft_recording,
}
use Rattle.rules_chips.proofs.Phases.{full_past}

abbrev pub sample : Float → Float → Sample
sample x y = record { i = x; q = y }

-- ---- one chip
pub taken_hard : (x : ℕ) → taken_counts (hard_taken x) ≡ counts_of (hard_chip x)
taken_hard x = go (leb x 4) (nleb→lt x 4)
  where
    go : (b : Bool) → (T (not b) → 4 < x)
        → taken_counts (cond b (counted (counts_of (hard_chip x))) unusable) ≡ counts_of (hard_chip x)
    go true f = refl
    go false f = let h : 4 < x = f tt in simp (ne_eqb x 4 (λ e. omega arith)) (sym (full_past 1024 x (omega arith)))

pub taken_soft : (x y : Float) → taken_counts (soft_taken x y) ≡ counts_of (Soft (sample x y))
taken_soft x y = go (usable_sample (sample x y)) _
  where
    go : (b : Bool) (c : Counts) → taken_counts (cond b (counted (cond b c nothing)) unusable) ≡ cond b c nothing
    go true c = refl
    go false c = refl

unusable_cond : (b : Bool) (c : Counts) → is_unusable (cond b (counted c) unusable) ≡ not b
unusable_cond true c = refl
unusable_cond false c = refl

pub unusable_hard : (x : ℕ) → is_unusable (hard_taken x) ≡ not (leb x 4)
unusable_hard x = unusable_cond (leb x 4) (counts_of (hard_chip x))

pub unusable_soft : (x y : Float) → is_unusable (soft_taken x y) ≡ not (usable_sample (sample x y))
unusable_soft x y = unusable_cond (usable_sample (sample x y)) (counts_of (Soft (sample x y)))

-- ---- a hard recording
pub length_hard : (xs : List ℕ) → length (hard_recording xs) ≡ length xs
unfolding hard_recording
length_hard xs = length-map xs hard_taken

pub get_or_hard : (xs : List ℕ) (k : ℕ) (d : Taken) (e : ℕ) → k < length xs
    → get_or (hard_recording xs) k d ≡ hard_taken (get_or xs k e)
unfolding hard_recording
get_or_hard [] k d e h = absurd (not-suc-le-zero h)
get_or_hard (x ∷ xs) zero d e h = refl
get_or_hard (x ∷ xs) (suc k) d e h = get_or_hard xs k d e (le_of_suc-le-suc h)

pub take_hard : (n : ℕ) (xs : List ℕ) → take n (hard_recording xs) ≡ hard_recording (take n xs)
unfolding hard_recording
take_hard zero xs = refl
take_hard (suc n) [] = refl
take_hard (suc n) (x ∷ xs) = ap (λ (r : List Taken). hard_taken x ∷ r) (take_hard n xs)

pub drop_hard : (n : ℕ) (xs : List ℕ) → drop n (hard_recording xs) ≡ hard_recording (drop n xs)
unfolding hard_recording
drop_hard zero xs = refl
drop_hard (suc n) [] = refl
drop_hard (suc n) (x ∷ xs) = drop_hard n xs

pub append_hard : (xs ys : List ℕ) → hard_recording (xs ++ ys) ≡ hard_recording xs ++ hard_recording ys
unfolding hard_recording
append_hard [] ys = refl
append_hard (x ∷ xs) ys = ap (λ (r : List Taken). hard_taken x ∷ r) (append_hard xs ys)

-- ---- a soft recording
pub length_soft : (xs ys : List Float) → length (soft_recording xs ys) ≡ min (length xs) (length ys)
unfolding soft_recording
length_soft [] ys = sym (zero-min (length ys))
length_soft (x ∷ xs) [] = sym (min-zero (suc (length xs)))
length_soft (x ∷ xs) (y ∷ ys) = ap suc (length_soft xs ys) ∙ sym (suc-min-suc (length xs) (length ys))

pub length_soft_same : (xs ys : List Float) → length xs ≡ length ys → length (soft_recording xs ys) ≡ length xs
length_soft_same xs ys e = length_soft xs ys ∙ ap (min (length xs)) (sym e) ∙ min-eq_left (le_refl (length xs))

pub get_or_soft : (xs ys : List Float) (k : ℕ) (d : Taken) (e f : Float) → k < length xs → k < length ys
    → get_or (soft_recording xs ys) k d ≡ soft_taken (get_or xs k e) (get_or ys k f)
unfolding soft_recording
get_or_soft [] ys k d e f h g = absurd (not-suc-le-zero h)
get_or_soft (x ∷ xs) [] k d e f h g = absurd (not-suc-le-zero g)
get_or_soft (x ∷ xs) (y ∷ ys) zero d e f h g = refl
get_or_soft (x ∷ xs) (y ∷ ys) (suc k) d e f h g = get_or_soft xs ys k d e f (le_of_suc-le-suc h) (le_of_suc-le-suc g)

soft_none : (xs : List Float) → soft_recording xs [] ≡ []
unfolding soft_recording
soft_none [] = refl
soft_none (x ∷ xs) = refl

pub take_soft : (n : ℕ) (xs ys : List Float) → take n (soft_recording xs ys) ≡ soft_recording (take n xs) (take n ys)
unfolding soft_recording
take_soft zero xs ys = refl
take_soft (suc n) [] ys = refl
take_soft (suc n) (x ∷ xs) [] = refl
take_soft (suc n) (x ∷ xs) (y ∷ ys) = ap (λ (r : List Taken). soft_taken x y ∷ r) (take_soft n xs ys)

pub drop_soft : (n : ℕ) (xs ys : List Float) → drop n (soft_recording xs ys) ≡ soft_recording (drop n xs) (drop n ys)
unfolding soft_recording
drop_soft zero xs ys = refl
drop_soft (suc n) [] ys = refl
drop_soft (suc n) (x ∷ xs) [] = sym (soft_none (drop n xs))
drop_soft (suc n) (x ∷ xs) (y ∷ ys) = drop_soft n xs ys

-- ---- a part of w chips from a place: its counts are those that stand there
pub part_counts : (rec : List Taken) (counts : ℕ → Counts) (place w : ℕ) → place + w ≤ length rec
    → ((k : ℕ) → k < length rec → taken_counts (get_or rec k unusable) ≡ counts k)
    → map taken_counts (take w (drop place rec)) ≡ tabulate (λ j. counts (place + j)) w
part_counts rec counts place w h f =
    map_tabulate taken_counts (take w (drop place rec)) w unusable
    (length-take-le w (drop place rec) (omega (arith, length-drop place rec)))
    ∙ tabulate_ext (λ k. taken_counts (get_or (take w (drop place rec)) k unusable)) (λ k. counts (place + k)) w
    (λ k l. ap taken_counts (get_or-take w (drop place rec) k unusable l ∙ get_or-drop place rec k unusable)
    ∙ f (place + k) (omega arith))

-- those of the chips recorded there
pub part_taken : (rec : List Taken) (chip : ℕ → Chip) (place w : ℕ) → place + w ≤ length rec
    → ((k : ℕ) → k < length rec → taken_counts (get_or rec k unusable) ≡ counts_of (chip k))
    → map taken_counts (take w (drop place rec)) ≡ map counts_of (tabulate (λ j. chip (place + j)) w)
part_taken rec chip place w h f =
    let cs = tabulate (λ j. chip (place + j)) w in
    part_counts rec (λ k. counts_of (chip k)) place w h f
    ∙ sym (map_tabulate counts_of cs w Lost (length_tabulate (λ j. chip (place + j)) w)
    ∙ tabulate_ext (λ k. counts_of (get_or cs k Lost)) (λ k. counts_of (chip (place + k))) w
    (λ k l. ap counts_of (get_or_tabulate (λ j. chip (place + j)) w k Lost l)))

pub part_hard : (xs : List ℕ) (place w : ℕ) → place + w ≤ length xs
    → map taken_counts (take w (drop place (hard_recording xs)))
    ≡ map counts_of (tabulate (λ j. hard_chip (get_or xs (place + j) 0)) w)
part_hard xs place w h =
    part_taken (hard_recording xs) (λ k. hard_chip (get_or xs k 0)) place w (omega (arith, length_hard xs))
    (λ k l. ap taken_counts (get_or_hard xs k unusable 0 (omega (arith, length_hard xs))) ∙ taken_hard (get_or xs k 0))

pub part_soft : (xs ys : List Float) (place w : ℕ) (d : Float) → length xs ≡ length ys → place + w ≤ length xs
    → map taken_counts (take w (drop place (soft_recording xs ys)))
    ≡ map counts_of (tabulate (λ j. Soft (sample (get_or xs (place + j) d) (get_or ys (place + j) d))) w)
part_soft xs ys place w d e h =
    let s : length (soft_recording xs ys) ≡ length xs = length_soft_same xs ys e in
    part_taken (soft_recording xs ys) (λ k. Soft (sample (get_or xs k d) (get_or ys k d))) place w (omega arith)
    (λ k l. ap taken_counts (get_or_soft xs ys k unusable d d (omega arith) (omega arith))
    ∙ taken_soft (get_or xs k d) (get_or ys k d))
