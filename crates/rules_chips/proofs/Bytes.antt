-- A byte recording: as many chips as pairs of bytes, each with the counts of its two, none unusable; and its counts are
-- the exact values.
-- Assumes nothing.
use mathlib.Core.Path.{◌≡◌, refl, sym, ap, ap₂, ◌∙◌}
use mathlib.Core.Bool.{false}
use mathlib.Core.List.{List, [], ◌∷◌, map}
use Prim.Native.Nat.{ℕ, zero, suc, ◌+◌, ◌*◌, ◌/◌, ◌^◌, ◌≤◌, ◌<◌}
use native.Mathlib.Nat.{zero-mul, mul_right_comm}
use native.Mathlib.Omega.{arith}
use lib.ListN.{length, get_or, take, drop}
use lib.IntN.{ℤ, pos, negsuc, neg_ℤ, ◌-ℤ◌, ◌*ℤ◌, +ℤ_invr}
use Rattle.base.specs.Tables.{tabulate}
use Rattle.rules_chips.specs.declared.Counts.{Counts}
use Rattle.rules_chips.specs.Chips.{
  Taken,
  unusable,
  counted,
  is_unusable,
  taken_counts,
  byte_counts,
  byte_exact,
  byte_recording,
}
use Rattle.rules_chips.specs.Bounds.{off_by, Apart}
use Rattle.base.proofs.Whole.{within_zero}
use Rattle.rules_chips.proofs.Recorders.{part_counts}

-- ---- the row
pub length_bytes : (bytes : List ℤ) → length (byte_recording bytes) ≡ length bytes / 2
unfolding byte_recording
length_bytes [] = refl
length_bytes (x ∷ []) = refl
length_bytes (x ∷ y ∷ bytes) = let h = length_bytes bytes in omega arith

-- the counts of chip k, from its two bytes
abbrev pub counts_at : List ℤ → ℕ → Counts
counts_at bytes k = byte_counts (get_or bytes (2 * k) (pos 0)) (get_or bytes (2 * k + 1) (pos 0))

two_on : (x y : ℤ) (bytes : List ℤ) (j k : ℕ) → k ≡ suc (suc j)
    → get_or (x ∷ y ∷ bytes) k (pos 0) ≡ get_or bytes j (pos 0)
two_on x y bytes j k e = ap (λ (n : ℕ). get_or (x ∷ y ∷ bytes) n (pos 0)) e

pub get_or_bytes : (bytes : List ℤ) (k : ℕ) → k < length bytes / 2
    → get_or (byte_recording bytes) k unusable ≡ counted (counts_at bytes k)
unfolding byte_recording
get_or_bytes [] k h = absurd (omega arith)
get_or_bytes (x ∷ []) k h = absurd (omega arith)
get_or_bytes (x ∷ y ∷ bytes) zero h = refl
get_or_bytes (x ∷ y ∷ bytes) (suc k) h =
    get_or_bytes bytes k (omega arith)
    ∙ sym (ap₂ {C = Taken} (λ a b. counted (byte_counts a b)) (two_on x y bytes (2 * k) (2 * suc k) (omega arith))
    (two_on x y bytes (2 * k + 1) (2 * suc k + 1) (omega arith)))

pub bytes_usable : (bytes : List ℤ) (k : ℕ) → k < length bytes / 2
    → is_unusable (get_or (byte_recording bytes) k unusable) ≡ false
bytes_usable bytes k h = ap is_unusable (get_or_bytes bytes k h)

-- a part of w chips from a place
pub part_bytes : (bytes : List ℤ) (place w : ℕ) → place + w ≤ length bytes / 2
    → map taken_counts (take w (drop place (byte_recording bytes))) ≡ tabulate (λ j. counts_at bytes (place + j)) w
part_bytes bytes place w h =
    part_counts (byte_recording bytes) (counts_at bytes) place w (omega (arith, length_bytes bytes))
    (λ k l. ap taken_counts (get_or_bytes bytes k (omega (arith, length_bytes bytes))))

-- ---- the counts are exact: 16 times so many steps as a count is are 2^143
less_itself : (z : ℤ) → z -ℤ z ≡ pos 0
less_itself z = +ℤ_invr z

neg_times : (m s : ℕ) → neg_ℤ (pos m) *ℤ pos s ≡ neg_ℤ (pos (m * s))
neg_times zero s = ap pos (zero-mul s) ∙ sym (ap (λ (n : ℕ). neg_ℤ (pos n)) (zero-mul s))
neg_times (suc m) s = refl

off : (s : ℕ) (z : ℤ) → (pos 16 *ℤ z) *ℤ pos s ≡ pos (16 * s) *ℤ z
off s (pos n) = ap pos (mul_right_comm 16 n s)
off s (negsuc n) = neg_times (16 * suc n) s ∙ ap (λ (m : ℕ). neg_ℤ (pos m)) (mul_right_comm 16 (suc n) s)

exact : (z : ℤ) → off_by (pos 16 *ℤ z) (pos (2 ^ 143) *ℤ z) ≡ pos 0
exact z = ap (λ (a : ℤ). a -ℤ pos (2 ^ 143) *ℤ z) (off (2 ^ 139) z) ∙ less_itself (pos (2 ^ 143) *ℤ z)

-- promise: The count of a byte is exact
-- rule: 2.8
-- with: byte_row_lem, byte_table
pub byte_exact_lem : (x y : ℤ) → Apart 0 (byte_counts x y) (byte_exact x y)
byte_exact_lem x y = record { real = rw (exact x) (within_zero 0); imag = rw (exact y) (within_zero 0) }
