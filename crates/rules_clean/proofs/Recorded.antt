-- Written chips, recorded hard, as exact soft pairs or as bytes, are a clean recording. A hard phase, two bytes and an
-- exact pair come to the counts of a full chip: the first two by computing, the last since only one count is nearest to
-- a value. Assumes nothing.
use mathlib.Core.Path.{◌≡◌, refl, sym, ap, ap₂, subst}
use mathlib.Core.Bool.{Bool, true, false, cond}
use mathlib.Core.List.{List, [], ◌∷◌, ◌++◌}
use Prim.Native.Nat.{ℕ, zero, suc, ◌*◌, ◌^◌, ◌<◌}
use native.Mathlib.Omega.{arith}
use lib.Dec.{T, lit≤}
use lib.ListN.{length}
use lib.IntN.{ℤ, pos, neg_ℤ}
use lib.Ieee.{Float}
use Rattle.rules_chips.specs.declared.Counts.{Counts}
use Rattle.rules_chips.specs.declared.Chip.TheVariants.{Soft}
use Rattle.rules_chips.specs.Floats.{usable, count_of, value_of, Nearest}
use Rattle.rules_chips.specs.Chips.{
  Taken,
  unusable,
  counted,
  pair,
  nothing,
  full_chip,
  usable_sample,
  exact_of,
  hard_taken,
  soft_taken,
  byte_counts,
  hard_recording,
  soft_recording,
  byte_recording,
}
use Rattle.rules_chips.proofs.Meaning.{no_other}
use Rattle.base.specs.Below.{Below}
use Rattle.base.proofs.Below.{below_head, below_tail}
use Rattle.base.proofs.Tests.{both_left, both_right}
use Rattle.rules_clean.specs.Clean.{clean_taken, clean_recording, Exactly, none, more, byte_row}

-- ---- hard
hard_clean : (p : ℕ) → p < 4 → hard_taken p ≡ clean_taken p
hard_clean zero h = refl
hard_clean (suc zero) h = refl
hard_clean (suc (suc zero)) h = refl
hard_clean (suc (suc (suc zero))) h = refl
hard_clean (suc (suc (suc (suc p)))) h = absurd (omega arith)

pub hard_recorded : (chips tail : List ℕ) → Below 4 chips
    → hard_recording (chips ++ tail) ≡ clean_recording chips ++ hard_recording tail
unfolding hard_recording clean_recording
hard_recorded [] tail h = refl
hard_recorded (p ∷ chips) tail h =
    ap₂ {C = List Taken} (λ x xs. x ∷ xs) (hard_clean p (below_head h)) (hard_recorded chips tail (below_tail h))

-- ---- bytes
byte_clean : (p : ℕ) → counted (byte_counts (full_chip 64 p).i (full_chip 64 p).q) ≡ clean_taken p
byte_clean zero = refl
byte_clean (suc zero) = refl
byte_clean (suc (suc zero)) = refl
byte_clean (suc (suc (suc zero))) = refl
byte_clean (suc (suc (suc (suc p)))) = refl

pub byte_recorded : (chips : List ℕ) (tail : List ℤ)
    → byte_recording (byte_row chips ++ tail) ≡ clean_recording chips ++ byte_recording tail
unfolding byte_row byte_recording clean_recording
byte_recorded [] tail = refl
byte_recorded (p ∷ chips) tail =
    ap₂ {C = List Taken} (λ x xs. x ∷ xs) (byte_clean p) (byte_recorded chips tail)

-- two bytes a chip
pub byte_row_length : (chips : List ℕ) → length (byte_row chips) ≡ 2 * length chips
unfolding byte_row
byte_row_length [] = refl
byte_row_length (p ∷ chips) = let h = byte_row_length chips in omega arith

-- ---- soft
is_count : (x : Float) (m k : ℤ) → T (usable x) → value_of x ≡ m → Nearest m k → count_of x ≡ k
is_count x m k u e h = sym (no_other x k u (subst (λ (v : ℤ). Nearest v k) (sym e) h))

nearest_zero : Nearest (pos 0) (pos 0)
nearest_zero = record { close = lit≤ tt; even = λ e. refl }

nearest_plus : Nearest (pos (2 ^ 149)) (pos 1024)
nearest_plus = record { close = lit≤ tt; even = λ e. refl }

nearest_minus : Nearest (neg_ℤ (pos (2 ^ 149))) (neg_ℤ (pos 1024))
nearest_minus = record { close = lit≤ tt; even = λ e. refl }

module _ (x y : Float) (u : T (usable_sample (record { i = x; q = y }))) where
  ux : T (usable x)
  ux = both_left (usable x) (usable y) u

  uy : T (usable y)
  uy = both_right (usable x) (usable y) u

  with_counts : (c d : ℤ) → count_of x ≡ c → count_of y ≡ d → soft_taken x y ≡ counted (pair c d)
  with_counts c d e f = go (usable_sample (record { i = x; q = y })) u
    where
      go : (t : Bool) → T t → cond t (counted (cond t (pair (count_of x) (count_of y)) nothing)) unusable
          ≡ counted (pair c d)
      go true tr = ap₂ {C = Taken} (λ a b. counted (pair a b)) e f
      go false tr = absurd tr

  from_exact : (m n c d : ℤ) → exact_of (Soft (record { i = x; q = y })) ≡ pair m n → Nearest m c → Nearest n d
      → soft_taken x y ≡ counted (pair c d)
  from_exact m n c d e h k =
      with_counts c d (is_count x m c ux (ap (λ (z : Counts). z.i) e) h)
      (is_count y n d uy (ap (λ (z : Counts). z.q) e) k)

  pub soft_clean : (p : ℕ) → exact_of (Soft (record { i = x; q = y })) ≡ full_chip (2 ^ 149) p
      → soft_taken x y ≡ clean_taken p
  soft_clean zero e = from_exact _ _ _ _ e nearest_plus nearest_zero
  soft_clean (suc zero) e = from_exact _ _ _ _ e nearest_zero nearest_plus
  soft_clean (suc (suc zero)) e = from_exact _ _ _ _ e nearest_minus nearest_zero
  soft_clean (suc (suc (suc zero))) e = from_exact _ _ _ _ e nearest_zero nearest_minus
  soft_clean (suc (suc (suc (suc p)))) e = from_exact _ _ _ _ e nearest_zero nearest_zero

pub soft_recorded : (chips : List ℕ) (i q j r : List Float) → Exactly chips i q
    → soft_recording (i ++ j) (q ++ r) ≡ clean_recording chips ++ soft_recording j r
unfolding soft_recording clean_recording
soft_recorded [] [] (y ∷ q) j r x3 = elim x3 [ ]
soft_recorded [] (x ∷ i) q j r x4 = elim x4 [ ]
soft_recorded (p ∷ chips) [] q j r x3 = elim x3 [ ]
soft_recorded (p ∷ chips) (x ∷ i) [] j r x6 = elim x6 [ ]
soft_recorded [] [] [] j r none = refl
soft_recorded (p ∷ chips) (x ∷ i) (y ∷ q) j r (more u e h) =
    ap₂ {C = List Taken} (λ a b. a ∷ b) (soft_clean x y u p e) (soft_recorded chips i q j r h)

pub rows_agree : (chips : List ℕ) (i q : List Float) → Exactly chips i q → length i ≡ length q
rows_agree [] [] (y ∷ q) x3 = elim x3 [ ]
rows_agree [] (x ∷ i) q x4 = elim x4 [ ]
rows_agree (p ∷ chips) [] q x3 = elim x3 [ ]
rows_agree (p ∷ chips) (x ∷ i) [] x6 = elim x6 [ ]
rows_agree [] [] [] none = refl
rows_agree (p ∷ chips) (x ∷ i) (y ∷ q) (more u e h) = ap suc (rows_agree chips i q h)
