-- Columns of rows of any lane: four chips that enter, and a butterfly, whose complex numbers are whole numbers of I and
-- Q.
--     scaled_column, flown_column      four chips of one column more, and a butterfly
--     turned_twice, turned_thrice      a number turned back
--     bounded_by, bounded_back, bounded_sum, within_lane      how large a butterfly's numbers are
--     place_fits                       a place in a row that is lent
-- Assumes nothing.
use Rattle.std.proofs.Common.{
  ◌≡◌,
  ℕ,
  ℤ,
  ◌+◌,
  ◌*◌,
  ◌≤◌,
  ◌<◌,
  List,
  [],
  ◌∷◌,
  length,
  map,
  set,
  get_or,
  pos,
  neg_ℤ,
  ◌+ℤ◌,
  ◌*ℤ◌,
  ap,
  sym,
  subst,
  ◌∙◌,
  Fits,
  w64,
  arith,
}
use Rattle.std.proofs.lemmas.List.{map-set, length-map}
use native.Mathlib.Nat.{mul-le-mul_right}
use lib.IntN.{neg_ℤ-neg_ℤ}
use Rattle.base.specs.Whole.{Within}
use Rattle.base.proofs.Whole.{within_neg, within_more, within_add}
use Rattle.rules_chips.specs.declared.Counts.{Counts}
use Rattle.rules_chips.specs.Chips.{pair}
use Rattle.rules_chips.specs.Bounds.{Bounded}
use Rattle.choose_walsh.specs.Turns.{plus, back, fly}
use Rattle.choose_walsh.specs.Rows.{row_at, FourScaled, Flown}
use Rattle.choose_walsh.proofs.Stages.{scaled_four}
use Rattle.choose_walsh.proofs.Flights.{flown_eight}

module _ {A : Type 0} (value : A → ℤ) where
  pub scaled_column : {row : List ℤ} {x : ℕ} {t0 t1 t2 t3 m0 m1 m2 m3 : ℤ} (z₀ : List A) {l : ℕ} (z : List A)
      {v0 v1 v2 v3 : A}
      → FourScaled row x (t0 ∷ t1 ∷ t2 ∷ t3 ∷ []) (m0 ∷ m1 ∷ m2 ∷ m3 ∷ []) (map value z₀) l (map value z) → l < 32
      → x + 128 ≤ length z₀ → value v0 ≡ (t0 *ℤ get_or row (x + l) (pos 0)) +ℤ m0
      → value v1 ≡ (t1 *ℤ get_or row (x + l + 32) (pos 0)) +ℤ m1
      → value v2 ≡ (t2 *ℤ get_or row (x + l + 64) (pos 0)) +ℤ m2
      → value v3 ≡ (t3 *ℤ get_or row (x + l + 96) (pos 0)) +ℤ m3
      → FourScaled row x (t0 ∷ t1 ∷ t2 ∷ t3 ∷ []) (m0 ∷ m1 ∷ m2 ∷ m3 ∷ []) (map value z₀) (l + 1)
      (map value (set (set (set (set z (x + l) v0) (x + l + 32) v1) (x + l + 64) v2) (x + l + 96) v3))
  scaled_column z₀ z s few room e0 e1 e2 e3 =
      simp map-set (scaled_four s few (rw (length-map z₀ value) room) e0 e1 e2 e3)

  pub flown_column : {s : List ℤ} {x y : ℕ} (o₀ : List A) {z l : ℕ} (o : List A) {i0 q0 i1 q1 i2 q2 i3 q3 : A}
      → Flown s x y (map value o₀) z l (map value o) → l < 16 → z + 128 ≤ length o₀
      → pair (value i0) (value q0) ≡ fly (row_at s y l) (row_at s x l) 0
      → pair (value i1) (value q1) ≡ fly (row_at s y l) (row_at s x l) 1
      → pair (value i2) (value q2) ≡ fly (row_at s y l) (row_at s x l) 2
      → pair (value i3) (value q3) ≡ fly (row_at s y l) (row_at s x l) 3
      → Flown s x y (map value o₀) z (l + 1)
      (map value (set (set (set (set (set (set (set (set o (z + l) i0) (z + l + 16) q0) (z + l + 32) i1) (z + l + 48) q1)
      (z + l + 64) i2) (z + l + 80) q2) (z + l + 96) i3) (z + l + 112) q3))
  flown_column o₀ o f few room e0 e1 e2 e3 =
      simp map-set (flown_eight f few (rw (length-map o₀ value) room)
      (λ k. (e0 k).i ∷ (e0 k).q ∷ (e1 k).i ∷ (e1 k).q ∷ (e2 k).i ∷ (e2 k).q ∷ (e3 k).i ∷ (e3 k).q ∷ []))

-- ---- a number turned back once, twice and three times
pub turned_twice : {u v : Counts} (x : Counts) → u ≡ back 1 v → v ≡ back 1 x → u ≡ back 2 x
turned_twice x e d = e ∙ ap (back 1) d

pub turned_thrice : {u v : Counts} (x : Counts) → u ≡ back 1 v → v ≡ back 2 x → u ≡ back 3 x
turned_thrice x e d = e ∙ ap (back 1) d ∙ (λ k. pair (neg_ℤ x.q) (neg_ℤ-neg_ℤ x.i k))

-- ---- how large they are
pub bounded_by : {b : ℕ} {v w : Counts} → v ≡ w → Bounded b w → Bounded b v
bounded_by {b} e h = subst (Bounded b) (sym e) h

pub bounded_back : {b : ℕ} {v x : Counts} → v ≡ back 1 x → Bounded b x → Bounded b v
bounded_back e h = bounded_by e (record { real = h.imag; imag = within_neg h.real })

-- a sum is far below the limit of a lane
pub bounded_sum : {b m : ℕ} {y x : Counts} → 8 * b + 7 ≤ m → Bounded b y → Bounded b x → Bounded m (plus y x)
bounded_sum {b} {m} room h k = record {
  real = within_more (within_add h.real k.real) (omega (arith, room));
  imag = within_more (within_add h.imag k.imag) (omega (arith, room));
}

pub within_lane : {b m : ℕ} {z : ℤ} → 8 * b + 7 ≤ m → Within b z → Within m z
within_lane room h = within_more h (omega (arith, room))

-- ---- a place in a row that is lent
pub place_fits : (a n s : ℕ) → a ≤ n → n * s < 9223372036854775808 → Fits w64 (a * s)
place_fits a n s h k = record { fits = omega (arith, mul-le-mul_right s h) }
