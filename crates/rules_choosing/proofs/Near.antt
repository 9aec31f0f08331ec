-- How far a score of counts is from the exact score, where each count is at most b steps from its exact value: at
-- most b for each chip, once for every length and every size u of a count. And what that leaves of the choice: no
-- allowed word's exact score is above the chosen one's by more than both scores' errors together.
-- Assumes nothing.
use mathlib.Core.Path.{◌≡◌, refl, sym, ap, ◌∙◌}
use mathlib.Core.Bool.{Bool}
use mathlib.Core.List.{List, [], ◌∷◌}
use Prim.Native.Nat.{ℕ, zero, suc, ◌+◌, ◌*◌, ◌≤◌, ◌<◌}
use native.Mathlib.Nat.{zero-mul, add-mul, mul-suc, mul-le-mul_right}
use native.Mathlib.Decide.{dec_lt}
use native.Mathlib.Omega.{arith}
use lib.Dec.{T}
use lib.ListN.{length}
use lib.IntN.{ℤ, pos, negsuc, neg_ℤ, ◌+ℤ◌, ◌-ℤ◌, ◌*ℤ◌}
use lib.Signed.{◌≤ℤ◌, ◌<ℤ◌}
use Rattle.base.specs.Whole.{up, dn, Within}
use Rattle.base.proofs.Whole.{add, neg_up, neg_dn, up_pos, dn_pos, le_of, of_le, of_lt, lt_of}
use Rattle.rules_chips.specs.declared.Counts.{Counts}
use Rattle.rules_symbols.specs.Choice.{term, score}
use Rattle.rules_choosing.specs.Scores.{BestOf}

mul_up : (z : ℤ) (u : ℕ) → up (z *ℤ pos u) ≡ up z * u
unfolding up
mul_up (pos n) u = refl
mul_up (negsuc n) u = neg_up (pos (suc n * u)) ∙ dn_pos (suc n * u) ∙ sym (zero-mul u)

mul_dn : (z : ℤ) (u : ℕ) → dn (z *ℤ pos u) ≡ dn z * u
unfolding dn
mul_dn (pos n) u = sym (zero-mul u)
mul_dn (negsuc n) u = neg_dn (pos (suc n * u)) ∙ up_pos (suc n * u)

module _ (u : ℕ) where
  -- k counts of u steps each are at most b steps from m
  pub record Off (b : ℕ) (k m : ℤ) : Type 0 where
    pub high : up k * u + dn m ≤ b + (dn k * u + up m)
    pub low : dn k * u + up m ≤ b + (up k * u + dn m)

  pub off_within : {b : ℕ} (k m : ℤ) → Within b ((k *ℤ pos u) -ℤ m) → Off b k m
  off_within {b} k m w = record {
    high = omega (arith, w.high, add (k *ℤ pos u) (neg_ℤ m), neg_up m, neg_dn m, mul_up k u, mul_dn k u);
    low = omega (arith, w.low, add (k *ℤ pos u) (neg_ℤ m), neg_up m, neg_dn m, mul_up k u, mul_dn k u);
  }

  off_none : (b : ℕ) → Off b (pos 0) (pos 0)
  unfolding up dn
  off_none b = record { high = omega arith; low = omega arith }

  off_more : {b d : ℕ} {k m : ℤ} → b ≤ d → Off b k m → Off d k m
  off_more le h = record { high = omega (arith, h.high); low = omega (arith, h.low) }

  off_neg : {b : ℕ} (k m : ℤ) → Off b k m → Off b (neg_ℤ k) (neg_ℤ m)
  off_neg k m h = record {
    high = rw (neg_up k, neg_dn k, neg_up m, neg_dn m) h.low;
    low = rw
        (neg_up k, neg_dn k, neg_up m, neg_dn m) h.high;
  }

  -- a sum of counts in steps
  add_steps : (k j : ℤ) → up (k +ℤ j) * u + (dn k * u + dn j * u) ≡ dn (k +ℤ j) * u + (up k * u + up j * u)
  add_steps k j =
      simp add-mul at (ap (λ (n : ℕ). n * u) (add k j))

  off_add : {b d : ℕ} (k m j n : ℤ) → Off b k m → Off d j n → Off (b + d) (k +ℤ j) (m +ℤ n)
  off_add k m j n h g = record {
    high = omega (arith, h.high, g.high, add_steps k j, add m n);
    low = omega (arith, h.low, g.low, add_steps k j, add m n);
  }

  -- counts and exact values of one chip, and of a row of chips
  pub record OffChip (b : ℕ) (c e : Counts) : Type 0 where
    pub real : Off b c.i e.i
    pub imag : Off b c.q e.q

  pub data OffAll (b : ℕ) : List Counts → List Counts → Type 0 where
    none : OffAll b [] []
    more : {c e : Counts} {cs es : List Counts} → OffChip b c e → OffAll b cs es → OffAll b (c ∷ cs) (e ∷ es)

  off_term : {b : ℕ} (p : ℕ) {c e : Counts} → OffChip b c e → Off b (term p c) (term p e)
  off_term zero h = h.real
  off_term (suc zero) h = h.imag
  off_term (suc (suc zero)) h = off_neg _ _ h.real
  off_term (suc (suc (suc zero))) h = off_neg _ _ h.imag
  off_term (suc (suc (suc (suc n)))) h = off_none _

  pub off_score : {b : ℕ} (w : List ℕ) {cs es : List Counts} → OffAll b cs es
      → Off (b * length w) (score w cs) (score w es)
  unfolding score
  off_score [] h = off_none _
  off_score (p ∷ w) none = off_none _
  off_score {b} (p ∷ w) (more h t) =
      off_more (rw (mul-suc b (length w)) (omega arith)) (off_add _ _ _ _ (off_term p h) (off_score w t))

-- ---- the choice by counts, seen by exact scores
module _ (u e : ℕ) {ok : ℕ → Bool} {n r : ℕ} {f g : ℕ → ℤ} (best : BestOf ok n f r)
    (off : (m : ℕ) → Off u e (f m) (g m)) where
  -- what is no less in counts is no less in steps
  steps : (a b : ℤ) → a ≤ℤ b → up a * u + dn b * u ≤ up b * u + dn a * u
  steps a b h = simp add-mul at (mul-le-mul_right u (of_le a b h))

  pub none_above : (m : ℕ) → m < n → T (ok m) → g m ≤ℤ (g r +ℤ pos (e + e))
  none_above m h a =
      let le = steps (f m) (f r) (best.top m h a) in
      let x = off m in
      let y = off r in
      le_of (g m) (g r +ℤ pos (e + e)) (omega (
        arith,
        x.low,
        y.high,
        add (g r) (pos (e + e)),
        up_pos (e + e),
        dn_pos
            (e + e),
      ))

-- a number that is behind by so many counts that they are more steps than both errors is behind in the exact scores
pub behind_exact : (u e l : ℕ) (a b x y : ℤ) → Off u e a x → Off u e b y → (a +ℤ pos l) ≤ℤ b → e + e < l * u → x <ℤ y
behind_exact u e l a b x y oa ob le above =
    lt_of x y (omega (
      arith,
      oa.low,
      ob.high,
      above,
      simp add-mul at (mul-le-mul_right u (of_le (a +ℤ pos l) b le)),
      simp add-mul at (ap (λ (n : ℕ). n * u) (add a (pos l))),
      ap (λ (n : ℕ). n * u) (up_pos l),
      ap (λ (n : ℕ). n * u) (dn_pos l),
      zero-mul u,
    ))

-- a number that leads every other by more than that can be no other than the chosen one
pub leader_chosen : (d : ℕ) (ok : ℕ → Bool) (g : ℕ → ℤ) {n r : ℕ} → r < n → T (ok r) → (m : ℕ)
    → g m ≤ℤ (g r +ℤ pos d) → ((j : ℕ) → j < n → T (ok j) → (j ≡ m → ⊥) → (g j +ℤ pos d) <ℤ g m) → r ≡ m
leader_chosen d ok g {n} {r} h a m le lead = by (dec_lt r m) (dec_lt m r)
  where
    other : (r ≡ m → ⊥) → r ≡ m
    other ne = absurd (omega (arith, of_le (g m) (g r +ℤ pos d) le, of_lt (g r +ℤ pos d) (g m) (lead r h a ne)))

    by : Dec (r < m) → Dec (m < r) → r ≡ m
    by (yes p) q = other (λ e. absurd (omega arith))
    by (no p) (yes q) = other (λ e. absurd (omega arith))
    by (no p) (no q) = omega arith
