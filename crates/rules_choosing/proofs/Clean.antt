-- A word against the clean chips of another scores a full chip for each chip at which they agree, less one for each
-- at which they are a half turn apart; a quarter turn adds nothing. So a word scores most against its own chips,
-- every other word less, and a clean word is decided as itself.
-- Assumes nothing.
use mathlib.Core.Path.{◌≡◌, refl, sym, ◌∙◌, subst}
use mathlib.Core.Bool.{Bool, true, false}
use mathlib.Core.List.{List, [], ◌∷◌}
use Prim.Native.Nat.{ℕ, zero, suc, ◌+◌, ◌*◌, ◌≤◌, ◌<◌}
use native.Mathlib.Nat.{mul-add, mul-lt-mul_of_pos_left}
use native.Mathlib.Decide.{dec_lt}
use native.Mathlib.Omega.{arith}
use lib.Dec.{T, lit≤, eqb}
use borrow.Author.Tests.{eqb-true, eq-eqb}
use lib.ListN.{length}
use lib.IntN.{ℤ, pos, neg_ℤ, ◌+ℤ◌}
use lib.Signed.{◌<ℤ◌}
use Rattle.base.specs.Whole.{up, dn}
use Rattle.base.proofs.Whole.{up_pos, dn_pos, neg_up, neg_dn, add, lt_of}
use Rattle.rules_rates.specs.declared.Rate.{Rate}
use Rattle.rules_chips.specs.Chips.{turned, full_chip}
use Rattle.rules_symbols.specs.Words.{word_of}
use Rattle.rules_symbols.specs.Choice.{term, score, numbers, is_allowed, decided}
use Rattle.rules_symbols.proofs.Words.{Phases, phases_tail, word_phases, word_length}
use Rattle.rules_symbols.proofs.Numbers.{word_one}
use Rattle.rules_symbols.proofs.Agreement.{one, agreeing, opposed, clean}
use Rattle.rules_choosing.proofs.Decided.{decided_leads_lem}

-- four phases
pub phase : (P : ℕ → Type 0) → P 0 → P 1 → P 2 → P 3 → (p : ℕ) → p < 4 → P p
phase P a b c d zero h = a
phase P a b c d (suc zero) h = b
phase P a b c d (suc (suc zero)) h = c
phase P a b c d (suc (suc (suc zero))) h = d
phase P a b c d (suc (suc (suc (suc p)))) h = absurd (omega arith)

module _ (full : ℕ) where
  -- z is full chips: so many more than so many
  pub record Full (z : ℤ) (more less : ℕ) : Type 0 where
    pub is : up z + full * less ≡ dn z + full * more

  zero_full : Full (pos 0) 0 0
  zero_full = record { is = omega (arith, up_pos 0, dn_pos 0) }

  plus_full : Full (pos full) 1 0
  plus_full = record { is = omega (arith, up_pos full, dn_pos full) }

  neg_full : {z : ℤ} {a b : ℕ} → Full z a b → Full (neg_ℤ z) b a
  neg_full {z} {a} {b} h = record { is = omega (arith, h.is, neg_up z, neg_dn z) }

  add_full : {y z : ℤ} {a b c d : ℕ} → Full y a b → Full z c d → Full (y +ℤ z) (a + c) (b + d)
  add_full {y} {z} {a} {b} {c} {d} h k = record {
    is = rw (mul-add full a c, mul-add full b d)
        (omega (arith, h.is, k.is, add y z));
  }

  -- one chip
  abbrev Chip : ℕ → ℕ → Type 0
  Chip p q = Full (term p (full_chip full q)) (one (eqb p q)) (one (eqb (turned p 2) q))

  chip_full : (p q : ℕ) → p < 4 → q < 4 → Chip p q
  chip_full p q hp hq =
      let minus = neg_full plus_full in
      phase (λ p. (q : ℕ) → q < 4 → Chip p q)
      (phase (Chip 0) plus_full zero_full minus zero_full)
      (phase (Chip 1) zero_full plus_full zero_full minus)
      (phase (Chip 2) minus zero_full (neg_full minus) zero_full)
      (phase (Chip 3) zero_full minus zero_full (neg_full minus))
      p hp q hq

  pub score_full : (v w : List ℕ) → Phases v → Phases w → Full (score v (clean full w)) (agreeing v w) (opposed v w)
  unfolding score agreeing opposed
  score_full [] w hv hw = zero_full
  score_full (p ∷ v) [] hv hw = zero_full
  score_full (p ∷ v) (q ∷ w) hv hw =
      add_full (chip_full p q (hv.at 0) (hw.at 0)) (score_full v w (phases_tail hv) (phases_tail hw))

-- ---- a word agrees with itself, and another of its length not wholly
pub agreeing_self : (w : List ℕ) → agreeing w w ≡ length w
unfolding agreeing
agreeing_self [] = refl
agreeing_self (p ∷ w) = rw (eq-eqb p p refl, agreeing_self w) (omega arith)

-- no chip is both the same and a half turn apart: what is left of the length is a quarter turn apart
either : (p q : ℕ) (s t : Bool) → eqb p q ≡ s → eqb (turned p 2) q ≡ t → one s + one t ≤ 1
either p q true true e f = absurd (both p q (eqb-true p q e) (eqb-true (turned p 2) q f))
  where
    both : (p q : ℕ) → p ≡ q → turned p 2 ≡ q → ⊥
    both p q e f = omega arith
either p q true false e f = lit≤ tt
either p q false true e f = lit≤ tt
either p q false false e f = lit≤ tt

pub agreeing_opposed : (v w : List ℕ) → agreeing v w + opposed v w ≤ length v
unfolding agreeing opposed
agreeing_opposed [] w = lit≤ tt
agreeing_opposed (p ∷ v) [] = omega arith
agreeing_opposed (p ∷ v) (q ∷ w) = omega (arith, either p q _ _ refl refl, agreeing_opposed v w)

pub agreeing_all : (v w : List ℕ) → length v ≡ length w → length v ≤ agreeing v w → v ≡ w
unfolding agreeing
agreeing_all [] [] e h = refl
agreeing_all [] (q ∷ w) e h = absurd (omega arith)
agreeing_all (p ∷ v) [] e h = absurd (omega arith)
agreeing_all (p ∷ v) (q ∷ w) e h = by (eqb p q) refl h (agreeing_all v w (omega arith)) (agreeing_opposed v w)
  where
    by : (b : Bool) → eqb p q ≡ b → suc (length v) ≤ one b + agreeing v w → (length v ≤ agreeing v w → v ≡ w)
        → agreeing v w + opposed v w ≤ length v → (p ∷ v) ≡ (q ∷ w)
    by true x k tail le = let t : v ≡ w = tail (omega arith) in λ i. eqb-true p q x i ∷ t i
    by false x k tail le = absurd (omega arith)

-- ---- a clean word is decided as itself
pub score_self : (full : ℕ) (w : List ℕ) → Phases w → Full full (score w (clean full w)) (length w) 0
score_self full w h =
    let o : opposed w w ≡ 0 = omega (arith, agreeing_opposed w w, agreeing_self w) in
    subst (λ (a : ℕ). Full full (score w (clean full w)) a 0) (agreeing_self w)
    (subst (λ (b : ℕ). Full full (score w (clean full w)) (agreeing w w) b) o (score_full full w w h h))

pub score_other : (full : ℕ) → 0 < full → (v w : List ℕ) → Phases v → Phases w → length v ≡ length w → (v ≡ w → ⊥)
    → score v (clean full w) <ℤ score w (clean full w)
score_other full pos-full v w hv hw e ne =
    let a = (score_full full v w hv hw).is in
    let b = (score_self full w hw).is in
    let few : agreeing v w < length w = by (dec_lt (agreeing v w) (length w)) in
    let k : full * agreeing v w < full * length w = mul-lt-mul_of_pos_left few pos-full in
    lt_of (score v (clean full w)) (score w (clean full w)) (omega arith)
  where
    by : Dec (agreeing v w < length w) → agreeing v w < length w
    by (yes p) = p
    by (no q) = absurd (ne (agreeing_all v w e (omega arith)))

-- promise: Clean words are chosen as themselves; a word that leads is chosen
-- rule: 3.6
-- with: decided_leads_lem
pub decided_clean : (full : ℕ) → 0 < full → (r : Rate) (n : ℕ) → n < numbers r → T (is_allowed r n)
    → decided r (clean full (word_of r n)) ≡ n
decided_clean full h r n below a =
    decided_leads_lem r (clean full (word_of r n)) n below a
    (λ m k b ne. score_other full h (word_of r m) (word_of r n) (word_phases r m) (word_phases r n)
    (word_length r m ∙ sym (word_length r n)) (λ e. ne (word_one r m n k below e)))
