-- Counts that are so many times others, all of them, decide the same word, at every rate, and its lead is so many times
-- theirs.
-- Assumes nothing.
use mathlib.Core.Path.{◌≡◌, refl, sym, ap, ◌∙◌, subst}
use mathlib.Core.Bool.{Bool, true, false, cond}
use mathlib.Core.List.{List, [], ◌∷◌, map}
use Prim.Native.Nat.{ℕ, zero, suc, ◌+◌, ◌*◌, ◌≤◌, ◌<◌}
use native.Mathlib.Nat.{
  lt_of_not-le,
  not-le_of_lt,
  mul-add,
  mul-zero,
  mul_comm,
  mul-le-mul_left,
  mul-lt-mul_of_pos_right,
}
use native.Mathlib.Omega.{arith}
use lib.Dec.{T}
use lib.IntN.{ℤ, pos, neg_ℤ, ◌+ℤ◌, ◌*ℤ◌}
use lib.Signed.{lt_z, ◌≤ℤ◌}
use Rattle.base.specs.Whole.{up, dn}
use Rattle.base.proofs.Whole.{add, neg_up, neg_dn, up_pos, dn_pos, same, of_lt, lt_of, of_le, le_of}
use Rattle.rules_rates.specs.declared.Rate.{Rate}
use Rattle.rules_chips.specs.declared.Counts.{Counts}
use Rattle.rules_symbols.specs.Words.{word_of}
use Rattle.rules_symbols.specs.Choice.{term, score, going, first_largest, allowed, decided, lead_of}
use Rattle.rules_choosing.specs.Scores.{score_at, NextAs}
use Rattle.base.proofs.Adding.{times_up, times_dn}
use Rattle.rules_choosing.proofs.Leads.{runner_up, runner_next, lead_is}

iff : (a b : Bool) → (T a → T b) → (T b → T a) → a ≡ b
iff true true f g = refl
iff true false f g = absurd (f tt)
iff false true f g = absurd (g tt)
iff false false f g = refl

-- the counts c are t times u
pub record Times (t : ℕ) (c u : Counts) : Type 0 where
  pub real : c.i ≡ pos t *ℤ u.i
  pub imag : c.q ≡ pos t *ℤ u.q

module _ (t : ℕ) (some : 0 < t) where
  abbrev pub k : ℤ → ℤ
  k z = pos t *ℤ z

  k_neg : (z : ℤ) → neg_ℤ (k z) ≡ k (neg_ℤ z)
  k_neg z = same (neg_ℤ (k z)) (k (neg_ℤ z)) (omega (
    arith,
    neg_up (k z),
    neg_dn (k z),
    ap (λ (x : ℕ). t * x) (neg_up z),
    ap (λ (x : ℕ). t * x) (neg_dn z),
    times_up t z,
    times_dn t z,
    times_up t (neg_ℤ z),
    times_dn t (neg_ℤ z),
  ))

  pub k_add : (a b : ℤ) → k a +ℤ k b ≡ k (a +ℤ b)
  k_add a b = same (k a +ℤ k b) (k (a +ℤ b)) (omega (
    arith,
    add (k a) (k b),
    spread (up (a +ℤ b)) (dn a) (dn b),
    spread (dn (a +ℤ b)) (up a) (up b),
    ap (λ (x : ℕ). t * x) (add a b),
    times_up t a,
    times_dn t a,
    times_up t b,
    times_dn t b,
    times_up t (a +ℤ b),
    times_dn t (a +ℤ b),
  ))
    where
      spread : (x y z : ℕ) → t * (x + (y + z)) ≡ t * x + (t * y + t * z)
      spread x y z = mul-add t x (y + z) ∙ ap (λ (w : ℕ). t * x + w) (mul-add t y z)

  lt_times : {x y : ℕ} → x < y → t * x < t * y
  lt_times {x} {y} h = rw (mul_comm t x, mul_comm t y) (mul-lt-mul_of_pos_right h some)

  lt_back : {x y : ℕ} → t * x < t * y → x < y
  lt_back {x} {y} h = lt_of_not-le (λ (g : y ≤ x). not-le_of_lt h (mul-le-mul_left t g))

  k_lt : (a b : ℤ) → lt_z (k a) (k b) ≡ lt_z a b
  k_lt a b =
      iff (lt_z (k a) (k b)) (lt_z a b)
      (λ l. (lt_of a b (lt_back (scaled (of_lt (k a) (k b) (record { lt = l }))))).lt)
      (λ l. (lt_of (k a) (k b) (unscaled (lt_times (of_lt a b (record { lt = l }))))).lt)
    where
      scaled : up (k a) + dn (k b) < up (k b) + dn (k a) → t * (up a + dn b) < t * (up b + dn a)
      scaled h =
          rw (mul-add t (up a) (dn b), mul-add t (up b) (dn a))
          (omega (arith, times_up t a, times_dn t a, times_up t b, times_dn t b))

      unscaled : t * (up a + dn b) < t * (up b + dn a) → up (k a) + dn (k b) < up (k b) + dn (k a)
      unscaled h =
          omega (
            arith,
            mul-add t (up a) (dn b),
            mul-add t (up b) (dn a),
            times_up t a,
            times_dn t a,
            times_up t b,
            times_dn t b,
          )

  k_le : (a b : ℤ) → a ≤ℤ b → k a ≤ℤ k b
  k_le a b h =
      le_of (k a) (k b) (omega (
        arith,
        mul-le-mul_left t (of_le a b h),
        mul-add t (up a) (dn b),
        mul-add t (up b) (dn a),
        times_up t a,
        times_dn t a,
        times_up t b,
        times_dn t b,
      ))

  -- ---- scores
  pub term_times : (p : ℕ) {c u : Counts} → Times t c u → term p c ≡ k (term p u)
  term_times zero h = h.real
  term_times (suc zero) h = h.imag
  term_times (suc (suc zero)) {c} {u} h = ap neg_ℤ h.real ∙ k_neg u.i
  term_times (suc (suc (suc zero))) {c} {u} h = ap neg_ℤ h.imag ∙ k_neg u.q
  term_times (suc (suc (suc (suc p)))) h = ap pos (sym (mul-zero t))

  module _ {A : Type 0} (f g : A → Counts) (h : (a : A) → Times t (f a) (g a)) where
    score_times : (w : List ℕ) (l : List A) → score w (map f l) ≡ k (score w (map g l))
    unfolding score
    score_times [] l = ap pos (sym (mul-zero t))
    score_times (p ∷ w) [] = ap pos (sym (mul-zero t))
    score_times (p ∷ w) (a ∷ l) = (λ i. term_times p (h a) i +ℤ score_times w l i)
        ∙ k_add (term p (g a)) (score w (map g l))

  -- ---- the first largest
  module _ (f g : ℕ → ℤ) (e : (n : ℕ) → f n ≡ k (g n)) where
    lt_same : (a b : ℕ) → lt_z (f a) (f b) ≡ lt_z (g a) (g b)
    lt_same a b = (λ i. lt_z (e a i) (e b i)) ∙ k_lt (g a) (g b)

    going_same : (b : ℕ) (ns : List ℕ) → going f b ns ≡ going g b ns
    unfolding going
    going_same b [] = refl
    going_same b (n ∷ ns) =
        ap (λ (t : Bool). going f (cond t n b) ns) (lt_same b n) ∙ going_same (cond (lt_z (g b) (g n)) n b) ns

    first_same : (ns : List ℕ) → first_largest f ns ≡ first_largest g ns
    unfolding first_largest
    first_same [] = refl
    first_same (n ∷ ns) = going_same n ns

  module _ {A : Type 0} (f g : A → Counts) (h : (a : A) → Times t (f a) (g a)) (r : Rate) (l : List A) where
    scores : (n : ℕ) → score_at r (map f l) n ≡ k (score_at r (map g l) n)
    scores n = score_times f g h (word_of r n) l

    -- promise: Bytes as they are choose the word that their counts do
    -- rule: 2.8
    -- code: choose_bytes::barkers, choose_bytes::fives, choose_bytes::elevens
    pub decided_times : decided r (map f l) ≡ decided r (map g l)
    unfolding decided
    decided_times = first_same (score_at r (map f l)) (score_at r (map g l)) scores (allowed r)

    abbrev few : List Counts
    few = map g l

    abbrev many : List Counts
    many = map f l

    -- the word next to it is the same
    next_times : NextAs r many (decided r many) (runner_up r few)
    next_times = subst (λ (w : ℕ). NextAs r many w (runner_up r few)) (sym decided_times) (record {
      among = x.among;
      allowed = x.allowed;
      other = x.other;
      top = λ j h a d. rw (scores j, scores (runner_up r few))
          (k_le (score_at r few j) (score_at r few (runner_up r few)) (x.top j h a d));
    })
      where
        x : NextAs r few (decided r few) (runner_up r few)
        x = runner_next r few

    -- promise: Counts that are so many times others have so many times their lead
    -- rule: 2.5, 2.8
    pub lead_times : lead_of r many ≡ t * lead_of r few
    lead_times =
        let m = score_at r few (runner_up r few) in
        let w = score_at r few (decided r few) in
        let mine : k m +ℤ pos (lead_of r many) ≡ k w =
        ap (λ (z : ℤ). z +ℤ pos (lead_of r many)) (sym (scores (runner_up r few)))
        ∙ lead_is r many (runner_up r few) next_times
        ∙ ap (score_at r many) decided_times
        ∙ scores (decided r few) in
        let theirs : k m +ℤ k (pos (lead_of r few)) ≡ k w =
        k_add m (pos (lead_of r few)) ∙ ap k (lead_is r few (runner_up r few) (runner_next r few)) in
        omega (
          arith,
          ap up mine,
          ap dn mine,
          ap up theirs,
          ap dn theirs,
          add (k m) (pos (lead_of r many)),
          add (k m) (k (pos (lead_of r few))),
          up_pos (lead_of r many),
          dn_pos (lead_of r many),
          times_up t (pos (lead_of r few)),
          times_dn t (pos (lead_of r few)),
          ap (λ (x : ℕ). t * x) (up_pos (lead_of r few)),
          ap (λ (x : ℕ). t * x) (dn_pos (lead_of r few)),
        )
