-- The search for the two largest keys, group after group and column by column.
--     seeks_none, seeks_more           before the first group, and one more
--     top_low                          what a group's key is never below
--     quartered_more                   the loop over columns: one column more
--     sought_none, sought_quarter      before the first group, and the four of one p3 more
-- Assumes nothing.
use mathlib.Core.Path.{◌≡◌, refl, sym, ap, ◌∙◌, subst}
use mathlib.Core.Bool.{Bool, true, false, cond, not}
use mathlib.Core.List.{List}
use Prim.Native.Nat.{ℕ, ◌+◌, ◌*◌, ◌/◌, ◌%◌, ◌<◌}
use native.Mathlib.Decide.{dec_lt}
use native.Mathlib.Omega.{arith}
use lib.Dec.{T, lit<}
use lib.ListN.{length, get_or, set, length-set}
use lib.Seq.{get_or-set_same, get_or-set_other}
use lib.IntN.{ℤ, pos, negsuc, neg_ℤ, nat_abs, ◌+ℤ◌, ◌-ℤ◌}
use lib.Signed.{lt_z, ◌≤ℤ◌, ◌<ℤ◌, lt_z_yes, lt_z_no, ≤ℤ_refl}
use Rattle.base.specs.Whole.{up, dn}
use Rattle.base.proofs.Whole.{add, neg_up, neg_dn, up_pos, dn_pos, le_of, lt_of, of_le, of_lt}
use Rattle.rules_chips.specs.declared.Counts.{Counts}
use Rattle.rules_choosing.specs.Keys.{larger}
use Rattle.choose_walsh.specs.Turns.{sided, credit, four_top, top_of, next_of}
use Rattle.choose_walsh.specs.Rows.{row_at, evens, odds}
use Rattle.choose_walsh.specs.Search.{
  group_top,
  group_next,
  Held,
  held,
  merged,
  met,
  four_more,
  Leads,
  Follows,
  Seeks,
  held_at,
  Sought,
  Quartered,
}

-- ---- the larger of two
trans : (a b c : ℤ) → a ≤ℤ b → b ≤ℤ c → a ≤ℤ c
trans a b c h k = le_of a c (omega (arith, of_le a b h, of_le b c k))

less : (a b : ℤ) → a <ℤ b → a ≤ℤ b
less a b h = le_of a b (omega (arith, of_lt a b h))

larger_left : (a b : ℤ) → a ≤ℤ larger a b
larger_left a b = by (lt_z a b) (lt_z_yes {a = a} {b = b})
  where
    by : (t : Bool) → (T t → a <ℤ b) → a ≤ℤ cond t b a
    by true f = less a b (f tt)
    by false f = ≤ℤ_refl a

larger_right : (a b : ℤ) → b ≤ℤ larger a b
larger_right a b = by (lt_z a b) (lt_z_no {a = a} {b = b})
  where
    by : (t : Bool) → (T (not t) → b ≤ℤ a) → b ≤ℤ cond t b a
    by true f = ≤ℤ_refl b
    by false f = f tt

larger_least : (a b c : ℤ) → a ≤ℤ c → b ≤ℤ c → larger a b ≤ℤ c
larger_least a b c h k = by (lt_z a b)
  where
    by : (t : Bool) → cond t b a ≤ℤ c
    by true = k
    by false = h

below_least : (v b : ℤ) → v <ℤ negsuc 0 → negsuc 1 ≤ℤ b → v ≤ℤ b
unfolding up dn
below_least v b h k = le_of v b (omega (arith, of_lt v (negsuc 0) h, of_le (negsuc 1) b k))

-- ---- what a key is never below
credit_low : (u : ℤ) → negsuc 0 ≤ℤ credit u
unfolding credit up dn
credit_low u = by (lt_z u (negsuc 1 -ℤ u)) (lt_z_yes {a = u} {b = negsuc 1 -ℤ u}) (lt_z_no {a = u} {b = negsuc 1 -ℤ u})
  where
    two : up (negsuc 1 -ℤ u) + (2 + up u) ≡ dn (negsuc 1 -ℤ u) + dn u
    two = omega (arith, add (negsuc 1) (neg_ℤ u), neg_up u, neg_dn u)

    by : (b : Bool) → (T b → u <ℤ (negsuc 1 -ℤ u)) → (T (not b) → (negsuc 1 -ℤ u) ≤ℤ u)
        → negsuc 0 ≤ℤ cond b (negsuc 1 -ℤ u) u
    by true f g = le_of (negsuc 0) (negsuc 1 -ℤ u) (omega (arith, two, of_lt u (negsuc 1 -ℤ u) (f tt)))
    by false f g = le_of (negsuc 0) u (omega (arith, two, of_le (negsuc 1 -ℤ u) u (g tt)))

raised_low : (n : ℕ) (u : ℤ) → negsuc 0 ≤ℤ u → negsuc 0 ≤ℤ (pos n +ℤ u)
raised_low n u h =
    le_of (negsuc 0) (pos n +ℤ u) (omega (arith, of_le (negsuc 0) u h, add (pos n) u, up_pos n, dn_pos n))

four_low : (y a b : ℤ) → negsuc 0 ≤ℤ four_top y a b
unfolding four_top
four_low y a b =
    let u = credit (sided y a) in
    let v = credit (sided y b) -ℤ pos 1 in
    raised_low (nat_abs y) (larger u v) (trans (negsuc 0) u (larger u v) (credit_low (sided y a)) (larger_left u v))

pub top_low : (y x : Counts) → negsuc 0 ≤ℤ top_of y x
unfolding top_of
top_low y x =
    trans (negsuc 0) (four_top y.i x.i x.q) (top_of y x) (four_low y.i x.i x.q)
    (larger_left (four_top y.i x.i x.q) (four_top y.q x.q (neg_ℤ x.i) -ℤ pos 4))

-- ---- keys in turn
-- those below n + 1 are those below n, and that of n
next : (P : ℕ → Type 0) (n : ℕ) → ((j : ℕ) → j < n → P j) → P n → (j : ℕ) → j < n + 1 → P j
next P n f x j l = by (dec_lt j n)
  where
    by : Dec (j < n) → P j
    by (yes b) = f j b
    by (no b) = let e : n ≡ j = omega arith in subst P e x

module _ (k m : ℕ → ℤ) where
  pub seeks_none : (h : Held) → h.group ≡ 0 → h.first <ℤ negsuc 0 → h.second ≡ negsuc 1 → Seeks k m 0 h
  seeks_none h e l s = record {
    leads = record {
      top = λ j b. absurd (omega arith);
      first = λ j b. absurd (omega arith);
      some = λ b. absurd (omega arith);
      none = λ q. (e, l);
    };
    follows = record {
      low = rw s (≤ℤ_refl (negsuc 1));
      others = λ j b d. absurd (omega arith);
      nexts = λ j b. absurd (omega arith);
      least = λ b lo ho hm. rw s lo;
    };
  }

  module _ {n : ℕ} {v t : ℤ} {g : ℕ} (s : Leads k n v g) (f : Follows k m n g t) (above : negsuc 0 ≤ℤ k n) where
    -- the larger of what was next, of the key that lost, u, and of the group's own next
    abbrev second : ℤ → ℤ
    second u = larger t (larger u (m n))

    was : (u : ℤ) → t ≤ℤ second u
    was u = larger_left t (larger u (m n))

    lost : (u : ℤ) → u ≤ℤ second u
    lost u = trans u (larger u (m n)) (second u) (larger_left u (m n)) (larger_right t (larger u (m n)))

    own : (u : ℤ) → m n ≤ℤ second u
    own u = trans (m n) (larger u (m n)) (second u) (larger_right u (m n)) (larger_right t (larger u (m n)))

    above_nexts : (u : ℤ) (j : ℕ) → j < n + 1 → m j ≤ℤ second u
    above_nexts u = next (λ j. m j ≤ℤ second u) n (λ j b. trans (m j) t (second u) (f.nexts j b) (was u)) (own u)

    under : (u b : ℤ) → t ≤ℤ b → u ≤ℤ b → m n ≤ℤ b → second u ≤ℤ b
    under u b x y z = larger_least t (larger u (m n)) b x (larger_least u (m n) b y z)

    low_two : (u : ℤ) → negsuc 1 ≤ℤ second u
    low_two u = trans (negsuc 1) t (second u) f.low (was u)

    -- the group wins
    won : v <ℤ k n → Seeks k m (n + 1) (held (k n) (second v) n)
    won l = record {
      leads = record {
        top = next (λ j. k j ≤ℤ k n) n (λ j b. trans (k j) v (k n) (s.top j b) (less v (k n) l)) (≤ℤ_refl (k n));
        first = λ j b. lt_of (k j) (k n) (omega (arith, of_le (k j) v (s.top j b), of_lt v (k n) l));
        some = λ b. (omega arith, refl);
        none = λ e. absurd (omega arith);
      };
      follows = record {
        low = low_two v;
        others = λ j b d. trans (k j) v (second v) (s.top j (omega arith)) (lost v);
        nexts = above_nexts v;
        least = λ b lo ho hm. under v b
            (f.least b lo (λ j c d. ho j (omega arith) (λ e. omega arith)) (λ j c. hm j (omega arith)))
            (behind b lo ho (dec_lt 0 n)) (hm n (omega arith));
      };
    }
      where
        behind : (b : ℤ) → negsuc 1 ≤ℤ b → ((j : ℕ) → j < n + 1 → (j ≡ n → ⊥) → k j ≤ℤ b) → Dec (0 < n) → v ≤ℤ b
        behind b lo ho (yes p) =
            let c = s.some p in
            rw c.1 (ho g (omega arith) (λ e. omega arith))
        behind b lo ho (no p) =
            let c = s.none (omega arith) in
            below_least v b c.1 lo

    -- it does not
    stayed : k n ≤ℤ v → Seeks k m (n + 1) (held v (second (k n)) g)
    stayed l = record {
      leads = record {
        top = next (λ j. k j ≤ℤ v) n s.top l;
        first = s.first;
        some = λ b. (omega (arith, here.0), here.1);
        none = λ e. absurd (omega arith);
      };
      follows = record {
        low = low_two (k n);
        others = next (λ j. (j ≡ g → ⊥) → k j ≤ℤ second (k n)) n
            (λ j b d. trans (k j) t (second (k n)) (f.others j b d) (was (k n))) (λ d. lost (k n));
        nexts = above_nexts (k n);
        least = λ b lo ho hm. under (k n) b
            (f.least b lo (λ j c d. ho j (omega arith) d) (λ j c. hm j (omega arith)))
            (ho n (omega arith) (λ e. omega (arith, here.0))) (hm n (omega arith));
      };
    }
      where
        by : Dec (0 < n) → (g < n) × (v ≡ k g)
        by (yes b) = s.some b
        by (no b) =
            absurd (omega (
              arith,
              of_le (negsuc 0) (k n) above,
              of_le (k n) v l,
              of_lt v (negsuc 0) (s.none (omega arith)).1,
            ))

        here : (g < n) × (v ≡ k g)
        here = by (dec_lt 0 n)

    more : Seeks k m (n + 1) (merged (held v t g) (k n) (m n) n)
    unfolding merged
    more = by (lt_z v (k n)) (lt_z_yes {a = v} {b = k n}) (lt_z_no {a = v} {b = k n})
      where
        by : (b : Bool) → (T b → v <ℤ k n) → (T (not b) → k n ≤ℤ v)
            → Seeks k m (n + 1) (held (cond b (k n) v) (second (cond b v (k n))) (cond b n g))
        by true x y = won (x tt)
        by false x y = stayed (y tt)

  pub seeks_more : {n : ℕ} {h : Held} → Seeks k m n h → (y x : Counts) → top_of y x ≡ k n → next_of y x ≡ m n
      → Seeks k m (n + 1) (met h y x n)
  seeks_more {n} {h} s y x e d =
      rw (e, d) (more s.leads s.follows (subst (λ (z : ℤ). negsuc 0 ≤ℤ z) e (top_low y x)))

-- ---- the loop over columns
pub quartered_more : {a : List ℤ} {p3 : ℕ} {first second : List ℤ} {at : List ℕ} {n : ℕ} {first' second' : List ℤ}
    {at' : List ℕ} (v t : ℤ) (g : ℕ) → Quartered a p3 first second at n first' second' at' → n < length first
    → n < length second → n < length at
    → held v t g ≡ four_more (held_at first' second' at' n) (row_at a (384 + 32 * p3) n) (row_at a (128 + 32 * p3) n)
    (row_at a (256 + 32 * p3) n) (row_at a (0 + 32 * p3) n) (4 * p3)
    → Quartered a p3 first second at (n + 1) (set first' n v) (set second' n t) (set at' n g)
quartered_more {a} {p3} {first} {second} {at} {n} {first'} {second'} {at'} v t g p hf hs ha e = record {
  first_long = length-set first' n v ∙ p.first_long;
  second_long = length-set second' n t ∙ p.second_long;
  at_long = length-set at' n g ∙ p.at_long;
  each = next (λ l. held_at (set first' n v) (set second' n t) (set at' n g) l ≡ four l (held_at first second at l)) n
      (λ l h. other l (λ q. omega arith) ∙ p.each l h)
      ((λ i. held (get_or-set_same first' n v (pos 0) (omega (arith, p.first_long)) i)
      (get_or-set_same second' n t (pos 0) (omega (arith, p.second_long)) i)
      (get_or-set_same at' n g 0 (omega (arith, p.at_long)) i))
      ∙ e ∙ ap (four n) (p.kept n (omega arith)));
  kept = λ l h. other l (λ q. omega arith) ∙ p.kept l (omega arith);
}
  where
    four : ℕ → Held → Held
    four l h =
        four_more h (row_at a (384 + 32 * p3) l) (row_at a (128 + 32 * p3) l) (row_at a (256 + 32 * p3) l)
        (row_at a (0 + 32 * p3) l) (4 * p3)

    other : (l : ℕ) → (l ≡ n → ⊥)
        → held_at (set first' n v) (set second' n t) (set at' n g) l ≡ held_at first' second' at' l
    other l d = λ i. held (get_or-set_other first' n l v (pos 0) d i) (get_or-set_other second' n l t (pos 0) d i)
        (get_or-set_other at' n l g 0 d i)

-- ---- the groups
pub sought_none : (a first second : List ℤ) (at : List ℕ) → length first ≡ 16 → length second ≡ 16 → length at ≡ 16
    → ((l : ℕ) → l < 16 → get_or first l (pos 0) <ℤ negsuc 0) → ((l : ℕ) → l < 16 → get_or second l (pos 0) ≡ negsuc 1)
    → ((l : ℕ) → l < 16 → get_or at l 0 ≡ 0) → Sought a 0 first second at
sought_none a first second at e f g low next start = record {
  first_long = e;
  second_long = f;
  at_long = g;
  each = λ l h. seeks_none (group_top a l) (group_next a l) (held_at first second at l) (start l h) (low l h) (next l h);
}

pub sought_quarter : {a : List ℤ} {p3 : ℕ} {first second : List ℤ} {at : List ℕ} {first' second' : List ℤ}
    {at' : List ℕ} → Sought a (4 * p3) first second at → Quartered a p3 first second at 16 first' second' at'
    → Sought a (4 * p3 + 4) first' second' at'
unfolding four_more
sought_quarter {a} {p3} {first} {second} {at} {first'} {second'} {at'} s p = record {
  first_long = p.first_long ∙ s.first_long;
  second_long = p.second_long ∙ s.second_long;
  at_long = p.at_long ∙ s.at_long;
  each = λ l h. rw (p.each l h) (all l (s.each l h));
}
  where
    -- group 4 p3 + p4 more
    one : (l p4 : ℕ) {h : Held} → p4 < 4 → Seeks (group_top a l) (group_next a l) (4 * p3 + p4) h
        → Seeks (group_top a l) (group_next a l) (4 * p3 + (p4 + 1))
        (met h (odds a l p3 p4) (evens a l p3 p4) (4 * p3 + p4))
    one l p4 {h} few k =
        let e : p3 ≡ (4 * p3 + p4) / 4 = omega arith in
        let f : p4 ≡ (4 * p3 + p4) % 4 = omega arith in
        let n : 4 * p3 + p4 + 1 ≡ 4 * p3 + (p4 + 1) = omega arith in
        subst (λ (n : ℕ). Seeks (group_top a l) (group_next a l) n
        (met h (odds a l p3 p4) (evens a l p3 p4) (4 * p3 + p4))) n
        (seeks_more (group_top a l) (group_next a l) k (odds a l p3 p4) (evens a l p3 p4)
        (λ i. top_of (odds a l (e i) (f i)) (evens a l (e i) (f i)))
        (λ i. next_of (odds a l (e i) (f i)) (evens a l (e i) (f i))))

    none : 4 * p3 ≡ 4 * p3 + 0
    none = omega arith

    all : (l : ℕ) {h : Held} → Seeks (group_top a l) (group_next a l) (4 * p3) h
        → Seeks (group_top a l) (group_next a l) (4 * p3 + 4)
        (four_more h (row_at a (384 + 32 * p3) l) (row_at a (128 + 32 * p3) l) (row_at a (256 + 32 * p3) l)
        (row_at a (0 + 32 * p3) l) (4 * p3))
    all l {h} k = one l 3 (lit< tt) (one l 2 (lit< tt) (one l 1 (lit< tt) first_one))
      where
        first_one : Seeks (group_top a l) (group_next a l) (4 * p3 + 1)
            (met h (odds a l p3 0) (evens a l p3 0) (4 * p3))
        first_one = subst (λ (n : ℕ). Seeks (group_top a l) (group_next a l) (4 * p3 + 1)
            (met h (odds a l p3 0) (evens a l p3 0) n)) (sym none)
            (one l 0 (lit< tt) (subst (λ (n : ℕ). Seeks (group_top a l) (group_next a l) n h) none k))
