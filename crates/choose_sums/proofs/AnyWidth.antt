-- Sums and keys at 5.5 Mbit/s in signed numbers of any width.
--     Sums, sums                              what is added of two rows fits, and comes to four sums of eight chips
--     holds_two, holds_merge, holds_order     whole numbers that hold the two largest of some keys
--     holds_keys                              two neighbours of eight scores
-- The code's own laws are members of the trait `Number` of choose_words; these hold at widths that have no impl too.
-- Assumes nothing.
use mathlib.Core.Path.{◌≡◌, refl, ◌∙◌}
use mathlib.Core.Bool.{Bool, true, false, cond}
use mathlib.Core.List.{List, [], ◌∷◌}
use Prim.Native.Nat.{ℕ, suc, ◌+◌, ◌*◌, ◌^◌, ◌≤◌, ◌<◌}
use native.Mathlib.Omega.{arith}
use lib.Dec.{T, ltb}
use lib.ListN.{get_or}
use lib.IntN.{ℤ, pos, neg_ℤ, nat_abs, ◌+ℤ◌, ◌-ℤ◌}
use lib.Signed.{non_neg}
use mir.Syntax.{Width}
use mir.Val.{SFits, to_z, of_z, hbits}
use Rattle.base.specs.Whole.{Within}
use Rattle.base.proofs.Whole.{small, within_more}
use Rattle.base.proofs.Adding.{Reads, reads_of, reads_fits, reads_add, less_fits, reads_less}
use Rattle.rules_choosing.specs.Scores.{RowWithin}
use Rattle.rules_choosing.specs.Keys.{larger, smaller, bigger, lesser, key_of, HoldsTwo}
use Rattle.choose_sums.specs.Sums.{crossed, key_at}
use Rattle.choose_sums.proofs.Crossed.{shape0, shape1, shape2, shape3}
use Rattle.choose_sums.proofs.KeyTops.{second_le, two_of_lem, two_merge}

-- ---- what is made of two rows
module _ (w : Width) (s t : List ℤ) where
  abbrev plus : ℕ → ℕ → ℕ
  plus u v = of_z w (to_z w u +ℤ to_z w v)

  abbrev minus : ℕ → ℕ → ℕ
  minus u v = of_z w (to_z w u -ℤ to_z w v)

  abbrev S : ℕ → ℤ
  S k = get_or s k (pos 0)

  abbrev R : ℕ → ℤ
  R k = get_or t k (pos 0)

  -- the bits of the sums of two chips
  abbrev a : ℕ
  a = plus (of_z w (R 0)) (of_z w (R 2))

  abbrev b : ℕ
  b = minus (of_z w (S 1)) (of_z w (S 3))

  abbrev c : ℕ
  c = minus (of_z w (R 4)) (of_z w (R 6))

  abbrev d : ℕ
  d = plus (of_z w (S 5)) (of_z w (S 7))

  -- each of its twelve sums, in its order, fits; and what the last four are
  pub record Sums : Type 0 where
    pub a_fits : SFits w (to_z w (of_z w (R 0)) +ℤ to_z w (of_z w (R 2)))
    pub b_fits : SFits w (to_z w (of_z w (S 1)) -ℤ to_z w (of_z w (S 3)))
    pub c_fits : SFits w (to_z w (of_z w (R 4)) -ℤ to_z w (of_z w (R 6)))
    pub d_fits : SFits w (to_z w (of_z w (S 5)) +ℤ to_z w (of_z w (S 7)))
    pub u_fits : SFits w (to_z w b +ℤ to_z w a)
    pub x_fits : SFits w (to_z w b -ℤ to_z w a)
    pub v_fits : SFits w (to_z w d +ℤ to_z w c)
    pub y_fits : SFits w (to_z w d -ℤ to_z w c)
    pub fits0 : SFits w (to_z w (plus d c) +ℤ to_z w (plus b a))
    pub fits1 : SFits w (to_z w (plus d c) -ℤ to_z w (plus b a))
    pub fits2 : SFits w (to_z w (minus d c) +ℤ to_z w (minus b a))
    pub fits3 : SFits w (to_z w (minus d c) -ℤ to_z w (minus b a))
    pub are : to_z w (plus (plus d c) (plus b a)) ∷ to_z w (minus (plus d c) (plus b a))
        ∷ to_z w (plus (minus d c) (minus b a)) ∷ to_z w (minus (minus d c) (minus b a)) ∷ [] ≡ crossed s t

  module _ (m : ℕ) (room : 8 * m < 2 ^ hbits w) (ws : RowWithin m s) (wt : RowWithin m t) where
    at : (r : List ℤ) (k : ℕ) → RowWithin m r → Reads w m (of_z w (get_or r k (pos 0))) (get_or r k (pos 0))
    at r k h = reads_of (omega arith) (h.at k)

    a_num : Reads w (m + m) a (R 0 +ℤ R 2)
    a_num = reads_add (at t 0 wt) (at t 2 wt) (omega arith)

    b_num : Reads w (m + m) b (S 1 -ℤ S 3)
    b_num = reads_less (at s 1 ws) (at s 3 ws) (omega arith)

    c_num : Reads w (m + m) c (R 4 -ℤ R 6)
    c_num = reads_less (at t 4 wt) (at t 6 wt) (omega arith)

    d_num : Reads w (m + m) d (S 5 +ℤ S 7)
    d_num = reads_add (at s 5 ws) (at s 7 ws) (omega arith)

    u_num : Reads w (m + m + (m + m)) (plus b a) ((S 1 -ℤ S 3) +ℤ (R 0 +ℤ R 2))
    u_num = reads_add b_num a_num (omega arith)

    x_num : Reads w (m + m + (m + m)) (minus b a) ((S 1 -ℤ S 3) -ℤ (R 0 +ℤ R 2))
    x_num = reads_less b_num a_num (omega arith)

    v_num : Reads w (m + m + (m + m)) (plus d c) ((S 5 +ℤ S 7) +ℤ (R 4 -ℤ R 6))
    v_num = reads_add d_num c_num (omega arith)

    y_num : Reads w (m + m + (m + m)) (minus d c) ((S 5 +ℤ S 7) -ℤ (R 4 -ℤ R 6))
    y_num = reads_less d_num c_num (omega arith)

    is0 : to_z w (plus (plus d c) (plus b a))
        ≡ R 0 +ℤ (S 1 +ℤ (R 2 +ℤ (neg_ℤ (S 3) +ℤ (R 4 +ℤ (S 5 +ℤ (neg_ℤ (R 6) +ℤ (S 7 +ℤ pos 0)))))))
    is0 = (reads_add v_num u_num (omega arith)).is ∙ shape0 (R 0) (S 1) (R 2) (S 3) (R 4) (S 5) (R 6) (S 7)

    is1 : to_z w (minus (plus d c) (plus b a))
        ≡ neg_ℤ (R 0) +ℤ (neg_ℤ (S 1) +ℤ (neg_ℤ (R 2) +ℤ (S 3 +ℤ (R 4 +ℤ (S 5 +ℤ (neg_ℤ (R 6) +ℤ (S 7 +ℤ pos 0)))))))
    is1 = (reads_less v_num u_num (omega arith)).is ∙ shape1 (R 0) (S 1) (R 2) (S 3) (R 4) (S 5) (R 6) (S 7)

    is2 : to_z w (plus (minus d c) (minus b a))
        ≡ neg_ℤ (R 0) +ℤ (S 1 +ℤ (neg_ℤ (R 2) +ℤ (neg_ℤ (S 3) +ℤ (neg_ℤ (R 4) +ℤ (S 5 +ℤ (R 6 +ℤ (S 7 +ℤ pos 0)))))))
    is2 = (reads_add y_num x_num (omega arith)).is ∙ shape2 (R 0) (S 1) (R 2) (S 3) (R 4) (S 5) (R 6) (S 7)

    is3 : to_z w (minus (minus d c) (minus b a))
        ≡ R 0 +ℤ (neg_ℤ (S 1) +ℤ (R 2 +ℤ (S 3 +ℤ (neg_ℤ (R 4) +ℤ (S 5 +ℤ (R 6 +ℤ (S 7 +ℤ pos 0)))))))
    is3 = (reads_less y_num x_num (omega arith)).is ∙ shape3 (R 0) (S 1) (R 2) (S 3) (R 4) (S 5) (R 6) (S 7)

    pub sums : Sums
    sums = record {
      a_fits = reads_fits (at t 0 wt) (at t 2 wt) (omega arith);
      b_fits = less_fits (at s 1 ws) (at s 3 ws) (omega arith);
      c_fits = less_fits (at t 4 wt) (at t 6 wt) (omega arith);
      d_fits = reads_fits (at s 5 ws) (at s 7 ws) (omega arith);
      u_fits = reads_fits b_num a_num (omega arith);
      x_fits = less_fits b_num a_num (omega arith);
      v_fits = reads_fits d_num c_num (omega arith);
      y_fits = less_fits d_num c_num (omega arith);
      fits0 = reads_fits v_num u_num (omega arith);
      fits1 = less_fits v_num u_num (omega arith);
      fits2 = reads_fits y_num x_num (omega arith);
      fits3 = less_fits y_num x_num (omega arith);
      are = λ i. is0 i ∷ is1 i ∷ is2 i ∷ is3 i ∷ [];
    }

-- ---- the whole numbers that hold them
larger_held : {u v : ℤ} {x y : ℕ} → u ≡ pos x → v ≡ pos y → larger u v ≡ pos (bigger x y)
larger_held {u} {v} {x} {y} d e = (λ i. larger (d i) (e i)) ∙ by (ltb x y)
  where
    by : (t : Bool) → cond t (pos y) (pos x) ≡ pos (cond t y x)
    by true = refl
    by false = refl

smaller_held : {u v : ℤ} {x y : ℕ} → u ≡ pos x → v ≡ pos y → smaller u v ≡ pos (lesser x y)
smaller_held {u} {v} {x} {y} d e = (λ i. smaller (d i) (e i)) ∙ by (ltb x y)
  where
    by : (t : Bool) → cond t (pos x) (pos y) ≡ pos (cond t x y)
    by true = refl
    by false = refl

pub holds_two : (k : ℕ → ℕ) (a : ℕ) {u v f s : ℤ} → u ≡ pos (k a) → v ≡ pos (k (suc a)) → f ≡ larger u v
    → s ≡ smaller u v → HoldsTwo k a (suc (suc a)) f s
holds_two k a eu ev ef es = record {
  x = bigger (k a) (k (suc a));
  y = lesser (k a) (k (suc a));
  is_x = ef ∙ larger_held eu ev;
  is_y = es ∙ smaller_held eu ev;
  two = two_of_lem k a;
}

pub holds_merge : {k : ℕ → ℕ} {a b c : ℕ} {d e d' e' f s : ℤ} → HoldsTwo k a b d e → HoldsTwo k b c d' e'
    → (f ≡ larger d d') × (s ≡ larger (smaller d d') (larger e e')) → HoldsTwo k a c f s
holds_merge t u h = record {
  x = bigger t.x u.x;
  y = bigger (lesser t.x u.x) (bigger t.y u.y);
  is_x = h.0 ∙ larger_held t.is_x u.is_x;
  is_y = h.1 ∙ larger_held (smaller_held t.is_x u.is_x) (larger_held t.is_y u.is_y);
  two = two_merge t.two u.two;
}

-- none is below 0, and they are in order
pub holds_order : {k : ℕ → ℕ} {a b : ℕ} {f s : ℤ} → HoldsTwo k a b f s
    → T (non_neg f) × T (non_neg s) × (nat_abs s ≤ nat_abs f)
holds_order t = rw (t.is_x, t.is_y) (tt, tt, second_le t.two)

-- ---- two neighbours of eight scores, in signed numbers of any width
module _ (w : Width) {b : ℕ} (room : b < 2 ^ hbits w) (h : List ℤ) (r : RowWithin b h) where
  abbrev read : ℤ → ℤ
  read z = to_z w (of_z w z)

  pub score_read : (n : ℕ) → read (get_or h n (pos 0)) ≡ get_or h n (pos 0)
  score_read n = small w b room _ (r.at n)

  pub within_two : (m j : ℕ) → b ≤ m → Within m (read (get_or h j (pos 0))) × Within m (read (get_or h (suc j) (pos 0)))
  within_two m j l = (one j, one (suc j))
    where
      one : (k : ℕ) → Within m (read (get_or h k (pos 0)))
      one k = rw (score_read k) (within_more (r.at k) l)

  -- the key of place n by the score as it is read
  abbrev read_key : ℕ → ℤ
  read_key n = pos (key_of 8 n (read (get_or h n (pos 0))))

  pub holds_keys : (j : ℕ) {f s : ℤ} → (f ≡ larger (read_key j) (read_key (suc j)))
      × (s ≡ smaller (read_key j) (read_key (suc j))) → HoldsTwo (key_at h) j (suc (suc j)) f s
  holds_keys j e = holds_two (key_at h) j (key j) (key (suc j)) e.0 e.1
    where
      key : (n : ℕ) → read_key n ≡ pos (key_at h n)
      key n = λ i. pos (key_of 8 n (score_read n i))
