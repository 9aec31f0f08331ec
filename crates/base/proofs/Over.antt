-- Laws of writing over a buffer's front, for words of any length.
--     length_over     the buffer keeps its length
--     over_more       one element more, stored behind those written so far
--     over_next       a second write, over the part that starts where the first ended, is one write of both
--     over_filled     the part behind what was written, filled to the buffer's end
--     lent, back      a part that starts at n, as it is lent, and the buffer once it has come back
-- Assumes nothing.
use mathlib.Core.Path.{◌≡◌, refl, ap, ap₂, ◌∙◌}
use mathlib.Core.List.{List, [], ◌∷◌, ◌++◌, append_assoc, append-nil}
use Prim.Native.Nat.{ℕ, zero, suc, ◌+◌, ◌-◌, ◌≤◌, ◌<◌}
use native.Mathlib.Nat.{le_refl, le_of_suc-le-suc, not-suc-le-zero}
use native.Mathlib.Numerals.{add-one}
use native.Mathlib.Omega.{arith}
use lib.ListN.{length, get_or, set, take, drop, replicate, length-append, length-drop, drop_of_length-le}
use lib.Seq.{take_all, take-length, take_at, take-append_seam, drop-append_seam, drop-drop}
use borrow.Rule.Slice.PartMut.{put_mid}
use Rattle.base.specs.Over.{over}

pub length_over : (w d : List ℕ) → length w ≤ length d → length (over w d) ≡ length d
unfolding over
length_over w d h = simp (length-append, length-drop) (omega arith)

-- a word copied element by element: the first i are its own, the others as they were
copied : (w d : List ℕ) (i : ℕ) → i < length w → i < length d
    → set (take i w ++ drop i d) i (get_or w i 0) ≡ take (suc i) w ++ drop (suc i) d
copied [] d i h k = absurd (not-suc-le-zero h)
copied (x ∷ w) [] i h k = absurd (not-suc-le-zero k)
copied (x ∷ w) (y ∷ d) zero h k = refl
copied (x ∷ w) (y ∷ d) (suc i) h k = ap (λ (l : List ℕ). x ∷ l) (copied w d i (le_of_suc-le-suc h) (le_of_suc-le-suc k))

pub over_more : (o w d : List ℕ) (i : ℕ) → o ≡ take i w ++ drop i d → i < length w → i < length d
    → set o i (get_or w i 0) ≡ take (i + 1) w ++ drop (i + 1) d
over_more o w d i e h k = rw (e, add-one) (copied w d i h k)

pub over_whole : (o w d : List ℕ) (i : ℕ) → o ≡ take i w ++ drop i d → i ≡ length w → o ≡ over w d
unfolding over
over_whole o w d i e h = e ∙ rw (h, take-length)

-- a part `&mut o[n..]` as it is lent, and o once y has come back for it
pub lent : (o : List ℕ) (n : ℕ) → take (length o - n) (drop n o) ≡ drop n o
lent o n = take_all (length o - n) (drop n o) (rw length-drop (le_refl _))

pub back : (o y : List ℕ) (n : ℕ) → put_mid n (length o - n) o y ≡ take n o ++ y
back o y n =
    ap (λ (l : List ℕ). take n o ++ (y ++ l))
    (drop_of_length-le (drop n o) {i = length o - n} (rw length-drop (le_refl _)))
    ∙ ap (λ (l : List ℕ). take n o ++ l) (append-nil y)

joined : (a b d o : List ℕ) (n : ℕ) → o ≡ over a d → length a ≡ n → take n o ++ over b (drop n o) ≡ over (a ++ b) d
unfolding over
joined a b d o n e h = rw (e, ← h, take-append_seam, drop-append_seam, drop-drop, length-append, append_assoc)

pub over_next : (a b d o y : List ℕ) (n : ℕ) → o ≡ over a d → length a ≡ n → y ≡ over b (take (length o - n) (drop n o))
    → put_mid n (length o - n) o y ≡ over (a ++ b) d
over_next a b d o y n e h f = back o y n ∙ ap (λ (l : List ℕ). take n o ++ l) (f ∙ ap (over b) (lent o n))
    ∙ joined a b d o n e h

pub over_filled : (w d o z : List ℕ) (n v : ℕ) → o ≡ over w d → length w ≡ n → n ≤ length d
    → z ≡ replicate (length (take (length o - n) (drop n o))) v
    → put_mid n (length o - n) o z ≡ w ++ replicate (length d - n) v
over_filled w d o z n v e l g h =
    let same : length o ≡ length d = ap length e ∙ length_over w d (omega arith) in
    let count : length (take (length o - n) (drop n o)) ≡ length d - n =
    ap length (lent o n) ∙ length-drop n o ∙ ap (λ (k : ℕ). k - n) same in
    back o z n ∙ ap₂ {C = List ℕ} (λ a b. a ++ b) (ap (take n) e ∙ seam w d n l)
    (h ∙ ap (λ (k : ℕ). replicate k v) count)
  where
    seam : (w d : List ℕ) (n : ℕ) → length w ≡ n → take n (over w d) ≡ w
    seam w d n l = unfold over in take_at w (drop (length w) d) n l
