-- Laws of putting octets into a row.
--     put_none, put_more      nothing put; one octet more
--     put_there               a word copied over the octets there
--     put_next                what is put where the first ended is one with it
--     put_pair                and so is a word and its number
--     four_long               how long four lists are together
--     lines_room, lines_turn  a loop that puts lines: there is room for the next, and it is put
-- Assumes nothing.
use mathlib.Core.Path.{◌≡◌, refl, sym, ap, ◌∙◌}
use mathlib.Core.List.{List, [], ◌∷◌, ◌++◌, append-nil, append_assoc}
use Prim.Native.Nat.{ℕ, zero, suc, ◌+◌, ◌-◌, ◌≤◌, ◌<◌}
use native.Mathlib.Nat.{le_refl}
use native.Mathlib.Numerals.{add-one}
use native.Mathlib.Omega.{arith}
use lib.ListN.{length, take, drop, set, length-append, length-take}
use lib.Seq.{take_at, take-suc-set, drop-set-lt, drop-drop, drop-append_seam}
use borrow.Rule.Slice.PartMut.{put_mid}
use Rattle.report_text.specs.Placed.{Placed}

pub put_none : (at n : ℕ) (d : List ℕ) → n ≡ at → Placed [] at d n d
put_none at n d e = record { stop = omega arith; front = rw e (sym (append-nil (take at d))); rest = refl }

-- what is so from n on is so from further on
further : (e d : List ℕ) (n m : ℕ) → drop n e ≡ drop n d → drop (n + m) e ≡ drop (n + m) d
further e d n m h = sym (drop-drop m n e) ∙ ap (drop m) h ∙ drop-drop m n d

pub put_more : {w : List ℕ} {at : ℕ} {d : List ℕ} {n : ℕ} {e : List ℕ} (v : ℕ) → Placed w at d n e → n < length e
    → Placed (w ++ (v ∷ [])) at d (n + 1) (set e n v)
put_more {w} {at} {d} {n} {e} v p h = record {
  stop = rw length-append (omega (arith, p.stop));
  front = rw (add-one, take-suc-set e n v h, p.front) (append_assoc (take at d) w (v ∷ []));
  rest = drop-set-lt (n + 1) e n v (omega arith) ∙ further e d n 1 p.rest;
}

pub put_there : (w row y : List ℕ) (at : ℕ) → at + length w ≤ length row → y ≡ w
    → Placed w at row (at + length w) (put_mid at (at + length w - at) row y)
put_there w row y at h f = record {
  stop = refl;
  front = ap (take (at + length w)) whole ∙ take_at (take at row ++ w) behind (at + length w) size;
  rest =
      ap (drop (at + length w)) whole ∙ ap (λ (k : ℕ). drop k ((take at row ++ w) ++ behind)) (sym size)
      ∙ drop-append_seam (take at row ++ w) behind;
}
  where
    behind : List ℕ
    behind = drop (at + length w) row

    size : length (take at row ++ w) ≡ at + length w
    size = length-append (take at row) w ∙ omega (arith, length-take at row)

    count : at + length w - at ≡ length w
    count = omega arith

    whole : put_mid at (at + length w - at) row y ≡ (take at row ++ w) ++ behind
    whole =
        (λ i. take at row ++ (f i ++ drop (count i) (drop at row)))
        ∙ ap (λ (l : List ℕ). take at row ++ (w ++ l)) (drop-drop (length w) at row)
        ∙ sym (append_assoc (take at row) w behind)

pub put_next : {a b : List ℕ} {at : ℕ} {d : List ℕ} {n : ℕ} {e : List ℕ} {m : ℕ} {f : List ℕ} → Placed a at d n e
    → Placed b n e m f → Placed (a ++ b) at d m f
put_next {a} {b} {at} {d} {n} {e} {m} {f} p q = record {
  stop = rw length-append (omega (arith, p.stop, q.stop));
  front = q.front ∙ rw p.front (append_assoc (take at d) a b);
  rest = q.rest ∙ rw q.stop (further e d n (length b) p.rest);
}

pub put_pair : {w : List ℕ} (a b : List ℕ) {at : ℕ} {d : List ℕ} {n : ℕ} {e : List ℕ} {m : ℕ} {f : List ℕ}
    → Placed w at d n e → Placed (a ++ b) n e m f → Placed (w ++ a ++ b) at d m f
put_pair {w} a b p q = rw (append_assoc w a b) (put_next p q)

pub four_long : (a b c d : List ℕ) → length (a ++ b ++ c ++ d) ≡ length a + length b + length c + length d
four_long a b c d = simp length-append

-- ---- lines put one after the other: `all` are the first k of them, and `one` is the next

module _ (all one : ℕ → List ℕ) (step : (k : ℕ) → all (k + 1) ≡ all k ++ one k) where
  longer : (k : ℕ) → length (all (k + 1)) ≡ length (all k) + length (one k)
  longer k = ap length (step k) ∙ length-append (all k) (one k)

  grows : (k j : ℕ) → length (all k) ≤ length (all (k + j))
  grows k zero = let e : k + 0 ≡ k = omega arith in rw e (le_refl _)
  grows k (suc j) =
      let e : k + suc j ≡ (k + j) + 1 = omega arith in rw (e, longer) (omega (arith, grows k j))

  pub lines_room : (n k at : ℕ) {end most : ℕ} → k < n → end ≡ at + length (all k) → at + length (all n) ≤ most
      → end + length (one k) ≤ most
  lines_room n k at h p g =
      let e : k + 1 + (n - (k + 1)) ≡ n = omega arith in
      let within : length (all (k + 1)) ≤ length (all n) = rw e at (grows (k + 1) (n - (k + 1))) in
      omega (arith, longer k)

  pub lines_turn : (k : ℕ) {at end r : ℕ} {d o q : List ℕ} → Placed (all k) at d end o → Placed (one k) end o r q
      → Placed (all (k + 1)) at d r q
  lines_turn k p q = rw (step k) (put_next p q)
