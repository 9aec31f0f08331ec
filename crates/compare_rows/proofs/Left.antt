-- Laws of what is left to list from an index on.
--     between_none, between_same, between_other
--                                     none counted, and one index more: alike, or not
--     between_then, between_to        a part behind a part; a part up to the same index
--     put_none, put_same              nothing put, and one index more that is alike
--     put_room, put_entry             one index more that differs: room for its three places, and these
--     put_then, put_to                a part behind a part; a part up to the same index
--     put_room_so_far, next_room      room for a part is room for what was put of it, and for its next index
--     put_skip                        where nothing was counted, nothing is to be put
--     put_counted                     what was put and what is counted behind it are all
--     put_ended                       where nothing is left, the row's front is the list
-- Assumes nothing.
use mathlib.Core.Path.{◌≡◌, refl, sym, ap, ◌∙◌, subst}
use mathlib.Core.List.{List, [], ◌∷◌, ◌++◌, append-nil, append_assoc}
use Prim.Native.Nat.{ℕ, zero, suc, ◌+◌, ◌-◌, ◌*◌, ◌≤◌, ◌<◌}
use native.Mathlib.Decide.{ℕ_discrete}
use native.Mathlib.Nat.{le_refl}
use native.Mathlib.Numerals.{add-one}
use native.Mathlib.Omega.{arith}
use lib.ListN.{length, get_or, set, take, drop, length-set}
use lib.Seq.{take-suc-set}
use Rattle.rules_compare.specs.Differences.{Difference, differences, entry_places}
use Rattle.rules_compare.proofs.Entries.{same_head, other_head, left_cut}
use Rattle.compare_rows.specs.Left.{left, left_over, Between, RoomFor, Put}

module _ (xs ys : List ℕ) where
  -- ---- one index
  module _ (i : ℕ) (h : i < length xs) (l : i < length ys) where
    left_same : get_or xs i 0 ≡ get_or ys i 0 → left xs ys i ≡ left xs ys (i + 1)
    left_same e =
        rw (add-one i)
        (left_cut xs ys i h l ∙ same_head i (get_or xs i 0) (get_or ys i 0) (drop (suc i) xs) (drop (suc i) ys) e)

    left_other : (get_or xs i 0 ≡ get_or ys i 0 → ⊥)
        → left xs ys i ≡ record { index = i; first = get_or xs i 0; second = get_or ys i 0 } ∷ left xs ys (i + 1)
    left_other ne =
        rw (add-one i)
        (left_cut xs ys i h l ∙ other_head i (get_or xs i 0) (get_or ys i 0) (drop (suc i) xs) (drop (suc i) ys) ne)

    -- not more is left behind it
    fewer : left_over xs ys (i + 1) ≤ left_over xs ys i
    fewer = by (ℕ_discrete (get_or xs i 0) (get_or ys i 0))
      where
        by : Dec (get_or xs i 0 ≡ get_or ys i 0) → left_over xs ys (i + 1) ≤ left_over xs ys i
        by (yes e) = let f = ap length (left_same e) in omega (arith, f)
        by (no ne) = let f = ap length (left_other ne) in omega (arith, f)

  -- ---- counted
  pub between_none : (i j : ℕ) → i ≡ j → Between xs ys i j 0
  between_none i j e = let f = ap (left_over xs ys) e in omega (arith, f)

  pub between_same : (i j k m n : ℕ) → j < length xs → j < length ys → get_or xs j 0 ≡ get_or ys j 0 → k ≡ j + 1 → m ≡ n
      → Between xs ys i j n → Between xs ys i k m
  between_same i j k m n h l e f g b =
      let r = ap length (left_same j h l e) ∙ ap (left_over xs ys) (sym f) in omega (arith, b, r, g)

  pub between_other : (i j k m n : ℕ) → j < length xs → j < length ys → (get_or xs j 0 ≡ get_or ys j 0 → ⊥) → k ≡ j + 1
      → m ≡ n + 1 → Between xs ys i j n → Between xs ys i k m
  between_other i j k m n h l ne f g b =
      let r = ap length (left_other j h l ne) in let q = ap (left_over xs ys) (sym f) in omega (arith, b, r, q, g)

  pub between_to : (i j k m : ℕ) → j ≡ k → Between xs ys i j m → Between xs ys i k m
  between_to i j k m e b = let f = ap (left_over xs ys) e in omega (arith, b, f)

  pub between_then : (i j k m n : ℕ) → Between xs ys i j m → Between xs ys j k n → Between xs ys i k (m + n)
  between_then i j k m n b c = omega (arith, b, c)

  -- ---- put
  pub put_none : (i : ℕ) (d : List ℕ) (p : ℕ) → Put xs ys i i d p d p
  put_none i d p = record { long = refl; room = refl; front = refl }

  pub put_then : {i j k p q r : ℕ} {d e f : List ℕ} → Put xs ys i j d p e q → Put xs ys j k e q f r
      → Put xs ys i k d p f r
  put_then a b = record {
    long = b.long ∙ a.long;
    room = b.room ∙ a.room;
    front = b.front ∙ a.front;
  }

  pub put_to : {p q : ℕ} {d e : List ℕ} (i j k : ℕ) → j ≡ k → Put xs ys i j d p e q → Put xs ys i k d p e q
  put_to {p} {q} {d} {e} i j k f u = subst (λ (n : ℕ). Put xs ys i n d p e q) f u

  put_alike : (i j : ℕ) (d : List ℕ) (p : ℕ) → left xs ys i ≡ left xs ys j → Put xs ys i j d p d p
  put_alike i j d p e = record {
    long = refl;
    room = ap (λ (l : List Difference). p + 3 * length l) (sym e);
    front = ap (λ (l : List Difference). take p d ++ entry_places l) (sym e);
  }

  pub put_same : (i : ℕ) (d : List ℕ) (p : ℕ) → i < length xs → i < length ys → get_or xs i 0 ≡ get_or ys i 0
      → Put xs ys i (i + 1) d p d p
  put_same i d p h l e = put_alike i (i + 1) d p (left_same i h l e)

  -- three numbers stored one behind the other
  three : (d : List ℕ) (p u v w : ℕ) → p + 2 < length d
      → take (p + 3) (set (set (set d p u) (p + 1) v) (p + 2) w) ≡ take p d ++ (u ∷ v ∷ w ∷ [])
  three d p u v w h =
      let n : p + 3 ≡ suc (p + 2) = omega arith in
      let m : p + 2 ≡ suc (p + 1) = omega arith in
      rw n
      (take-suc-set (set (set d p u) (p + 1) v) (p + 2) w (simp length-set h)
      ∙ ap (λ (l : List ℕ). l ++ (w ∷ []))
      (ap (λ (k : ℕ). take k (set (set d p u) (p + 1) v)) m
      ∙ take-suc-set (set d p u) (p + 1) v (simp length-set (omega arith))
      ∙ ap (λ (l : List ℕ). l ++ (v ∷ []))
      (ap (λ (k : ℕ). take k (set d p u)) (add-one p) ∙ take-suc-set d p u (omega arith)))
      ∙ append_assoc (take p d ++ (u ∷ [])) (v ∷ []) (w ∷ [])
      ∙ append_assoc (take p d) (u ∷ []) (v ∷ w ∷ []))

  pub put_room : (i : ℕ) (d : List ℕ) (p : ℕ) → i < length xs → i < length ys → (get_or xs i 0 ≡ get_or ys i 0 → ⊥)
      → RoomFor xs ys i (i + 1) p d → p + 2 < length d
  put_room i d p h l ne r = let f = ap length (left_other i h l ne) in omega (arith, f, r)

  pub put_entry : (i : ℕ) (d : List ℕ) (p : ℕ) → i < length xs → i < length ys → (get_or xs i 0 ≡ get_or ys i 0 → ⊥)
      → RoomFor xs ys i (i + 1) p d
      → Put xs ys i (i + 1) d p (set (set (set d p i) (p + 1) (get_or xs i 0)) (p + 2) (get_or ys i 0)) (p + 3)
  unfolding entry_places
  put_entry i d p h l ne r = record {
    long = simp length-set;
    room = let f = ap length (left_other i h l ne) in omega (arith, f);
    front =
        ap (λ (t : List ℕ). t ++ entry_places (left xs ys (i + 1)))
        (three d p i (get_or xs i 0) (get_or ys i 0) (put_room i d p h l ne r))
        ∙ append_assoc (take p d) (i ∷ get_or xs i 0 ∷ get_or ys i 0 ∷ []) (entry_places (left xs ys (i + 1)))
        ∙ ap (λ (t : List Difference). take p d ++ entry_places t) (sym (left_other i h l ne));
  }

  -- ---- where as many are left further on, the same are
  shrinks : (m i : ℕ) → i + m ≤ length xs → i + m ≤ length ys → left_over xs ys (i + m) ≤ left_over xs ys i
  shrinks zero i h l = let e : i + 0 ≡ i = omega arith in rw e (le_refl _)
  shrinks (suc m) i h l =
      let e : i + suc m ≡ i + 1 + m = omega arith in
      let f = fewer i (omega arith) (omega arith) in
      let g = shrinks m (i + 1) (omega arith) (omega arith) in
      rw e (omega (arith, f, g))

  -- room for a part is room for what was put of it, and for its next index
  module _ (i j k : ℕ) (d e : List ℕ) (p q : ℕ) (r : RoomFor xs ys i k p d) (u : Put xs ys i j d p e q)
      (l : k ≤ length xs) (m : k ≤ length ys) where
    pub put_room_so_far : j ≤ k → q ≤ length e
    put_room_so_far h =
        let n : j + (k - j) ≡ k = omega arith in
        let f =
        subst (λ (x : ℕ). left_over xs ys x ≤ left_over xs ys j) n (shrinks (k - j) j (omega arith) (omega arith)) in
        let s = u.room in
        let t = u.long in
        omega (arith, r, f, s, t)

    pub next_room : j < k → RoomFor xs ys j (j + 1) q e
    next_room h =
        let n : j + 1 + (k - (j + 1)) ≡ k = omega arith in
        let f =
        subst (λ (x : ℕ). left_over xs ys x ≤ left_over xs ys (j + 1)) n
        (shrinks (k - (j + 1)) (j + 1) (omega arith) (omega arith)) in
        let s = u.room in
        let t = u.long in
        omega (arith, r, f, s, t)

  alike_behind : (m i : ℕ) → i + m ≤ length xs → i + m ≤ length ys → left_over xs ys (i + m) ≡ left_over xs ys i
      → left xs ys i ≡ left xs ys (i + m)
  alike_behind zero i h l e = let f : i ≡ i + 0 = omega arith in ap (left xs ys) f
  alike_behind (suc m) i h l e =
      by (alike_behind m (i + 1) (omega arith) (omega arith)) (ℕ_discrete (get_or xs i 0) (get_or ys i 0))
    where
      n : i + suc m ≡ i + 1 + m
      n = omega arith

      more : left_over xs ys (i + 1 + m) ≤ left_over xs ys (i + 1)
      more = shrinks m (i + 1) (omega arith) (omega arith)

      same : left_over xs ys (i + 1 + m) ≡ left_over xs ys i
      same = ap (left_over xs ys) (sym n) ∙ e

      by : (left_over xs ys (i + 1 + m) ≡ left_over xs ys (i + 1) → left xs ys (i + 1) ≡ left xs ys (i + 1 + m))
          → Dec (get_or xs i 0 ≡ get_or ys i 0) → left xs ys i ≡ left xs ys (i + suc m)
      by behind (yes q) =
          let f = left_same i (omega arith) (omega arith) q in
          f ∙ behind (same ∙ ap length f) ∙ ap (left xs ys) (sym n)
      by behind (no ne) =
          let f = ap length (left_other i (omega arith) (omega arith) ne) in absurd (omega (arith, f, more, same))

  pub put_skip : (m i : ℕ) (d : List ℕ) (p n : ℕ) → i + m ≤ length xs → i + m ≤ length ys → n ≡ 0
      → Between xs ys i (i + m) n → Put xs ys i (i + m) d p d p
  put_skip m i d p n h l z b = put_alike i (i + m) d p (alike_behind m i h l (omega (arith, b, z)))

  -- what was put and what is counted behind it are all
  pub put_counted : {p : ℕ} {d e : List ℕ} (i j m : ℕ) → left_over xs ys j ≡ 0 → Put xs ys 0 i d 0 e p
      → Between xs ys i j m → p + 3 * m ≡ 3 * length (differences xs ys)
  put_counted {p} i j m none u b = let r = u.room in omega (arith, r, b, none)

  pub put_ended : {p q : ℕ} {d e : List ℕ} (i : ℕ) → left_over xs ys i ≡ 0 → p ≡ 0 → Put xs ys 0 i d p e q
      → (q ≡ 3 * length (differences xs ys)) × (length e ≡ length d)
      × (take q e ≡ entry_places (differences xs ys))
  unfolding entry_places
  put_ended {p} {q} {d} {e} i none start u = (let r = u.room in omega (arith, r, none, start), u.long, all)
    where
      nothing : (l : List Difference) → length l ≡ 0 → l ≡ []
      nothing [] z = refl
      nothing (x ∷ l) z = absurd (omega (arith, z))

      all : take q e ≡ entry_places (differences xs ys)
      all =
          sym (append-nil (take q e))
          ∙ ap (λ (l : List Difference). take q e ++ entry_places l) (sym (nothing (left xs ys i) none))
          ∙ u.front ∙ ap (λ (k : ℕ). take k d ++ entry_places (differences xs ys)) start
