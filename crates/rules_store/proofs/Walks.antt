-- Entries as a loop goes through them, one after the other: `left` are those from the i-th on. Of each test one turn
-- that goes on, one that is decided, and the end.
-- Assumes nothing.
use mathlib.Core.Path.{◌≡◌, sym, ap, ◌∙◌}
use mathlib.Core.Bool.{true, false}
use mathlib.Core.List.{List, [], ◌∷◌}
use Prim.Native.Nat.{ℕ, suc, ◌+◌, ◌*◌, ◌-◌, ◌≤◌, ◌<◌}
use native.Mathlib.Numerals.{add-one}
use native.Mathlib.Omega.{arith}
use borrow.Author.Tests.{lt-ltb, le-ltb, le-leb, lt-leb, eq-eqb, ne_eqb}
use lib.ListN.{get_or, drop}
use lib.Seq.{drop-drop, get_or-drop}
use lib.Dec.{eqb}
use Rattle.rules_store.specs.declared.Entry.{Entry}
use Rattle.rules_store.specs.Store.{entry_of, entries_in, rising, laid, passable, body_of}

-- an entry from its four octets
pub entry_is : (l : List ℕ) (at a b c d : ℕ) → a ≡ get_or l at 0 → b ≡ get_or l (at + 1) 0 → c ≡ get_or l (at + 2) 0
    → d ≡ get_or l (at + 3) 0
    → ◌≡◌ {A = Entry} (record { tag = a; offset = b + 256 * c; size = d }) (entry_of (drop at l))
entry_is l at a b c d e f g h =
    let none : at + 0 ≡ at = omega arith in
    let p : a ≡ get_or (drop at l) 0 0 = e ∙ sym (get_or-drop at l 0 0 ∙ ap (λ (k : ℕ). get_or l k 0) none) in
    let q = f ∙ sym (get_or-drop at l 1 0) in
    let r = g ∙ sym (get_or-drop at l 2 0) in
    let s = h ∙ sym (get_or-drop at l 3 0) in
    λ i. record { tag = p i; offset = q i + 256 * r i; size = s i }

abbrev pub left : List ℕ → ℕ → ℕ → List Entry
left l n i = entries_in (n - i) (drop (2 + 4 * i) l)

pub left_all : (l : List ℕ) (n : ℕ) → left l n 0 ≡ entries_in n (drop 2 l)
left_all l n = let e : n - 0 ≡ n = omega arith in ap (λ (k : ℕ). entries_in k (drop 2 l)) e

left_none : (l : List ℕ) (n i : ℕ) → n ≤ i → left l n i ≡ []
unfolding entries_in
left_none l n i h = let e : n - i ≡ 0 = omega arith in rw e

pub left_next : (l : List ℕ) (n i : ℕ) → i < n → left l n i ≡ entry_of (drop (2 + 4 * i) l) ∷ left l n (i + 1)
unfolding entries_in
left_next l n i h =
    let e : n - i ≡ suc (n - (i + 1)) = omega arith in
    let f : 2 + 4 * i + 4 ≡ 2 + 4 * (i + 1) = omega arith in
    let rest : drop 4 (drop (2 + 4 * i) l) ≡ drop (2 + 4 * (i + 1)) l =
    drop-drop 4 (2 + 4 * i) l ∙ ap (λ (k : ℕ). drop k l) f in
    ap (λ (k : ℕ). entries_in k (drop (2 + 4 * i) l)) e
    ∙ ap (λ (m : List ℕ). entry_of (drop (2 + 4 * i) l) ∷ entries_in (n - (i + 1)) m) rest

module _ (l : List ℕ) (n i : ℕ) where
  pub rising_end : (least : ℕ) → n ≤ i → rising least (left l n i) ≡ true
  unfolding rising
  rising_end least h = rw (left_none l n i h)

  pub laid_end : (at end : ℕ) → n ≤ i → laid at (left l n i) end ≡ eqb at end
  unfolding laid
  laid_end at end h = rw (left_none l n i h)

  pub passable_end : n ≤ i → passable (left l n i) ≡ true
  unfolding passable
  passable_end h = rw (left_none l n i h)

  pub body_end : (tag : ℕ) → n ≤ i → body_of tag (left l n i) ≡ record { there = false; offset = 0; size = 0 }
  unfolding body_of
  body_end tag h = rw (left_none l n i h)

  module _ (e : Entry) (s : e ≡ entry_of (drop (2 + 4 * i) l)) (h : i < n) where
    pub step : left l n i ≡ e ∷ left l n (i + 1)
    step = left_next l n i h ∙ ap (λ (x : Entry). x ∷ left l n (i + 1)) (sym s)

    pub rising_more : (least : ℕ) → least ≤ e.tag → rising (e.tag + 1) (left l n (i + 1)) ≡ rising least (left l n i)
    unfolding rising
    rising_more least g = rw (step, le-leb least e.tag g, add-one e.tag)

    pub rising_past : (least : ℕ) → e.tag < least → rising least (left l n i) ≡ false
    unfolding rising
    rising_past least g = rw (step, lt-leb least e.tag g)

    pub laid_more : (at end : ℕ) → e.offset ≡ at → laid (at + e.size) (left l n (i + 1)) end
        ≡ laid at (left l n i) end
    unfolding laid
    laid_more at end g = rw (step, eq-eqb e.offset at g)

    pub laid_past : (at end : ℕ) → (e.offset ≡ at → ⊥) → laid at (left l n i) end ≡ false
    unfolding laid
    laid_past at end g = rw (step, ne_eqb e.offset at g)

    pub passable_more : e.tag < 128 → passable (left l n (i + 1)) ≡ passable (left l n i)
    unfolding passable
    passable_more g = rw (step, lt-ltb e.tag 128 g)

    pub passable_past : 128 ≤ e.tag → passable (left l n i) ≡ false
    unfolding passable
    passable_past g = rw (step, le-ltb e.tag 128 g)

    pub body_more : (tag : ℕ) → (e.tag ≡ tag → ⊥) → body_of tag (left l n (i + 1)) ≡ body_of tag (left l n i)
    unfolding body_of
    body_more tag g = rw (step, ne_eqb e.tag tag g)

    pub body_here : (tag : ℕ) → e.tag ≡ tag
        → body_of tag (left l n i) ≡ record { there = true; offset = e.offset; size = e.size }
    unfolding body_of
    body_here tag g = rw (step, eq-eqb e.tag tag g)
