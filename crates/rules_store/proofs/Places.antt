-- Where bodies stand, and what a write behind the table leaves.
--     inside, apart              a body found stands between the table and the end; two of them stand apart
--     entries_kept, full_kept    the entries stay, and with them what was passed
-- Assumes nothing.
use mathlib.Core.Path.{◌≡◌, refl, sym, ap, ◌∙◌}
use mathlib.Core.Bool.{Bool, true, false}
use mathlib.Core.List.{List, [], ◌∷◌}
use Prim.Native.Nat.{ℕ, zero, suc, ◌+◌, ◌*◌, ◌-◌, ◌≤◌}
use native.Mathlib.Omega.{arith}
use borrow.Author.Tests.{eqb-true}
use lib.ListN.{drop, set, length-set}
use lib.Seq.{get_or-set_other, drop-set-add}
use lib.Dec.{eqb}
use Rattle.base.proofs.Tests.{left_is, right_is}
use Rattle.rules_store.specs.declared.Entry.{Entry}
use Rattle.rules_store.specs.Store.{entry_of, entries_in, count, table_end, entries, laid, body_of}
use Rattle.rules_store.proofs.Order.{Full}

pub never : false ≡ true → ⊥
never e = let z : ◌≡◌ {A = ℕ} 0 1 = cc in omega arith

-- ---- where bodies stand

-- a body stands from `at` on, and ends before the end
pub record Inside (at end : ℕ) (tag : ℕ) (es : List Entry) : Type 0 where
  pub low : at ≤ (body_of tag es).offset
  pub high : (body_of tag es).offset + (body_of tag es).size ≤ end

end_least : (at : ℕ) (es : List Entry) (end : ℕ) → laid at es end ≡ true → at ≤ end
unfolding laid
end_least at [] end l = let e : at ≡ end = eqb-true at end l in omega arith
end_least at (x ∷ es) end l =
    omega (arith, end_least (at + x.size) es end (right_is (eqb x.offset at) (laid (at + x.size) es end) l))

pub inside : (tag at : ℕ) (es : List Entry) (end : ℕ) → laid at es end ≡ true → (body_of tag es).there ≡ true
    → Inside at end tag es
unfolding laid body_of
inside tag at [] end l t = absurd (never t)
inside tag at (x ∷ es) end l t = by (eqb x.tag tag) refl (λ u. inside tag (at + x.size) es end rest u)
  where
    rest : laid (at + x.size) es end ≡ true
    rest = right_is (eqb x.offset at) (laid (at + x.size) es end) l

    here : x.offset ≡ at
    here = eqb-true x.offset at (left_is (eqb x.offset at) (laid (at + x.size) es end) l)

    by : (b : Bool) → eqb x.tag tag ≡ b → ((body_of tag es).there ≡ true → Inside (at + x.size) end tag es)
        → Inside at end tag (x ∷ es)
    by true e on = record {
      low = rw e (omega (arith, here));
      high = rw e (omega (arith, here, end_least (at + x.size) es end rest));
    }
    by false e on =
        let i = on (rw e at t) in record { low = rw e (omega (arith, i.low)); high = rw e i.high }

-- two tags have their bodies apart, the first's of one octet at least
pub apart : (a b at : ℕ) (es : List Entry) (end : ℕ) → laid at es end ≡ true → (a ≡ b → ⊥)
    → (body_of a es).there ≡ true → (body_of b es).there ≡ true → (body_of a es).size ≡ 1 → (body_of b es).size ≡ 1
    → (body_of a es).offset ≡ (body_of b es).offset → ⊥
unfolding laid body_of
apart a b at [] end l n s t u v = absurd (never s)
apart a b at (x ∷ es) end l n s t u v =
    by (eqb x.tag a) (eqb x.tag b) refl refl s t u v (apart a b (at + x.size) es end rest n)
  where
    rest : laid (at + x.size) es end ≡ true
    rest = right_is (eqb x.offset at) (laid (at + x.size) es end) l

    here : x.offset ≡ at
    here = eqb-true x.offset at (left_is (eqb x.offset at) (laid (at + x.size) es end) l)

    by : (p q : Bool) → eqb x.tag a ≡ p → eqb x.tag b ≡ q
        → (body_of a (x ∷ es)).there ≡ true → (body_of b (x ∷ es)).there ≡ true
        → (body_of a (x ∷ es)).size ≡ 1 → (body_of b (x ∷ es)).size ≡ 1
        → ((body_of a es).there ≡ true → (body_of b es).there ≡ true → (body_of a es).size ≡ 1 → (body_of b es).size ≡ 1
        → (body_of a es).offset ≡ (body_of b es).offset → ⊥)
        → (body_of a (x ∷ es)).offset ≡ (body_of b (x ∷ es)).offset → ⊥
    by true true e f s t u v on o = n (sym (eqb-true x.tag a e) ∙ eqb-true x.tag b f)
    by true false e f s t u v on o =
        let i = inside b (at + x.size) es end rest (rw f at t) in
        let same : x.offset ≡ (body_of b es).offset = rw (e, f) at o in
        let one : x.size ≡ 1 = rw e at u in
        omega (arith, i.low, here)
    by false true e f s t u v on o =
        let i = inside a (at + x.size) es end rest (rw e at s) in
        let same : (body_of a es).offset ≡ x.offset = rw (e, f) at o in
        let one : x.size ≡ 1 = rw f at v in
        omega (arith, i.low, here)
    by false false e f s t u v on o =
        on (rw e at s) (rw f at t) (rw e at u) (rw f at v) (rw (e, f) at o)

-- ---- a write behind the table

entry_set : (l : List ℕ) (j v : ℕ) → entry_of (set l (4 + j) v) ≡ entry_of l
entry_set l j v =
    let a = get_or-set_other l (4 + j) 0 v 0 (λ e. omega arith) in
    let b = get_or-set_other l (4 + j) 1 v 0 (λ e. omega arith) in
    let c = get_or-set_other l (4 + j) 2 v 0 (λ e. omega arith) in
    let d = get_or-set_other l (4 + j) 3 v 0 (λ e. omega arith) in
    λ i. record { tag = a i; offset = b i + 256 * c i; size = d i }

entries_set : (n : ℕ) (l : List ℕ) (i v : ℕ) → 4 * n ≤ i → entries_in n (set l i v) ≡ entries_in n l
unfolding entries_in
entries_set zero l i v h = refl
entries_set (suc n) l i v h =
    let e : i ≡ 4 + (i - 4) = omega arith in
    let first : entry_of (set l i v) ≡ entry_of l = ap (λ (k : ℕ). entry_of (set l k v)) e ∙ entry_set l (i - 4) v in
    let moved : drop 4 (set l i v) ≡ set (drop 4 l) (i - 4) v =
    ap (λ (k : ℕ). drop 4 (set l k v)) e ∙ drop-set-add 4 l (i - 4) v in
    let rest : entries_in n (drop 4 (set l i v)) ≡ entries_in n (drop 4 l) =
    ap (entries_in n) moved ∙ entries_set n (drop 4 l) (i - 4) v (omega arith) in
    λ k. first k ∷ rest k

module _ (l : List ℕ) (i v : ℕ) (h : table_end (count l) ≤ i) where
  count_kept : count (set l i v) ≡ count l
  count_kept = get_or-set_other l i 1 v 0 (λ e. omega arith)

  pub entries_kept : entries (set l i v) ≡ entries l
  entries_kept =
      let e : i ≡ 2 + (i - 2) = omega arith in
      let moved : drop 2 (set l i v) ≡ set (drop 2 l) (i - 2) v =
      ap (λ (k : ℕ). drop 2 (set l k v)) e ∙ drop-set-add 2 l (i - 2) v in
      rw (count_kept, moved) (entries_set (count l) (drop 2 l) (i - 2) v (omega arith))

  pub full_kept : Full l → Full (set l i v)
  full_kept f = record {
    sound =
        record {
          long = rw (count_kept, length-set l i v) f.sound.long;
          most = rw count_kept f.sound.most;
          rises = rw entries_kept f.sound.rises;
          out = rw (entries_kept, count_kept, length-set l i v) f.sound.out;
        };
    passes = rw entries_kept f.passes;
    whole = rw entries_kept f.whole;
    ones = rw entries_kept f.ones;
  }
