-- Where the three required stand: tags rise, so at the front, or behind an entry of tag 0.
--     First, first_is                     the first entry that may be one of the three
--     none_of_few, too_few, third_tells, ones_tell, place_tells     whether the three are there, and their bodies
--     least_three, enough, first_place    where they are: how many entries there are, and the first one's body
--     in_row                              of one octet each they stand one behind the other
-- Assumes nothing.
use mathlib.Core.Path.{◌≡◌, refl, sym, ap, ◌∙◌, subst}
use mathlib.Core.Bool.{Bool, true, false, ◌&&◌}
use mathlib.Core.List.{List, [], ◌∷◌}
use Prim.Native.Nat.{ℕ, zero, suc, ◌+◌, ◌*◌, ◌-◌, ◌≤◌, ◌<◌}
use native.Mathlib.Omega.{arith}
use mir.Val.{bool_byte}
use borrow.Author.Tests.{leb-true, le-leb, eqb-true, eqb-false, eq-eqb, ne_eqb}
use lib.ListN.{length, drop}
use lib.Dec.{eqb, leb}
use Rattle.base.proofs.Tests.{left_is, right_is}
use Rattle.rules_store.specs.declared.Entry.{Entry}
use Rattle.rules_store.specs.Store.{Body, entry_of, entries_in, rising, laid, body_of, complete, single, is_setting}
use Rattle.rules_store.proofs.Places.{never}
use Rattle.rules_store.proofs.Three.{each}
use Rattle.rules_store.proofs.Walks.{left, left_all, left_next}

abbrev body_in : Entry → Body
body_in e = record { there = true; offset = e.offset; size = e.size }

-- ---- tags that rise

rest_rises : (least : ℕ) (e : Entry) (es : List Entry) → rising least (e ∷ es) ≡ true → rising (suc e.tag) es ≡ true
unfolding rising
rest_rises least e es r = right_is (leb least e.tag) (rising (suc e.tag) es) r

head_low : (least : ℕ) (e : Entry) (es : List Entry) → rising least (e ∷ es) ≡ true → least ≤ e.tag
unfolding rising
head_low least e es r = leb-true least e.tag (left_is (leb least e.tag) (rising (suc e.tag) es) r)

from : (least other : ℕ) (e : Entry) (es : List Entry) → rising least (e ∷ es) ≡ true → other ≤ e.tag
    → rising other (e ∷ es) ≡ true
unfolding rising
from least other e es r h = rw (le-leb other e.tag h) (rest_rises least e es r)

other : (tag : ℕ) (e : Entry) (es : List Entry) → (e.tag ≡ tag → ⊥) → body_of tag (e ∷ es) ≡ body_of tag es
unfolding body_of
other tag e es n = rw (ne_eqb e.tag tag n)

this : (tag : ℕ) (e : Entry) (es : List Entry) → e.tag ≡ tag → body_of tag (e ∷ es) ≡ body_in e
unfolding body_of
this tag e es q = rw (eq-eqb e.tag tag q)

-- no entry has a tag below the least
absent : (tag least : ℕ) (es : List Entry) → rising least es ≡ true → tag < least → (body_of tag es).there ≡ false
unfolding body_of
absent tag least [] r h = refl
absent tag least (e ∷ es) r h =
    let low = head_low least e es r in
    ap (λ (b : Body). b.there) (other tag e es (λ q. omega arith))
    ∙ absent tag (suc e.tag) es (rest_rises least e es r) (omega arith)

-- the least tag is the first entry's, if any entry has it
data Starts (tag : ℕ) : List Entry → Type 0 where
  starts : {e : Entry} {es : List Entry} → e.tag ≡ tag → rising (suc tag) es ≡ true → Starts tag (e ∷ es)

start : (tag : ℕ) (es : List Entry) → rising tag es ≡ true → (body_of tag es).there ≡ true → Starts tag es
unfolding body_of
start tag [] r t = absurd (never t)
start tag (e ∷ es) r t = by (eqb e.tag tag) refl
  where
    by : (b : Bool) → eqb e.tag tag ≡ b → Starts tag (e ∷ es)
    by true q =
        let same = eqb-true e.tag tag q in
        starts same (ap (λ (k : ℕ). rising (suc k) es) (sym same) ∙ rest_rises tag e es r)
    by false q =
        let n = eqb-false e.tag tag q in
        let low = head_low tag e es r in
        absurd
        (never
        (sym (absent tag (suc e.tag) es (rest_rises tag e es r) (omega arith))
        ∙ ap (λ (b : Body). b.there) (sym (other tag e es n))
        ∙ t))

-- ---- the three at the front

data Three : List Entry → Type 0 where
  three : {a b c : Entry} {es : List Entry} → a.tag ≡ 1 → b.tag ≡ 2 → c.tag ≡ 3 → Three (a ∷ b ∷ c ∷ es)

three_of : (es : List Entry) → rising 1 es ≡ true → complete es ≡ true → Three es
three_of es r w =
    let a = (body_of 1 es).there in
    let b = (body_of 2 es).there in
    let c = (body_of 3 es).there in
    let two = left_is (a && b) c w in
    one es (start 1 es r (left_is a b two)) (right_is a b two) (right_is (a && b) c w)
  where
    last : (a b : Entry) → a.tag ≡ 1 → b.tag ≡ 2 → (es : List Entry) → Starts 3 es → Three (a ∷ b ∷ es)
    last a b p q [] x' = elim x' [ ]
    last a b p q (c ∷ es) (starts s r) = three p q s

    second : (a : Entry) → a.tag ≡ 1 → (es : List Entry) → Starts 2 es → (body_of 3 es).there ≡ true → Three (a ∷ es)
    second a p [] x'' u = elim x'' [ ]
    second a p (b ∷ es) (starts q r) u =
        last a b p q es
        (start 3 es r (ap (λ (x : Body). x.there) (sym (other 3 b es (λ k. omega arith))) ∙ u))

    one : (es : List Entry) → Starts 1 es → (body_of 2 es).there ≡ true → (body_of 3 es).there ≡ true → Three es
    one [] x3 t u = elim x3 [ ]
    one (a ∷ es) (starts p r) t u =
        second a p es
        (start 2 es r (ap (λ (x : Body). x.there) (sym (other 2 a es (λ k. omega arith))) ∙ t))
        (ap (λ (x : Body). x.there) (sym (other 3 a es (λ k. omega arith))) ∙ u)

module _ (a b c : Entry) (es : List Entry) (p : a.tag ≡ 1) (q : b.tag ≡ 2) (r : c.tag ≡ 3) where
  abbrev all : List Entry
  all = a ∷ b ∷ c ∷ es

  body_1 : body_of 1 all ≡ body_in a
  body_1 = this 1 a (b ∷ c ∷ es) p

  body_2 : body_of 2 all ≡ body_in b
  body_2 = other 2 a (b ∷ c ∷ es) (λ k. omega arith) ∙ this 2 b (c ∷ es) q

  body_3 : body_of 3 all ≡ body_in c
  body_3 = other 3 a (b ∷ c ∷ es) (λ k. omega arith) ∙ other 3 b (c ∷ es) (λ k. omega arith) ∙ this 3 c es r

-- ---- of all entries, from the first that may be one of the three

pub record First (l : List ℕ) (n f : ℕ) : Type 0 where
  pub rises : rising 1 (left l n f) ≡ true
  pub same : (tag : ℕ) → 1 ≤ tag → body_of tag (left l n f) ≡ body_of tag (entries_in n (drop 2 l))

pub first_is : (l : List ℕ) (n : ℕ) → 0 < n → rising 0 (entries_in n (drop 2 l)) ≡ true → (e : Entry)
    → e ≡ entry_of (drop 2 l) → First l n (bool_byte (eqb e.tag 0))
first_is l n h r e s = by (eqb e.tag 0) refl
  where
    all : left l n 0 ≡ e ∷ left l n 1
    all = left_next l n 0 h ∙ ap (λ (x : Entry). x ∷ left l n 1) (sym s)

    rise : rising 0 (e ∷ left l n 1) ≡ true
    rise = ap (rising 0) (sym all ∙ left_all l n) ∙ r

    by : (b : Bool) → eqb e.tag 0 ≡ b → First l n (bool_byte b)
    by true q =
        let zero = eqb-true e.tag 0 q in
        record {
          rises = ap (λ (k : ℕ). rising (suc k) (left l n 1)) (sym zero) ∙ rest_rises 0 e (left l n 1) rise;
          same =
              λ tag g.
              sym (other tag e (left l n 1) (λ k. omega arith)) ∙ ap (body_of tag) (sym all ∙ left_all l n);
        }
    by false q =
        let some = eqb-false e.tag 0 q in
        record {
          rises = ap (rising 1) all ∙ from 0 1 e (left l n 1) rise (omega arith);
          same = λ tag g. ap (body_of tag) (left_all l n);
        }

length_entries : (n : ℕ) (l : List ℕ) → length (entries_in n l) ≡ n
unfolding entries_in
length_entries zero l = refl
length_entries (suc n) l = ap suc (length_entries n (drop 4 l))

three_long : (es : List Entry) → Three es → 3 ≤ length es
three_long [] x' = elim x' [ ]
three_long (a ∷ []) x4 = elim x4 [ ]
three_long (a ∷ (b ∷ [])) x7 = elim x7 [ ]
three_long (a ∷ b ∷ c ∷ es) (three p q r) = omega arith

third_is : (a b c : Entry) (es : List Entry) → Three (a ∷ b ∷ c ∷ es) → c.tag ≡ 3
third_is a b c es (three p q r) = r

module _ (l : List ℕ) (n f : ℕ) (k : First l n f) where
  abbrev es : List Entry
  es = entries_in n (drop 2 l)

  complete_is : complete (left l n f) ≡ complete es
  complete_is =
      let a = k.same 1 (omega arith) in
      let b = k.same 2 (omega arith) in
      let c = k.same 3 (omega arith) in
      λ i. (a i).there && (b i).there && (c i).there

  there : complete es ≡ true → Three (left l n f)
  there w = three_of (left l n f) k.rises (complete_is ∙ w)

  pub enough : complete es ≡ true → f + 3 ≤ n
  enough w =
      omega (arith, three_long (left l n f) (there w), length_entries (n - f) (drop (2 + 4 * f) l))

  pub too_few : n < f + 3 → false ≡ complete es
  too_few h = by (complete es) refl
    where
      by : (b : Bool) → complete es ≡ b → false ≡ b
      by false w = refl
      by true w = absurd (omega (arith, enough w))

  module _
      (a b c : Entry) (h : f + 3 ≤ n) (s : a ≡ entry_of (drop (2 + 4 * f) l))
      (t : b ≡ entry_of (drop (2 + 4 * (f + 1)) l)) (u : c ≡ entry_of (drop (2 + 4 * (f + 2)) l)) where
    heads : left l n f ≡ a ∷ b ∷ c ∷ left l n (f + 1 + 1 + 1)
    heads =
        let e : f + 1 + 1 ≡ f + 2 = omega arith in
        let third = ap (λ (j : ℕ). entry_of (drop (2 + 4 * j) l)) e ∙ sym u in
        left_next l n f (omega arith)
        ∙ ap (λ (m : List Entry). entry_of (drop (2 + 4 * f) l) ∷ m) (left_next l n (f + 1) (omega arith))
        ∙ ap (λ (m : List Entry). entry_of (drop (2 + 4 * f) l) ∷ entry_of (drop (2 + 4 * (f + 1)) l) ∷ m)
        (left_next l n (f + 1 + 1) (omega arith))
        ∙ (λ i. sym s i ∷ sym t i ∷ third i ∷ left l n (f + 1 + 1 + 1))

    rise : rising 1 (a ∷ b ∷ c ∷ left l n (f + 1 + 1 + 1)) ≡ true
    rise = ap (rising 1) (sym heads) ∙ k.rises

    -- the third of them tells the other two, as they rise
    tags : c.tag ≡ 3 → (a.tag ≡ 1) × (b.tag ≡ 2)
    tags e =
        let m = left l n (f + 1 + 1 + 1) in
        let x = head_low 1 a (b ∷ c ∷ m) rise in
        let more = rest_rises 1 a (b ∷ c ∷ m) rise in
        let y = head_low (suc a.tag) b (c ∷ m) more in
        let z = head_low (suc b.tag) c m (rest_rises (suc a.tag) b (c ∷ m) more) in
        (omega arith, omega arith)

    module _ (e : c.tag ≡ 3) where
      kind_body : body_of 1 es ≡ body_in a
      kind_body =
          sym (k.same 1 (omega arith)) ∙ ap (body_of 1) heads ∙ body_1 a b c _ (tags e).0 (tags e).1 e

      rate_body : body_of 2 es ≡ body_in b
      rate_body =
          sym (k.same 2 (omega arith)) ∙ ap (body_of 2) heads ∙ body_2 a b c _ (tags e).0 (tags e).1 e

      phase_body : body_of 3 es ≡ body_in c
      phase_body =
          sym (k.same 3 (omega arith)) ∙ ap (body_of 3) heads ∙ body_3 a b c _ (tags e).0 (tags e).1 e

    pub third_tells : eqb c.tag 3 ≡ complete es
    third_tells = by (eqb c.tag 3) (complete es) refl refl
      where
        by : (x y : Bool) → eqb c.tag 3 ≡ x → complete es ≡ y → x ≡ y
        by true true p q = refl
        by false false p q = refl
        by true false p q =
            let e = eqb-true c.tag 3 p in
            absurd (never (sym q ∙ rw (kind_body e, rate_body e, phase_body e)))
        by false true p q =
            absurd
            (eqb-false c.tag 3 p (third_is a b c _ (subst (λ (m : List Entry). Three m) heads (there q))))

    pub ones_tell : eqb c.tag 3 ≡ true → (eqb a.size 1 && eqb b.size 1 && eqb c.size 1) ≡ single es
    ones_tell t =
        let e = eqb-true c.tag 3 t in rw (kind_body e, rate_body e, phase_body e)

    pub place_tells : eqb c.tag 3 ≡ true → a.offset ≡ (body_of 1 es).offset
    place_tells t = rw (kind_body (eqb-true c.tag 3 t))

  -- of entries that have the three, the first
  pub first_place : complete es ≡ true → (a : Entry) → a ≡ entry_of (drop (2 + 4 * f) l)
      → a.offset ≡ (body_of 1 es).offset
  first_place w a s =
      place_tells a _ _ (enough w) s refl refl (third_tells a _ _ (enough w) s refl refl ∙ w)

pub least_three : (l : List ℕ) (n : ℕ) → rising 0 (entries_in n (drop 2 l)) ≡ true
    → complete (entries_in n (drop 2 l)) ≡ true → 3 ≤ n
unfolding entries_in body_of
least_three l zero r w = absurd (never w)
least_three l (suc n) r w = omega (arith, enough l (suc n) _ (first_is l (suc n) (omega arith) r _ refl) w)

pub none_of_few : (l : List ℕ) (n : ℕ) → rising 0 (entries_in n (drop 2 l)) ≡ true → n < 3
    → false ≡ complete (entries_in n (drop 2 l))
unfolding entries_in body_of
none_of_few l zero r h = refl
none_of_few l (suc n) r h = too_few l (suc n) _ (first_is l (suc n) (omega arith) r _ refl) (omega arith)

-- ---- one behind the other

pub record InRow (es : List Entry) : Type 0 where
  pub second : (body_of 2 es).offset ≡ (body_of 1 es).offset + 1
  pub third : (body_of 3 es).offset ≡ (body_of 1 es).offset + 2

ones : (es : List Entry) → single es ≡ true → (t : ℕ) → is_setting t ≡ true → (body_of t es).size ≡ 1
ones es s t h = eqb-true _ 1 (each (λ t. eqb (body_of t es).size 1) s t h)

row_three : (at : ℕ) (es : List Entry) (end : ℕ) → Three es → laid at es end ≡ true → single es ≡ true → InRow es
unfolding laid
row_three at [] end x3 l s = elim x3 [ ]
row_three at (a ∷ []) end x8 l s = elim x8 [ ]
row_three at (a ∷ (b ∷ [])) end x13 l s = elim x13 [ ]
row_three at (a ∷ b ∷ c ∷ es) end (three p q r) l s =
    let on = laid (at + a.size) (b ∷ c ∷ es) end in
    let rest = laid (at + a.size + b.size) (c ∷ es) end in
    let x = eqb-true a.offset at (left_is (eqb a.offset at) on l) in
    let more = right_is (eqb a.offset at) on l in
    let y = eqb-true b.offset (at + a.size) (left_is (eqb b.offset (at + a.size)) rest more) in
    let more = right_is (eqb b.offset (at + a.size)) rest more in
    let z = eqb-true c.offset (at + a.size + b.size) (left_is (eqb c.offset (at + a.size + b.size)) _ more) in
    let i = body_1 a b c es p q r in
    let j = body_2 a b c es p q r in
    let o : a.size ≡ 1 = ap (λ (d : Body). d.size) (sym i) ∙ ones (a ∷ b ∷ c ∷ es) s 1 refl in
    let t : b.size ≡ 1 = ap (λ (d : Body). d.size) (sym j) ∙ ones (a ∷ b ∷ c ∷ es) s 2 refl in
    record { second = rw (i, j) (omega arith); third = rw (i, body_3 a b c es p q r) (omega arith) }

pub in_row : (at : ℕ) (es : List Entry) (end : ℕ) → rising 0 es ≡ true → laid at es end ≡ true → complete es ≡ true
    → single es ≡ true → InRow es
unfolding laid body_of
in_row at [] end r l w s = absurd (never w)
in_row at (e ∷ es) end r l w s = by (eqb e.tag 0) refl
  where
    by : (b : Bool) → eqb e.tag 0 ≡ b → InRow (e ∷ es)
    by true q =
        let zero = eqb-true e.tag 0 q in
        let x = other 1 e es (λ k. omega arith) in
        let y = other 2 e es (λ k. omega arith) in
        let z = other 3 e es (λ k. omega arith) in
        let rise : rising 1 es ≡ true = ap (λ (k : ℕ). rising (suc k) es) (sym zero) ∙ rest_rises 0 e es r in
        let whole : complete es ≡ true = (λ i. (sym x i).there && (sym y i).there && (sym z i).there) ∙ w in
        let ones : single es ≡ true =
        (λ i. eqb (sym x i).size 1 && eqb (sym y i).size 1 && eqb (sym z i).size 1) ∙ s in
        let row = row_three (at + e.size) es end (three_of es rise whole) (right_is (eqb e.offset at) _ l) ones in
        record { second = rw (x, y) row.second; third = rw (x, z) row.third }
    by false q =
        let some = eqb-false e.tag 0 q in
        row_three at (e ∷ es) end (three_of (e ∷ es) (from 0 1 e es r (omega arith)) w) l s
