-- What a read answers, in plain numbers: the rows of `StoreTells` are the definition's answers.
--     tells_is        each row gives what the definition answers
--     read_row      every store has a row
--     told_allowed    settings told are allowed
-- Assumes nothing.
use mathlib.Core.Path.{◌≡◌, refl, sym, ap, ◌∙◌, subst}
use mathlib.Core.Bool.{Bool, true, false, cond, not}
use mathlib.Core.List.{List}
use mathlib.Core.Logic.{◌⊎◌, inl, inr}
use Prim.Native.Nat.{ℕ, suc, ◌≤◌, ◌<◌}
use native.Mathlib.Decide.{dec_le}
use native.Mathlib.Omega.{arith}
use borrow.Author.Tests.{eq-eqb, ne_eqb, eqb-true, eqb-false}
use lib.ListN.{length, get_or}
use lib.Dec.{eqb}
use Rattle.rules_store.specs.declared.Entry.{Entry}
use Rattle.rules_store.specs.declared.Settings.{Settings}
use Rattle.rules_store.specs.Store.{
  Body,
  count,
  table_end,
  entries,
  rising,
  laid,
  passable,
  body_of,
  complete,
  single,
  allowed_settings,
  value_of,
  no_settings,
  settings,
  store_read,
}
use Rattle.rules_store.specs.Plain.{
  AllowedSettings,
  tag_at,
  offset_at,
  size_at,
  start_at,
  Holds,
  Past,
  past_21,
  past_22,
  past_23,
  past_24,
  past_25,
  past_26,
  past_27,
  StoreTells,
  is_21,
  is_21_table,
  is_22,
  is_23,
  is_24,
  is_24_end,
  is_25,
  is_26,
  is_27,
  is_28,
  is_told,
}
use Rattle.rules_store.proofs.Allowed.{allowed_is, is_allowed_lem}
use Rattle.rules_store.proofs.Order.{
  Sound,
  Full,
  values_allowed,
  read_twenty_one,
  read_twenty_two,
  read_twenty_three,
  read_twenty_four,
  read_twenty_five,
  read_twenty_six,
  read_twenty_seven,
  read_full,
}
use Rattle.rules_store.proofs.Places.{never}
use Rattle.rules_store.proofs.Three.{tag_right, OfThree, each, each_of, some_of, not_each}
use Rattle.rules_store.proofs.Tested.{Some}
use Rattle.rules_store.proofs.Listed.{
  rises_all,
  all_rise,
  falls_some,
  some_fall,
  laid_all,
  all_laid,
  laid_not,
  not_laid,
  not_ended,
  passes_all,
  all_pass,
  high_some,
  some_high,
  Listed,
  body_listed,
  body_lacks,
  lacks_body,
  listed_body,
}

module _ (octets : List ℕ) where
  abbrev n : ℕ
  n = count octets

  abbrev es : List Entry
  es = entries octets

  abbrev Rise : Type 0
  Rise = (i : ℕ) → suc i < n → tag_at octets i < tag_at octets (suc i)

  -- ---- from plain numbers to the tests

  long_of : Past octets 21 → table_end n ≤ length octets
  long_of (past_21 h k) = k

  record Counted : Type 0 where
    long : table_end n ≤ length octets
    most : n ≤ 16

  counted_of : Past octets 22 → Counted
  counted_of (past_22 p m) = record { long = long_of p; most = m }

  counted_then : Past octets 23 → Counted
  counted_then (past_23 p r) = counted_of p

  rise_of : Past octets 23 → Rise
  rise_of (past_23 p r) = r

  sound_of : Past octets 24 → Sound octets
  sound_of (past_24 p a e) = record {
    long = (counted_then p).long;
    most = (counted_then p).most;
    rises = all_rise octets (rise_of p);
    out = all_laid octets (length octets) a e;
  }

  rise_then : Past octets 25 → Rise
  rise_then (past_25 (past_24 p a e) b) = rise_of p

  sound_then : Past octets 25 → Sound octets
  sound_then (past_25 p a) = sound_of p

  passes_of : Past octets 25 → passable es ≡ true
  passes_of (past_25 p a) = all_pass octets a

  module _ (rise : Rise) (tag : ℕ) where
    held_there : {value : ℕ} → Holds octets tag value → (body_of tag es).there ≡ true
    held_there h = ap (λ (x : Body). x.there) (listed_body octets rise tag h.i h.listed h.tag_is)

    held_value : {value : ℕ} → Holds octets tag value → value_of tag octets ≡ value
    held_value h =
        ap (λ (x : Body). get_or octets x.offset 0) (listed_body octets rise tag h.i h.listed h.tag_is)
        ∙ h.value_is

  abbrev is_there : ℕ → Bool
  is_there t = (body_of t es).there

  abbrev is_one : ℕ → Bool
  is_one t = eqb (body_of t es).size 1

  before_26 : Past octets 26 → Past octets 25
  before_26 (past_26 a b c p x y z) = p

  whole_of : Past octets 26 → complete es ≡ true
  whole_of (past_26 a b c p x y z) =
      let r = rise_then p in rw (held_there r 1 x, held_there r 2 y, held_there r 3 z)

  size_at_lem : Rise → (i : ℕ) → i < n → (body_of (tag_at octets i) es).size ≡ size_at octets i
  size_at_lem r i h = ap (λ (x : Body). x.size) (listed_body octets r (tag_at octets i) i h refl)

  -- the entry of one of the three
  listed_at : complete es ≡ true → (t : ℕ) → 1 ≤ t → t ≤ 3 → Listed octets t
  listed_at w t l h = body_listed octets t (each is_there w t (tag_right t l h))

  rise_last : Past octets 27 → Rise
  rise_last (past_27 p a) = rise_then (before_26 p)

  full_of : Past octets 27 → Full octets
  full_of (past_27 p a) = record {
    sound = sound_then (before_26 p);
    passes = passes_of (before_26 p);
    whole = whole_of p;
    ones = each_of is_one (λ t l h. one t l h (listed_at (whole_of p) t l h));
  }
    where
      one : (t : ℕ) → 1 ≤ t → t ≤ 3 → Listed octets t → is_one t ≡ true
      one t l h x =
          let e = x.tag_is in
          eq-eqb (body_of t es).size 1 (x.size_is ∙ a x.i x.listed (omega arith) (omega arith))

  -- ---- each row

  module _ {kind rate phase : ℕ} (p : Past octets 27)
      (x : Holds octets 1 kind) (y : Holds octets 2 rate) (z : Holds octets 3 phase) where
    read_held : store_read octets
        ≡ cond (not (allowed_settings kind rate phase)) (no_settings 28) (settings kind rate phase)
    read_held =
        let a = held_value (rise_last p) 1 x in
        let b = held_value (rise_last p) 2 y in
        let c = held_value (rise_last p) 3 z in
        read_full octets (full_of p)
        ∙ (λ i. cond (not (allowed_settings (a i) (b i) (c i))) (no_settings 28) (settings (a i) (b i) (c i)))

    refused_held : (AllowedSettings kind rate phase → ⊥) → store_read octets ≡ no_settings 28
    refused_held q = read_held ∙ by (allowed_settings kind rate phase) refl
      where
        by : (b : Bool) → allowed_settings kind rate phase ≡ b
            → cond (not b) (no_settings 28) (settings kind rate phase) ≡ no_settings 28
        by true e = absurd (q (is_allowed_lem kind rate phase e))
        by false e = refl

    told_held : AllowedSettings kind rate phase → store_read octets ≡ settings kind rate phase
    told_held a = read_held ∙ rw (allowed_is a)

  rows : {s : Settings} → StoreTells octets s → store_read octets ≡ s
  rows (is_21 h) = read_twenty_one octets (omega arith)
  rows (is_21_table h) = read_twenty_one octets h
  rows (is_22 p h) = read_twenty_two octets (long_of p) h
  rows (is_23 p i h d) =
      let c = counted_of p in read_twenty_three octets c.long c.most (some_fall octets i h d)
  rows (is_24 p i h q) =
      let c = counted_then p in
      read_twenty_four octets c.long c.most (all_rise octets (rise_of p))
      (not_laid octets (length octets) (record { i = i; listed = h; not_so = q }))
  rows (is_24_end p q) =
      let c = counted_then p in
      read_twenty_four octets c.long c.most (all_rise octets (rise_of p)) (not_ended octets (length octets) q)
  rows (is_25 p i h k) = read_twenty_five octets (sound_of p) (some_high octets i h k)
  rows (is_26 p tag l h q) =
      read_twenty_six octets (sound_then p) (passes_of p) (not_each is_there tag l h (lacks_body octets tag q))
  rows (is_27 p i h l m q) =
      let b = before_26 p in
      read_twenty_seven octets (sound_then b) (passes_of b) (whole_of p)
      (not_each is_one (tag_at octets i) l m
      (ne_eqb (body_of (tag_at octets i) es).size 1 (λ e. q (sym (size_at_lem (rise_then b) i h) ∙ e))))
  rows (is_28 p x y z q) = refused_held p x y z q
  rows (is_told p x y z a) = told_held p x y z a

  pub tells_is : {s : Settings} → StoreTells octets s → s ≡ store_read octets
  tells_is t = sym (rows t)

  -- ---- from the tests to plain numbers: every store has a row

  Row : Type 0
  Row = StoreTells octets (store_read octets)

  row : {s : Settings} → StoreTells octets s → Row
  unfolding Row
  row t = subst (StoreTells octets) (sym (rows t)) t

  holds : (t : ℕ) → (body_of t es).there ≡ true → Holds octets t (value_of t octets)
  holds t e =
      let x = body_listed octets t e in
      record {
        i = x.i;
        listed = x.listed;
        tag_is = x.tag_is;
        value_is = ap (λ (o : ℕ). get_or octets o 0) (sym x.offset_is);
      }

  -- each of the three holds its value
  three_hold : complete es ≡ true → (t : ℕ) → 1 ≤ t → t ≤ 3 → Holds octets t (value_of t octets)
  three_hold w t l h = holds t (each is_there w t (tag_right t l h))

  row_28 : Past octets 27 → complete es ≡ true → Row
  row_28 p w = by (values_allowed octets) refl
    where
      a : Holds octets 1 (value_of 1 octets)
      a = three_hold w 1 (omega arith) (omega arith)

      b : Holds octets 2 (value_of 2 octets)
      b = three_hold w 2 (omega arith) (omega arith)

      c : Holds octets 3 (value_of 3 octets)
      c = three_hold w 3 (omega arith) (omega arith)

      by : (q : Bool) → values_allowed octets ≡ q → Row
      by true e = row (is_told p a b c (is_allowed_lem _ _ _ e))
      by false e = row (is_28 p a b c (λ g. never (sym e ∙ allowed_is g)))

  row_27 : Past octets 26 → complete es ≡ true → Row
  row_27 p w = by (single es) refl
    where
      of : OfThree is_one → Row
      of x =
          let l = listed_at w x.tag x.least x.most in
          let e = l.tag_is in
          row
          (is_27 p l.i l.listed (omega (arith, x.least)) (omega (arith, x.most))
          (λ o. eqb-false (body_of x.tag es).size 1 x.fails (l.size_is ∙ o)))

      ones : single es ≡ true
          → (i : ℕ) → i < n → 1 ≤ tag_at octets i → tag_at octets i ≤ 3 → size_at octets i ≡ 1
      ones e i h l m =
          sym (size_at_lem (rise_then (before_26 p)) i h)
          ∙ eqb-true (body_of (tag_at octets i) es).size 1
          (each is_one e (tag_at octets i) (tag_right (tag_at octets i) l m))

      by : (q : Bool) → single es ≡ q → Row
      by true e = row_28 (past_27 p (ones e)) w
      by false e = of (some_of is_one e)

  row_26 : Past octets 25 → Row
  row_26 p = by (complete es) refl
    where
      of : OfThree is_there → Row
      of x = row (is_26 p x.tag x.least x.most (body_lacks octets x.tag x.fails))

      by : (q : Bool) → complete es ≡ q → Row
      by false e = of (some_of is_there e)
      by true w =
          row_27
          (past_26 _ _ _ p (three_hold w 1 (omega arith) (omega arith)) (three_hold w 2 (omega arith) (omega arith))
          (three_hold w 3 (omega arith) (omega arith))) w

  row_25 : Past octets 24 → Row
  row_25 p = by (passable es) refl
    where
      by : (q : Bool) → passable es ≡ q → Row
      by true e = row_26 (past_25 p (passes_all octets e))
      by false e = let s = high_some octets e in let q = s.not_so in row (is_25 p s.i s.listed (omega arith))

  row_24 : Past octets 23 → Row
  row_24 p = by (laid (table_end n) es (length octets)) refl
    where
      of : Some n (λ i. offset_at octets i ≡ start_at octets n i) ⊎ (start_at octets n n ≡ length octets → ⊥) → Row
      of (inl s) = row (is_24 p s.i s.listed s.not_so)
      of (inr q) = row (is_24_end p q)

      by : (q : Bool) → laid (table_end n) es (length octets) ≡ q → Row
      by true e = let l = laid_all octets (length octets) e in row_25 (past_24 p l.0 l.1)
      by false e = of (laid_not octets (length octets) e)

  row_23 : Past octets 22 → Row
  row_23 p = by (rising 0 es) refl
    where
      by : (q : Bool) → rising 0 es ≡ q → Row
      by true e = row_24 (past_23 p (rises_all octets e))
      by false e = let f = falls_some octets e in row (is_23 p f.i f.next f.down)

  row_21 : Dec (table_end n ≤ length octets) → Dec (n ≤ 16) → Row
  row_21 (no q) d = row (is_21_table (omega arith))
  row_21 (yes h) (no q) = row (is_22 (past_21 (omega arith) h) (omega arith))
  row_21 (yes h) (yes m) = row_23 (past_22 (past_21 (omega arith) h) m)

  pub read_row : StoreTells octets (store_read octets)
  unfolding Row
  read_row = row_21 (dec_le (table_end n) (length octets)) (dec_le n 16)

pub told_allowed : (octets : List ℕ) {s : Settings} → StoreTells octets s → s.number ≡ 0
    → AllowedSettings s.kind s.rate s.phase
told_allowed octets (is_21 h) e = absurd (omega arith)
told_allowed octets (is_21_table h) e = absurd (omega arith)
told_allowed octets (is_22 p h) e = absurd (omega arith)
told_allowed octets (is_23 p i h d) e = absurd (omega arith)
told_allowed octets (is_24 p i h q) e = absurd (omega arith)
told_allowed octets (is_24_end p q) e = absurd (omega arith)
told_allowed octets (is_25 p i h k) e = absurd (omega arith)
told_allowed octets (is_26 p tag l h q) e = absurd (omega arith)
told_allowed octets (is_27 p i h l m q) e = absurd (omega arith)
told_allowed octets (is_28 p x y z q) e = absurd (omega arith)
told_allowed octets (is_told p x y z a) e = a
