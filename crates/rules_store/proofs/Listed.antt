-- Entries by their number: the tests of a store in plain numbers, by the places of its octets, both ways.
--     entry_at_lem                                                        the i-th entry
--     rises_all, all_rise, falls_some, some_fall                      tags that rise strictly (23)
--     laid_all, all_laid, laid_not, not_laid, not_ended               where bodies start and the store ends (24)
--     passes_all, all_pass, high_some, some_high                      tags below 128 (25)
--     body_listed, body_lacks, lacks_body                             the entry of a tag, or that there is none (26)
--     tag_once, listed_body                                           where tags rise, a tag has one entry
-- Each test is a walk over the entries that goes on at the good ones (Tested.antt).
-- Assumes nothing.
use mathlib.Core.Path.{◌≡◌, refl, sym, ap, ◌∙◌, subst}
use mathlib.Core.Bool.{Bool, true, false}
use mathlib.Core.List.{List}
use mathlib.Core.Logic.{◌⊎◌, inl, inr}
use Prim.Native.Nat.{ℕ, zero, suc, ◌+◌, ◌*◌, ◌-◌, ◌≤◌, ◌<◌}
use native.Mathlib.Decide.{dec_lt, dec_le, ℕ_discrete}
use native.Mathlib.Numerals.{add-one}
use native.Mathlib.Omega.{arith}
use borrow.Author.Tests.{eq-eqb, eqb-true, eqb-false}
use lib.ListN.{get_or, drop}
use lib.Seq.{drop-drop}
use lib.Dec.{eqb}
use Rattle.rules_store.specs.declared.Entry.{Entry}
use Rattle.rules_store.specs.Store.{
  Body,
  entry_of,
  entries_in,
  count,
  table_end,
  entries,
  rising,
  laid,
  passable,
  body_of,
}
use Rattle.rules_store.specs.Plain.{tag_at, offset_at, size_at, start_at}
use Rattle.rules_store.proofs.Places.{never}
use Rattle.rules_store.proofs.Walks.{
  entry_is,
  left,
  left_all,
  rising_end,
  rising_more,
  rising_past,
  laid_end,
  laid_more,
  laid_past,
  passable_end,
  passable_more,
  passable_past,
  body_end,
  body_more,
  body_here,
}
use Rattle.rules_store.proofs.Tested.{
  Some,
  Walked,
  to_end,
  to_first,
  walked,
  Test,
  passed,
  failed,
  passes,
  fails,
}

entry_in : (m i : ℕ) (l : List ℕ) (d : Entry) → i < m → get_or (entries_in m l) i d ≡ entry_of (drop (4 * i) l)
unfolding entries_in
entry_in zero i l d h = absurd (omega arith)
entry_in (suc m) zero l d h = refl
entry_in (suc m) (suc i) l d h =
    let e : 4 + 4 * i ≡ 4 * suc i = omega arith in
    entry_in m i (drop 4 l) d (omega arith)
    ∙ ap entry_of (drop-drop (4 * i) 4 l ∙ ap (λ (k : ℕ). drop k l) e)

module _ (octets : List ℕ) where
  abbrev n : ℕ
  n = count octets

  abbrev entry_at : ℕ → Entry
  entry_at i = record { tag = tag_at octets i; offset = offset_at octets i; size = size_at octets i }

  at_is : (i : ℕ) → entry_at i ≡ entry_of (drop (2 + 4 * i) octets)
  at_is i =
      let b : 3 + 4 * i ≡ 2 + 4 * i + 1 = omega arith in
      let c : 4 + 4 * i ≡ 2 + 4 * i + 2 = omega arith in
      let d : 5 + 4 * i ≡ 2 + 4 * i + 3 = omega arith in
      let at : ℕ → ℕ = λ k. get_or octets k 0 in
      entry_is octets (2 + 4 * i) _ _ _ _ refl (ap at b) (ap at c) (ap at d)

  pub entry_at_lem : (i : ℕ) (d : Entry) → i < n → get_or (entries octets) i d ≡ entry_at i
  entry_at_lem i d h =
      entry_in n i (drop 2 octets) d h ∙ ap entry_of (drop-drop (4 * i) 2 octets) ∙ sym (at_is i)

  -- ---- 23

  -- the least tag that the i-th entry may have
  abbrev least : ℕ → ℕ
  least zero = 0
  least (suc i) = suc (tag_at octets i)

  rising_test : Test n (λ i. least i ≤ tag_at octets i) (λ i. rising (least i) (left octets n i))
  rising_test = record {
    decided = λ i. dec_le (least i) (tag_at octets i);
    more =
        λ i h q.
        rw (add-one (tag_at octets i), add-one i) at (rising_more octets n i (entry_at i) (at_is i) h (least i) q);
    past = λ i h q. rising_past octets n i (entry_at i) (at_is i) h (least i) (omega arith);
  }

  rising_all : rising 0 (left octets n 0) ≡ rising 0 (entries octets)
  rising_all = ap (rising 0) (left_all octets n)

  pub rises_all : rising 0 (entries octets) ≡ true → (i : ℕ) → suc i < n → tag_at octets i < tag_at octets (suc i)
  rises_all r i h = (passed rising_test (rising_all ∙ r)).0 (suc i) h

  pub all_rise : ((i : ℕ) → suc i < n → tag_at octets i < tag_at octets (suc i)) → rising 0 (entries octets) ≡ true
  all_rise a = sym rising_all ∙ passes rising_test each ∙ rising_end octets n n (least n) (omega arith)
    where
      each : (i : ℕ) → i < n → least i ≤ tag_at octets i
      each zero h = omega arith
      each (suc i) h = a i h

  pub record Falls : Type 0 where
    pub i : ℕ
    pub next : suc i < n
    pub down : tag_at octets (suc i) ≤ tag_at octets i

  pub falls_some : rising 0 (entries octets) ≡ false → Falls
  falls_some r = by (failed rising_test (rising_all ∙ r))
    where
      at : (i : ℕ) → i < n → (least i ≤ tag_at octets i → ⊥) → Falls
      at zero h q = absurd (q (omega arith))
      at (suc i) h q = record { i = i; next = h; down = omega arith }

      by : Some n (λ i. least i ≤ tag_at octets i) ⊎ (rising (least n) (left octets n n) ≡ false) → Falls
      by (inl s) = at s.i s.listed s.not_so
      by (inr e) = absurd (never (sym e ∙ rising_end octets n n (least n) (omega arith)))

  pub some_fall : (i : ℕ) → suc i < n → tag_at octets (suc i) ≤ tag_at octets i → rising 0 (entries octets) ≡ false
  some_fall i h d =
      sym rising_all ∙ fails rising_test (record { i = suc i; listed = h; not_so = λ q. omega arith })

  -- ---- 24

  laid_test : (end : ℕ) → Test n (λ i. offset_at octets i ≡ start_at octets n i)
      (λ i. laid (start_at octets n i) (left octets n i) end)
  unfolding start_at
  laid_test end = record {
    decided = λ i. ℕ_discrete (offset_at octets i) (start_at octets n i);
    more = λ i h q. rw (add-one i) at (laid_more octets n i (entry_at i) (at_is i) h (start_at octets n i) end q);
    past = λ i h q. laid_past octets n i (entry_at i) (at_is i) h (start_at octets n i) end q;
  }

  laid_whole : (end : ℕ)
      → laid (start_at octets n 0) (left octets n 0) end ≡ laid (table_end n) (entries octets) end
  unfolding start_at
  laid_whole end = ap (λ (es : List Entry). laid (table_end n) es end) (left_all octets n)

  module _ (end : ℕ) where
    at_end : laid (start_at octets n n) (left octets n n) end ≡ eqb (start_at octets n n) end
    at_end = laid_end octets n n (start_at octets n n) end (omega arith)

    pub laid_all : laid (table_end n) (entries octets) end ≡ true
        → ((i : ℕ) → i < n → offset_at octets i ≡ start_at octets n i) × (start_at octets n n ≡ end)
    laid_all e =
        let p = passed (laid_test end) (laid_whole end ∙ e) in
        (p.0, eqb-true (start_at octets n n) end (sym at_end ∙ p.1))

    pub all_laid : ((i : ℕ) → i < n → offset_at octets i ≡ start_at octets n i) → start_at octets n n ≡ end
        → laid (table_end n) (entries octets) end ≡ true
    all_laid a e =
        sym (laid_whole end) ∙ passes (laid_test end) a ∙ at_end ∙ eq-eqb (start_at octets n n) end e

    pub laid_not : laid (table_end n) (entries octets) end ≡ false
        → Some n (λ i. offset_at octets i ≡ start_at octets n i) ⊎ (start_at octets n n ≡ end → ⊥)
    laid_not e = by (failed (laid_test end) (laid_whole end ∙ e))
      where
        by : Some n (λ i. offset_at octets i ≡ start_at octets n i)
            ⊎ (laid (start_at octets n n) (left octets n n) end ≡ false)
            → Some n (λ i. offset_at octets i ≡ start_at octets n i) ⊎ (start_at octets n n ≡ end → ⊥)
        by (inl s) = inl s
        by (inr f) = inr (eqb-false (start_at octets n n) end (sym at_end ∙ f))

    pub not_laid : Some n (λ i. offset_at octets i ≡ start_at octets n i) → laid (table_end n) (entries octets) end ≡ false
    not_laid s = sym (laid_whole end) ∙ fails (laid_test end) s

    -- nor where the end is not the store's
    pub not_ended : (start_at octets n n ≡ end → ⊥) → laid (table_end n) (entries octets) end ≡ false
    not_ended q = by (laid (table_end n) (entries octets) end) refl
      where
        by : (b : Bool) → laid (table_end n) (entries octets) end ≡ b → b ≡ false
        by false e = refl
        by true e = absurd (q (laid_all e).1)

  -- ---- 25

  passable_test : Test n (λ i. tag_at octets i < 128) (λ i. passable (left octets n i))
  passable_test = record {
    decided = λ i. dec_lt (tag_at octets i) 128;
    more = λ i h q. rw (add-one i) at (passable_more octets n i (entry_at i) (at_is i) h q);
    past = λ i h q. passable_past octets n i (entry_at i) (at_is i) h (omega arith);
  }

  passable_all : passable (left octets n 0) ≡ passable (entries octets)
  passable_all = ap passable (left_all octets n)

  pub passes_all : passable (entries octets) ≡ true → (i : ℕ) → i < n → tag_at octets i < 128
  passes_all p = (passed passable_test (passable_all ∙ p)).0

  pub all_pass : ((i : ℕ) → i < n → tag_at octets i < 128) → passable (entries octets) ≡ true
  all_pass a = sym passable_all ∙ passes passable_test a ∙ passable_end octets n n (omega arith)

  pub high_some : passable (entries octets) ≡ false → Some n (λ i. tag_at octets i < 128)
  high_some p = by (failed passable_test (passable_all ∙ p))
    where
      by : Some n (λ i. tag_at octets i < 128) ⊎ (passable (left octets n n) ≡ false)
          → Some n (λ i. tag_at octets i < 128)
      by (inl s) = s
      by (inr e) = absurd (never (sym e ∙ passable_end octets n n (omega arith)))

  pub some_high : (i : ℕ) → i < n → 128 ≤ tag_at octets i → passable (entries octets) ≡ false
  some_high i h q =
      sym passable_all ∙ fails passable_test (record { i = i; listed = h; not_so = λ l. omega arith })

  -- ---- the entry of a tag

  abbrev body_at : ℕ → Body
  body_at i = record { there = true; offset = offset_at octets i; size = size_at octets i }

  abbrev no_body : Body
  no_body = record { there = false; offset = 0; size = 0 }

  module _ (tag : ℕ) where
    -- an entry has the tag, and its body is the one found
    pub record Listed : Type 0 where
      pub i : ℕ
      pub listed : i < n
      pub tag_is : tag_at octets i ≡ tag
      pub offset_is : (body_of tag (entries octets)).offset ≡ offset_at octets i
      pub size_is : (body_of tag (entries octets)).size ≡ size_at octets i
      pub there_is : (body_of tag (entries octets)).there ≡ true

    -- the one, or none
    data Found : Type 0 where
      found : Listed → Found
      none : ((i : ℕ) → i < n → tag_at octets i ≡ tag → ⊥) → body_of tag (entries octets) ≡ no_body → Found

    body_found : Found
    body_found = by (walked n (λ i. tag_at octets i ≡ tag → ⊥) (λ i. body_of tag (left octets n i)) decided more)
      where
        it_is : (i : ℕ) → ((tag_at octets i ≡ tag → ⊥) → ⊥) → tag_at octets i ≡ tag
        it_is i q = of (ℕ_discrete (tag_at octets i) tag)
          where
            of : Dec (tag_at octets i ≡ tag) → tag_at octets i ≡ tag
            of (yes e) = e
            of (no r) = absurd (q r)

        decided : (i : ℕ) → Dec (tag_at octets i ≡ tag → ⊥)
        decided i = turned (ℕ_discrete (tag_at octets i) tag)
          where
            turned : Dec (tag_at octets i ≡ tag) → Dec (tag_at octets i ≡ tag → ⊥)
            turned (yes e) = no (λ q. q e)
            turned (no q) = yes q

        more : (i : ℕ) → i < n → (tag_at octets i ≡ tag → ⊥)
            → body_of tag (left octets n (suc i)) ≡ body_of tag (left octets n i)
        more i h q = rw (add-one i) at (body_more octets n i (entry_at i) (at_is i) h tag q)

        whole : body_of tag (entries octets) ≡ body_of tag (left octets n 0)
        whole = ap (body_of tag) (sym (left_all octets n))

        by : Walked n (λ i. tag_at octets i ≡ tag → ⊥) (λ i. body_of tag (left octets n i)) → Found
        by (to_end a s) = none a (whole ∙ s ∙ body_end octets n n tag (omega arith))
        by (to_first i h q s) =
            let t = it_is i q in
            let b : body_of tag (entries octets) ≡ body_at i =
            whole ∙ s ∙ body_here octets n i (entry_at i) (at_is i) h tag t in
            found
            (record {
              i = i;
              listed = h;
              tag_is = t;
              offset_is = ap (λ (x : Body). x.offset) b;
              size_is = ap (λ (x : Body). x.size) b;
              there_is = ap (λ (x : Body). x.there) b;
            })

    pub body_listed : (body_of tag (entries octets)).there ≡ true → Listed
    body_listed t = by body_found
      where
        by : Found → Listed
        by (found l) = l
        by (none a e) = absurd (never (sym (ap (λ (x : Body). x.there) e) ∙ t))

    pub body_lacks : (body_of tag (entries octets)).there ≡ false → (i : ℕ) → i < n → tag_at octets i ≡ tag → ⊥
    body_lacks t = by body_found
      where
        by : Found → (i : ℕ) → i < n → tag_at octets i ≡ tag → ⊥
        by (found l) = absurd (never (sym t ∙ l.there_is))
        by (none a e) = a

    pub lacks_body : ((i : ℕ) → i < n → tag_at octets i ≡ tag → ⊥) → (body_of tag (entries octets)).there ≡ false
    lacks_body a = by body_found
      where
        by : Found → (body_of tag (entries octets)).there ≡ false
        by (found l) = absurd (a l.i l.listed l.tag_is)
        by (none b e) = ap (λ (x : Body). x.there) e

  -- ---- where tags rise, a tag stands in one entry only

  module _ (rise : (i : ℕ) → suc i < n → tag_at octets i < tag_at octets (suc i)) where
    rise_far : (i d : ℕ) → i + suc d < n → tag_at octets i < tag_at octets (i + suc d)
    rise_far i zero h = rw (add-one i) (rise i (omega arith))
    rise_far i (suc d) h =
        let e : i + suc (suc d) ≡ suc (i + suc d) = omega arith in
        rw e (omega (arith, rise_far i d (omega arith), rise (i + suc d) (omega arith)))

    pub tag_once : (i j : ℕ) → i < n → j < n → tag_at octets i ≡ tag_at octets j → i ≡ j
    tag_once i j h k e = by (dec_lt i j) (dec_lt j i)
      where
        far : (a b : ℕ) → a < b → b < n → tag_at octets a < tag_at octets b
        far a b l m =
            let d : a + suc (b - suc a) ≡ b = omega arith in
            subst (λ (x : ℕ). tag_at octets a < tag_at octets x) d (rise_far a (b - suc a) (omega arith))

        by : Dec (i < j) → Dec (j < i) → i ≡ j
        by (yes l) d = absurd (omega (arith, far i j l k))
        by (no l) (yes m) = absurd (omega (arith, far j i m h))
        by (no l) (no m) = omega arith

    pub listed_body : (tag i : ℕ) → i < n → tag_at octets i ≡ tag → body_of tag (entries octets) ≡ body_at i
    listed_body tag i h t = by (body_found tag)
      where
        by : Found tag → body_of tag (entries octets) ≡ body_at i
        by (none a e) = absurd (a i h t)
        by (found l) =
            let e : l.i ≡ i = tag_once l.i i l.listed h (l.tag_is ∙ sym t) in
            let o = l.offset_is ∙ ap (offset_at octets) e in
            let s = l.size_is ∙ ap (size_at octets) e in
            λ k. record { there = l.there_is k; offset = o k; size = s k }
