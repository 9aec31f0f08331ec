-- What the list of differences of two rows has, entry by entry, where the rows start at index `at`.
--     places_long              three places an entry
--     same_head, other_head    the first elements are alike, or are not
--     none_behind              nothing differs from a row that has ended
--     each_from                each entry is an index at which the rows differ
--     all_from                 each such index is an entry
--     rising_from              indexes rise
--     left_ended, left_cut     what is left from an index on: nothing where a row ends, else its first elements
--     many_from                there are as many entries as there are such indexes
--     entry_next, entry_on     the places of the next entry
-- By induction over the rows. Assumes nothing.
use mathlib.Core.Path.{◌≡◌, refl, sym, ap, ◌∙◌, subst}
use mathlib.Core.List.{List, [], ◌∷◌}
use mathlib.Core.Logic.{◌⊎◌, inl, inr}
use Prim.Native.Nat.{ℕ, zero, suc, ◌+◌, ◌*◌, ◌≤◌, ◌<◌}
use native.Mathlib.Nat.{not-suc-le-zero, le_of_suc-le-suc}
use native.Mathlib.Decide.{dec_lt, ℕ_discrete}
use native.Mathlib.Omega.{arith}
use borrow.Author.Tests.{eq-eqb, ne_eqb}
use lib.ListN.{length, get_or, drop, drop_of_length-le}
use lib.Seq.{drop-cons}
use Rattle.base.specs.SoMany.{SoMany, no_place, such, other}
use Rattle.rules_compare.specs.Differences.{Difference, differences_from, entry_places}
use Rattle.rules_compare.specs.Plain.{DifferAt}

pub places_long : (ds : List Difference) → length (entry_places ds) ≡ 3 * length ds
unfolding entry_places
places_long [] = refl
places_long (d ∷ ds) = let e = places_long ds in omega (arith, e)

pub same_head : (at x y : ℕ) (xs ys : List ℕ) → x ≡ y
    → differences_from at (x ∷ xs) (y ∷ ys) ≡ differences_from (suc at) xs ys
unfolding differences_from
same_head at x y xs ys e = rw (eq-eqb x y e)

pub other_head : (at x y : ℕ) (xs ys : List ℕ) → (x ≡ y → ⊥)
    → differences_from at (x ∷ xs) (y ∷ ys)
    ≡ record { index = at; first = x; second = y } ∷ differences_from (suc at) xs ys
unfolding differences_from
other_head at x y xs ys ne = rw (ne_eqb x y ne)

pub none_behind : (at : ℕ) (xs : List ℕ) → differences_from at xs [] ≡ []
unfolding differences_from
none_behind at [] = refl
none_behind at (x ∷ xs) = refl

pub entry_next : (k : ℕ) → 3 * suc k ≡ suc (suc (suc (3 * k)))
entry_next k = omega arith

pub entry_on : (k j : ℕ) → 3 * suc k + j ≡ suc (suc (suc (3 * k + j)))
entry_on k j = omega arith

-- ---- one element more in front of both rows
further : {xs ys : List ℕ} {x y i : ℕ} → DifferAt xs ys i → DifferAt (x ∷ xs) (y ∷ ys) (suc i)
further d = record {
  first_goes = let h = d.first_goes in omega (arith, h);
  second_goes = let h = d.second_goes in omega (arith, h);
  differ = d.differ;
}

nearer : {xs ys : List ℕ} {x y i : ℕ} → DifferAt (x ∷ xs) (y ∷ ys) (suc i) → DifferAt xs ys i
nearer d = record {
  first_goes = le_of_suc-le-suc d.first_goes;
  second_goes = le_of_suc-le-suc d.second_goes;
  differ = d.differ;
}

-- entry k is index i of rows that start at index `at`
pub record EntryFrom (at : ℕ) (xs ys row : List ℕ) (k i : ℕ) : Type 0 where
  pub differ_at : DifferAt xs ys i
  pub index_is : get_or row (3 * k) 0 ≡ at + i
  pub first_is : get_or row (3 * k + 1) 0 ≡ get_or xs i 0
  pub second_is : get_or row (3 * k + 2) 0 ≡ get_or ys i 0

pub record SomeIndex (at : ℕ) (xs ys row : List ℕ) (k : ℕ) : Type 0 where
  pub i : ℕ
  pub is : EntryFrom at xs ys row k i

pub record SomeEntry (at : ℕ) (xs ys row : List ℕ) (entries i : ℕ) : Type 0 where
  pub k : ℕ
  pub among : k < entries
  pub is : EntryFrom at xs ys row k i

module _ (at x y : ℕ) (xs ys : List ℕ) where
  abbrev rest : List Difference
  rest = differences_from (suc at) xs ys

  abbrev all : List Difference
  all = differences_from at (x ∷ xs) (y ∷ ys)

  -- the same entry of the same row, counted from one index earlier
  earlier : {row : List ℕ} {k i : ℕ} → EntryFrom (suc at) xs ys row k i → EntryFrom at (x ∷ xs) (y ∷ ys) row k (suc i)
  earlier {i = i} e = record {
    differ_at = further e.differ_at;
    index_is = e.index_is ∙ moved i;
    first_is = e.first_is;
    second_is = e.second_is;
  }
    where
      moved : (i : ℕ) → suc at + i ≡ at + suc i
      moved i = omega arith

  -- and with an entry put in front of it
  behind : {row : List ℕ} {k i u v w : ℕ} → EntryFrom at (x ∷ xs) (y ∷ ys) row k i
      → EntryFrom at (x ∷ xs) (y ∷ ys) (u ∷ v ∷ w ∷ row) (suc k) i
  behind {row} {k} {i} {u} {v} {w} e = record {
    differ_at = e.differ_at;
    index_is = ap (λ (p : ℕ). get_or (u ∷ v ∷ w ∷ row) p 0) (entry_next k) ∙ e.index_is;
    first_is = ap (λ (p : ℕ). get_or (u ∷ v ∷ w ∷ row) p 0) (entry_on k 1) ∙ e.first_is;
    second_is = ap (λ (p : ℕ). get_or (u ∷ v ∷ w ∷ row) p 0) (entry_on k 2) ∙ e.second_is;
  }

  -- the entry of the first elements
  at_head : (row : List ℕ) → (x ≡ y → ⊥) → EntryFrom at (x ∷ xs) (y ∷ ys) (at ∷ x ∷ y ∷ row) 0 0
  at_head row ne = record {
    differ_at = record { first_goes = omega arith; second_goes = omega arith; differ = ne };
    index_is = omega arith;
    first_is = refl;
    second_is = refl;
  }

  abbrev Each : List Difference → Type 0
  Each ds = (k : ℕ) → k < length ds → SomeIndex at (x ∷ xs) (y ∷ ys) (entry_places ds) k

  each_more : ((k : ℕ) → k < length rest → SomeIndex (suc at) xs ys (entry_places rest) k) → Dec (x ≡ y) → Each all
  unfolding entry_places
  each_more before (yes e) =
      rw (same_head at x y xs ys e)
      (λ k h. let s = before k h in record { i = suc s.i; is = earlier s.is })
  each_more before (no ne) = rw (other_head at x y xs ys ne) by
    where
      by : Each (record { index = at; first = x; second = y } ∷ rest)
      by zero h = record { i = 0; is = at_head (entry_places rest) ne }
      by (suc k) h =
          let s = before k (le_of_suc-le-suc h) in record { i = suc s.i; is = behind (earlier s.is) }

  abbrev Found : List Difference → ℕ → Type 0
  Found ds i = SomeEntry at (x ∷ xs) (y ∷ ys) (entry_places ds) (length ds) i

  all_more : ((i : ℕ) → DifferAt xs ys i → SomeEntry (suc at) xs ys (entry_places rest) (length rest) i) → Dec (x ≡ y)
      → (i : ℕ) → DifferAt (x ∷ xs) (y ∷ ys) i → Found all i
  unfolding entry_places
  all_more before (yes e) zero d = absurd (d.differ e)
  all_more before (yes e) (suc i) d =
      let s = before i (nearer d) in
      rw (same_head at x y xs ys e) (record { k = s.k; among = s.among; is = earlier s.is })
  all_more before (no ne) zero d =
      rw (other_head at x y xs ys ne)
      (record { k = 0; among = omega arith; is = at_head (entry_places rest) ne })
  all_more before (no ne) (suc i) d =
      let s = before i (nearer d) in
      let h = s.among in
      rw (other_head at x y xs ys ne)
      (record { k = suc s.k; among = omega (arith, h); is = behind (earlier s.is) })

  abbrev Rising : List Difference → Type 0
  Rising ds = (j k : ℕ) → j < k → k < length ds → get_or (entry_places ds) (3 * j) 0 < get_or (entry_places ds) (3 * k) 0

  rising_more : ((k : ℕ) → k < length rest → SomeIndex (suc at) xs ys (entry_places rest) k)
      → ((j k : ℕ) → j < k → k < length rest
      → get_or (entry_places rest) (3 * j) 0 < get_or (entry_places rest) (3 * k) 0)
      → Dec (x ≡ y) → Rising all
  unfolding entry_places
  rising_more each before (yes e) = rw (same_head at x y xs ys e) before
  rising_more each before (no ne) = rw (other_head at x y xs ys ne) by
    where
      by : Rising (record { index = at; first = x; second = y } ∷ rest)
      by j zero l h = absurd (not-suc-le-zero l)
      by zero (suc k) l h =
          let s = each k (le_of_suc-le-suc h) in
          let e = s.is.index_is in
          rw (entry_next k) (omega (arith, e))
      by (suc j) (suc k) l h = rw (entry_next j, entry_next k) (before j k (le_of_suc-le-suc l) (le_of_suc-le-suc h))

pub each_from : (at : ℕ) (xs ys : List ℕ) (k : ℕ) → k < length (differences_from at xs ys)
    → SomeIndex at xs ys (entry_places (differences_from at xs ys)) k
unfolding differences_from
each_from at [] ys k h = absurd (not-suc-le-zero h)
each_from at (x ∷ xs) [] k h = absurd (not-suc-le-zero h)
each_from at (x ∷ xs) (y ∷ ys) k h = each_more at x y xs ys (each_from (suc at) xs ys) (ℕ_discrete x y) k h

pub all_from : (at : ℕ) (xs ys : List ℕ) (i : ℕ) → DifferAt xs ys i
    → SomeEntry at xs ys (entry_places (differences_from at xs ys)) (length (differences_from at xs ys)) i
all_from at [] ys i d = absurd (not-suc-le-zero d.first_goes)
all_from at (x ∷ xs) [] i d = absurd (not-suc-le-zero d.second_goes)
all_from at (x ∷ xs) (y ∷ ys) i d = all_more at x y xs ys (all_from (suc at) xs ys) (ℕ_discrete x y) i d

pub rising_from : (at : ℕ) (xs ys : List ℕ) (j k : ℕ) → j < k → k < length (differences_from at xs ys)
    → get_or (entry_places (differences_from at xs ys)) (3 * j) 0
    < get_or (entry_places (differences_from at xs ys)) (3 * k) 0
unfolding differences_from
rising_from at [] ys j k l h = absurd (not-suc-le-zero h)
rising_from at (x ∷ xs) [] j k l h = absurd (not-suc-le-zero h)
rising_from at (x ∷ xs) (y ∷ ys) j k l h =
    rising_more at x y xs ys (each_from (suc at) xs ys) (rising_from (suc at) xs ys) (ℕ_discrete x y) j k l h

-- ---- from an index of both rows on
module _ (xs ys : List ℕ) where
  abbrev left : ℕ → List Difference
  left at = differences_from at (drop at xs) (drop at ys)

  pub left_ended : (at : ℕ) → (length xs ≤ at) ⊎ (length ys ≤ at) → left at ≡ []
  unfolding differences_from
  left_ended at (inl h) = ap (λ (l : List ℕ). differences_from at l (drop at ys)) (drop_of_length-le xs h)
  left_ended at (inr h) = ap (differences_from at (drop at xs)) (drop_of_length-le ys h) ∙ none_behind at (drop at xs)

  pub left_cut : (at : ℕ) → at < length xs → at < length ys
      → left at ≡ differences_from at (get_or xs at 0 ∷ drop (suc at) xs) (get_or ys at 0 ∷ drop (suc at) ys)
  left_cut at h l = rw (drop-cons xs at 0 h, drop-cons ys at 0 l)

  many_more : (at c : ℕ) → at < length xs → SoMany (DifferAt xs ys) (suc at) c (length (left (suc at)))
      → SoMany (DifferAt xs ys) at (suc c) (length (left at))
  many_more at c h more = by (dec_lt at (length ys)) (ℕ_discrete (get_or xs at 0) (get_or ys at 0))
    where
      by : Dec (at < length ys) → Dec (get_or xs at 0 ≡ get_or ys at 0)
          → SoMany (DifferAt xs ys) at (suc c) (length (left at))
      by (yes l) (yes e) =
          rw (left_cut at h l, same_head at (get_or xs at 0) (get_or ys at 0) (drop (suc at) xs) (drop (suc at) ys) e)
          (other (λ d. d.differ e) more)
      by (yes l) (no ne) =
          rw (left_cut at h l, other_head at (get_or xs at 0) (get_or ys at 0) (drop (suc at) xs) (drop (suc at) ys) ne)
          (such (record { first_goes = h; second_goes = l; differ = ne }) more)
      by (no g) e =
          let same : length (left (suc at)) ≡ length (left at) =
          ap length (left_ended (suc at) (inr (omega arith)) ∙ sym (left_ended at (inr (omega arith)))) in
          subst (SoMany (DifferAt xs ys) at (suc c)) same (other (λ d. g d.second_goes) more)

  pub many_from : (c at : ℕ) → at + c ≡ length xs → SoMany (DifferAt xs ys) at c (length (left at))
  many_from zero at h = rw (left_ended at (inl (omega arith))) no_place
  many_from (suc c) at h = many_more at c (omega arith) (many_from c (suc at) (omega arith))
