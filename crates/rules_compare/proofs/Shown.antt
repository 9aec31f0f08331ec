-- What comparing two rows answers and leaves, in plain numbers: the definitions' list and row do as `Shows` says, and
-- nothing else does.
--     laid_fits, laid_zeros    a list that fits, and one that does not; by place fit_at, zeros_at
--     none_laid                an empty list leaves zeros
--     shows                    the definitions' number and row
--     shows_once               there is one number and one row
-- Assumes nothing.
use mathlib.Core.Path.{◌≡◌, refl, sym, ap, ◌∙◌, subst}
use mathlib.Core.List.{List, [], ◌∷◌, ◌++◌}
use Prim.Native.Nat.{ℕ, zero, suc, ◌+◌, ◌-◌, ◌*◌, ◌/◌, ◌%◌, ◌≤◌, ◌<◌}
use native.Mathlib.Nat.{not-suc-le-zero}
use native.Mathlib.Decide.{dec_lt, ℕ_discrete}
use native.Mathlib.Omega.{arith}
use borrow.Author.Tests.{lt-ltb, le-ltb}
use lib.ListN.{length, get_or, replicate, length-append, length-replicate, get_or-eq_default}
use lib.Seq.{ext_get_or}
use Rattle.base.proofs.SoMany.{many_once}
use Rattle.rules_compare.specs.Differences.{Difference, differences, entry_places, laid}
use Rattle.rules_compare.specs.Plain.{EntryIs, Listed, Lists, ZerosFrom, Shows}
use Rattle.rules_compare.proofs.Entries.{
  places_long,
  EntryFrom,
  each_from,
  all_from,
  rising_from,
  many_from,
}

-- ---- a list laid into a row
pub laid_fits : (places : ℕ) (ds : List Difference) → 3 * length ds ≤ places
    → laid places ds ≡ entry_places ds ++ replicate (places - 3 * length ds) 0
unfolding laid
laid_fits places ds h = rw (le-ltb places (3 * length ds) h)

pub laid_zeros : (places : ℕ) (ds : List Difference) → places < 3 * length ds → laid places ds ≡ replicate places 0
unfolding laid
laid_zeros places ds h = rw (lt-ltb places (3 * length ds) h)

-- zeros behind a row are what is read past its end
zero_at : (n p : ℕ) → get_or {A = ℕ} (replicate n 0) p 0 ≡ 0
zero_at zero p = refl
zero_at (suc n) zero = refl
zero_at (suc n) (suc p) = zero_at n p

padded : (l : List ℕ) (n p : ℕ) → get_or (l ++ replicate n 0) p 0 ≡ get_or l p 0
padded [] n p = zero_at n p
padded (x ∷ l) n zero = refl
padded (x ∷ l) n (suc p) = padded l n p

laid_long : (places : ℕ) (ds : List Difference) → length (laid places ds) ≡ places
laid_long places ds = by (dec_lt places (3 * length ds))
  where
    by : Dec (places < 3 * length ds) → length (laid places ds) ≡ places
    by (yes h) = ap length (laid_zeros places ds h) ∙ length-replicate places 0
    by (no g) =
        let h : 3 * length ds ≤ places = omega arith in
        ap length (laid_fits places ds h)
        ∙ simp (length-append, length-replicate) (let e = places_long ds in omega (arith, e))

-- ---- one place of such a row
pub fit_at : (places : ℕ) (ds : List Difference) → 3 * length ds ≤ places → (p : ℕ)
    → get_or (laid places ds) p 0 ≡ get_or (entry_places ds) p 0
fit_at places ds h p =
    ap (λ (l : List ℕ). get_or l p 0) (laid_fits places ds h) ∙ padded (entry_places ds) (places - 3 * length ds) p

pub zeros_at : (places : ℕ) (ds : List Difference) → places < 3 * length ds → (p : ℕ) → get_or (laid places ds) p 0 ≡ 0
zeros_at places ds h p = ap (λ (l : List ℕ). get_or l p 0) (laid_zeros places ds h) ∙ zero_at places p

pub none_laid : (places : ℕ) (ds : List Difference) → ds ≡ [] → ZerosFrom (laid places ds) 0
unfolding entry_places
none_laid places ds e p h = rw e (fit_at places [] (omega arith) p)

-- ---- the definitions
module _ (xs ys : List ℕ) (places : ℕ) where
  abbrev ds : List Difference
  ds = differences xs ys

  abbrev row : List ℕ
  row = laid places ds

  entry_is : 3 * length ds ≤ places → {k i : ℕ} → EntryFrom 0 xs ys (entry_places ds) k i → EntryIs xs ys row k i
  entry_is h {k} e = record {
    differ_at = e.differ_at;
    index_is = fit_at places ds h (3 * k) ∙ e.index_is ∙ omega arith;
    first_is = fit_at places ds h (3 * k + 1) ∙ e.first_is;
    second_is = fit_at places ds h (3 * k + 2) ∙ e.second_is;
  }

  lists : 3 * length ds ≤ places → Lists xs ys row (length ds)
  lists h = record {
    each = λ k l.
        let s = each_from 0 xs ys k l in
        let e = entry_is h s.is in
        subst (λ (i : ℕ). EntryIs xs ys row k i) (sym e.index_is) e;
    all = λ i d.
        let s = all_from 0 xs ys i d in record { entry = s.k; among = s.among; is = entry_is h s.is };
    rising = λ j k l m. rw (fit_at places ds h (3 * j), fit_at places ds h (3 * k)) (rising_from 0 xs ys j k l m);
  }

  pub shows : Shows xs ys places (length ds) row
  shows = record {
    exact = many_from xs ys (length xs) 0 (omega arith);
    whole = laid_long places ds;
    fits = λ h. (
      lists h,
      λ p l. fit_at places ds h p
          ∙ get_or-eq_default (entry_places ds) 0 {n = p} (let e = places_long ds in omega (arith, e)),
    );
    no_room = λ h p l. zeros_at places ds h p;
  }

-- ---- nothing else
module _ {xs ys : List ℕ} {entries : ℕ} {row row' : List ℕ} where
  -- two rows that list the same: entry k of the first is not above that of the second, where those before it are alike
  not_above : Lists xs ys row entries → Lists xs ys row' entries → (k : ℕ) → k < entries
      → ((j : ℕ) → j < k → get_or row (3 * j) 0 ≡ get_or row' (3 * j) 0)
      → get_or row (3 * k) 0 ≤ get_or row' (3 * k) 0
  not_above l l' k h before = by (dec_lt s.entry k) (ℕ_discrete s.entry k)
    where
      i : ℕ
      i = get_or row' (3 * k) 0

      s : Listed xs ys row entries i
      s = l.all i (l'.each k h).differ_at

      by : Dec (s.entry < k) → Dec (s.entry ≡ k) → get_or row (3 * k) 0 ≤ i
      by (yes b) e =
          let here = s.is.index_is in
          let same = before s.entry b in
          let up = l'.rising s.entry k b h in
          absurd (omega (arith, here, same, up))
      by (no g) (yes e) = let here = s.is.index_is in omega (arith, ap (λ (j : ℕ). get_or row (3 * j) 0) e, here)
      by (no g) (no ne) =
          let here = s.is.index_is in
          let up = l.rising k s.entry (omega arith) s.among in
          omega (arith, here, up)

module _ {xs ys : List ℕ} {entries : ℕ} {row row' : List ℕ} (l : Lists xs ys row entries)
    (l' : Lists xs ys row' entries) where
  -- entries are alike, those below k before the one at k
  index_once : (n k : ℕ) → k < n → k < entries → get_or row (3 * k) 0 ≡ get_or row' (3 * k) 0
  index_once zero k b h = absurd (not-suc-le-zero b)
  index_once (suc n) k b h =
      let before : (j : ℕ) → j < k → get_or row (3 * j) 0 ≡ get_or row' (3 * j) 0 =
      λ j m. index_once n j (omega arith) (omega arith) in
      let one = not_above l l' k h before in
      let two = not_above l' l k h (λ j m. sym (before j m)) in
      omega (arith, one, two)

  -- so are both octets
  places_once : (k : ℕ) → k < entries
      → (get_or row (3 * k) 0 ≡ get_or row' (3 * k) 0)
      × (get_or row (3 * k + 1) 0 ≡ get_or row' (3 * k + 1) 0)
      × (get_or row (3 * k + 2) 0 ≡ get_or row' (3 * k + 2) 0)
  places_once k h =
      let e = index_once (suc k) k (omega arith) h in
      let a = l.each k h in
      let b = l'.each k h in (
        e,
        a.first_is ∙ ap (λ (i : ℕ). get_or xs i 0) e ∙ sym b.first_is,
        a.second_is ∙ ap (λ (i : ℕ). get_or ys i 0) e ∙ sym b.second_is,
      )

  -- a place below the entries' end is one of an entry's three
  place_once : (p : ℕ) → p < 3 * entries → get_or row p 0 ≡ get_or row' p 0
  place_once p h = by (p / 3) (p % 3) (omega arith) (omega arith)
    where
      by : (k r : ℕ) → p ≡ 3 * k + r → r < 3 → get_or row p 0 ≡ get_or row' p 0
      by k zero e b = let f : p ≡ 3 * k = omega arith in rw f (places_once k (omega arith)).0
      by k (suc zero) e b = rw e (places_once k (omega arith)).1
      by k (suc (suc zero)) e b = rw e (places_once k (omega arith)).2
      by k (suc (suc (suc r))) e b = absurd (omega arith)

pub shows_once : {xs ys : List ℕ} {places m n : ℕ} {k l : List ℕ} → Shows xs ys places m k → Shows xs ys places n l
    → (m ≡ n) × (k ≡ l)
shows_once {xs} {ys} {places} {m} {n} {k} {l} v w = (same, ext_get_or 0 k l (v.whole ∙ sym w.whole) alike)
  where
    same : m ≡ n
    same = many_once v.exact w.exact

    w' : Shows xs ys places m l
    w' = subst (λ (e : ℕ). Shows xs ys places e l) (sym same) w

    by : (p : ℕ) → Dec (places < 3 * m) → Dec (p < 3 * m) → get_or k p 0 ≡ get_or l p 0
    by p (yes h) b = v.no_room h p (omega arith) ∙ sym (w'.no_room h p (omega arith))
    by p (no g) (yes b) = place_once (v.fits (omega arith)).0 (w'.fits (omega arith)).0 p b
    by p (no g) (no b) = (v.fits (omega arith)).1 p (omega arith) ∙ sym ((w'.fits (omega arith)).1 p (omega arith))

    alike : (p : ℕ) → p < length k → get_or k p 0 ≡ get_or l p 0
    alike p h = by p (dec_lt places (3 * m)) (dec_lt p (3 * m))
