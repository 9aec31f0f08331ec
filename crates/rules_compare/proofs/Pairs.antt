-- Lists of differences side by side.
--     itself                      nothing differs from itself
--     fewest, few_shown           there are not more entries than either row has elements
--     exchanged                   rows exchanged: as many entries, and the same row with both octets exchanged
--     gives_second, gives_first   equal lists and one row give the other, as far as all go
-- Assumes nothing.
use mathlib.Core.Path.{◌≡◌, refl, sym, ap, ◌∙◌}
use mathlib.Core.List.{List, [], ◌∷◌, map}
use Prim.Native.Nat.{ℕ, zero, suc, ◌+◌, ◌*◌, ◌≤◌, ◌<◌}
use native.Mathlib.Decide.{dec_lt, ℕ_discrete}
use native.Mathlib.Omega.{arith}
use lib.ListN.{length, get_or}
use Rattle.rules_compare.specs.Differences.{Difference, differences_from, differences, entry_places, laid}
use Rattle.rules_compare.specs.Plain.{Lists, Shows, Exchanged}
use Rattle.rules_compare.proofs.Entries.{same_head, other_head, none_behind, entry_next, entry_on}
use Rattle.rules_compare.proofs.Shown.{fit_at, zeros_at, shows, shows_once}

-- ---- one row with itself
itself_from : (at : ℕ) (xs : List ℕ) → differences_from at xs xs ≡ []
unfolding differences_from
itself_from at [] = refl
itself_from at (x ∷ xs) = same_head at x x xs xs refl ∙ itself_from (suc at) xs

pub itself : (xs : List ℕ) → differences xs xs ≡ []
itself xs = itself_from 0 xs

-- ---- how many at most
fewest_from : (at : ℕ) (xs ys : List ℕ)
    → (length (differences_from at xs ys) ≤ length xs) × (length (differences_from at xs ys) ≤ length ys)
unfolding differences_from
fewest_from at [] ys = (omega arith, omega arith)
fewest_from at (x ∷ xs) [] = (omega arith, omega arith)
fewest_from at (x ∷ xs) (y ∷ ys) = by (ℕ_discrete x y) (fewest_from (suc at) xs ys)
  where
    rest : List Difference
    rest = differences_from (suc at) xs ys

    all : List Difference
    all = differences_from at (x ∷ xs) (y ∷ ys)

    by : Dec (x ≡ y) → (length rest ≤ length xs) × (length rest ≤ length ys)
        → (length all ≤ suc (length xs)) × (length all ≤ suc (length ys))
    by (yes e) f =
        let n = ap length (same_head at x y xs ys e) in
        (omega (arith, n, f.0), omega (arith, n, f.1))
    by (no ne) f =
        let n = ap length (other_head at x y xs ys ne) in
        (omega (arith, n, f.0), omega (arith, n, f.1))

pub fewest : (xs ys : List ℕ) → (length (differences xs ys) ≤ length xs) × (length (differences xs ys) ≤ length ys)
fewest xs ys = fewest_from 0 xs ys

pub few_shown : {xs ys row : List ℕ} {places entries : ℕ} → Shows xs ys places entries row
    → (entries ≤ length xs) × (entries ≤ length ys)
few_shown {xs} {ys} {row} {places} v =
    let n = (shows_once v (shows xs ys places)).0 in
    let f = fewest xs ys in
    (omega (arith, n, f.0), omega (arith, n, f.1))

-- ---- rows exchanged
abbrev turned : Difference → Difference
turned d = record { index = d.index; first = d.second; second = d.first }

turned_from_lem : (at : ℕ) (xs ys : List ℕ) → differences_from at ys xs ≡ map turned (differences_from at xs ys)
unfolding differences_from
turned_from_lem at [] ys = none_behind at ys
turned_from_lem at (x ∷ xs) [] = refl
turned_from_lem at (x ∷ xs) (y ∷ ys) = by (ℕ_discrete x y) (turned_from_lem (suc at) xs ys)
  where
    by : Dec (x ≡ y) → differences_from (suc at) ys xs ≡ map turned (differences_from (suc at) xs ys)
        → differences_from at (y ∷ ys) (x ∷ xs) ≡ map turned (differences_from at (x ∷ xs) (y ∷ ys))
    by (yes e) h =
        same_head at y x ys xs (sym e) ∙ h ∙ ap (map turned) (sym (same_head at x y xs ys e))
    by (no ne) h =
        other_head at y x ys xs (λ e. ne (sym e))
        ∙ ap (λ (ds : List Difference). record { index = at; first = y; second = x } ∷ ds) h
        ∙ ap (map turned) (sym (other_head at x y xs ys ne))

turned_long : (ds : List Difference) → length (map turned ds) ≡ length ds
turned_long [] = refl
turned_long (d ∷ ds) = ap suc (turned_long ds)

turned_places : (ds : List Difference) (k : ℕ) → Exchanged (entry_places ds) (entry_places (map turned ds)) k
unfolding entry_places
turned_places [] k = (refl, refl, refl)
turned_places (d ∷ ds) zero = (refl, refl, refl)
turned_places (d ∷ ds) (suc k) =
    let t = turned_places ds k in (
      rw (entry_next k) t.0,
      rw (entry_on k 1, entry_on k 2) t.1,
      rw (entry_on k 1, entry_on k 2) t.2,
    )

pub exchanged : (xs ys : List ℕ) (places : ℕ)
    → (length (differences ys xs) ≡ length (differences xs ys))
    × ((k : ℕ) → Exchanged (laid places (differences xs ys)) (laid places (differences ys xs)) k)
exchanged xs ys places = (as_many, λ k. by k (dec_lt places (3 * length ds)))
  where
    ds : List Difference
    ds = differences xs ys

    as_many : length (differences ys xs) ≡ length ds
    as_many = ap length (turned_from_lem 0 xs ys) ∙ turned_long ds

    by : (k : ℕ) → Dec (places < 3 * length ds) → Exchanged (laid places ds) (laid places (differences ys xs)) k
    by k (yes h) =
        let z = zeros_at places (differences xs ys) h in
        let z' = zeros_at places (differences ys xs) (omega (arith, as_many)) in (
          z' (3 * k) ∙ sym (z (3 * k)),
          z' (3 * k + 1) ∙ sym (z (3 * k + 2)),
          z' (3 * k + 2) ∙ sym (z (3 * k + 1)),
        )
    by k (no g) =
        let f = fit_at places ds (omega arith) in
        let f' = fit_at places (differences ys xs) (omega (arith, as_many)) in
        let t : Exchanged (entry_places ds) (entry_places (differences ys xs)) k =
        rw (turned_from_lem 0 xs ys) (turned_places ds k) in (
          f' (3 * k) ∙ t.0 ∙ sym (f (3 * k)),
          f' (3 * k + 1) ∙ t.1 ∙ sym (f (3 * k + 2)),
          f' (3 * k + 2) ∙ t.2 ∙ sym (f (3 * k + 1)),
        )

-- ---- equal lists and one row
-- half of what a list says: where a row differs from one that is known, and what it has there, in place c of an entry
record Half (known other row : List ℕ) (entries c : ℕ) : Type 0 where
  told : (k : ℕ) → k < entries → get_or row (3 * k + c) 0 ≡ get_or other (get_or row (3 * k) 0) 0
  entry : (i : ℕ) → i < length known → i < length other → (get_or known i 0 ≡ get_or other i 0 → ⊥) → ℕ
  among : (i : ℕ) (h : i < length known) (l : i < length other) (ne : get_or known i 0 ≡ get_or other i 0 → ⊥)
      → entry i h l ne < entries
  index : (i : ℕ) (h : i < length known) (l : i < length other) (ne : get_or known i 0 ≡ get_or other i 0 → ⊥)
      → get_or row (3 * entry i h l ne) 0 ≡ i

module _ {known other other' row row' : List ℕ} {entries c : ℕ} (v : Half known other row entries c)
    (w : Half known other' row' entries c) (c-is : c < 3)
    (same : (p : ℕ) → p < 3 * entries → get_or row p 0 ≡ get_or row' p 0) where
  -- where the first differs at i and is listed, so does the second
  listed_too : (i : ℕ) → i < length known → i < length other → (get_or known i 0 ≡ get_or other i 0 → ⊥)
      → get_or other i 0 ≡ get_or other' i 0
  listed_too i h l ne =
      let k = v.entry i h l ne in
      let a = v.among i h l ne in
      let e = v.index i h l ne in
      let e' = sym (same (3 * k) (omega (arith, a))) ∙ e in
      ap (λ (j : ℕ). get_or other j 0) (sym e) ∙ sym (v.told k a) ∙ same (3 * k + c) (omega (arith, a, c-is))
      ∙ w.told k a ∙ ap (λ (j : ℕ). get_or other' j 0) e'

module _ {known other other' row row' : List ℕ} {entries c : ℕ} (v : Half known other row entries c)
    (w : Half known other' row' entries c) (c-is : c < 3)
    (same : (p : ℕ) → p < 3 * entries → get_or row p 0 ≡ get_or row' p 0) where
  gives : (i : ℕ) → i < length known → i < length other → i < length other' → get_or other i 0 ≡ get_or other' i 0
  gives i h l l' = by (ℕ_discrete (get_or known i 0) (get_or other i 0)) (ℕ_discrete (get_or known i 0) (get_or other' i 0))
    where
      by : Dec (get_or known i 0 ≡ get_or other i 0) → Dec (get_or known i 0 ≡ get_or other' i 0)
          → get_or other i 0 ≡ get_or other' i 0
      by (no ne) e = listed_too v w c-is same i h l ne
      by (yes e) (yes e') = sym e ∙ e'
      by (yes e) (no ne) = sym (listed_too w v c-is (λ p b. sym (same p b)) i h l' ne)

second_half : {xs ys row : List ℕ} {entries : ℕ} → Lists xs ys row entries → Half xs ys row entries 2
second_half l = record {
  told = λ k h. (l.each k h).second_is;
  entry = λ i h g ne. (l.all i (record { first_goes = h; second_goes = g; differ = ne })).entry;
  among = λ i h g ne. (l.all i (record { first_goes = h; second_goes = g; differ = ne })).among;
  index = λ i h g ne. (l.all i (record { first_goes = h; second_goes = g; differ = ne })).is.index_is;
}

first_half : {xs ys row : List ℕ} {entries : ℕ} → Lists xs ys row entries → Half ys xs row entries 1
first_half l = record {
  told = λ k h. (l.each k h).first_is;
  entry = λ i h g ne. (l.all i (record { first_goes = g; second_goes = h; differ = λ e. ne (sym e) })).entry;
  among = λ i h g ne. (l.all i (record { first_goes = g; second_goes = h; differ = λ e. ne (sym e) })).among;
  index = λ i h g ne. (l.all i (record { first_goes = g; second_goes = h; differ = λ e. ne (sym e) })).is.index_is;
}

pub gives_second : {xs ys ys' row row' : List ℕ} {entries : ℕ} → Lists xs ys row entries → Lists xs ys' row' entries
    → ((p : ℕ) → p < 3 * entries → get_or row p 0 ≡ get_or row' p 0)
    → (i : ℕ) → i < length xs → i < length ys → i < length ys' → get_or ys i 0 ≡ get_or ys' i 0
gives_second l l' same = gives (second_half l) (second_half l') (omega arith) same

pub gives_first : {xs xs' ys row row' : List ℕ} {entries : ℕ} → Lists xs ys row entries → Lists xs' ys row' entries
    → ((p : ℕ) → p < 3 * entries → get_or row p 0 ≡ get_or row' p 0)
    → (i : ℕ) → i < length ys → i < length xs → i < length xs' → get_or xs i 0 ≡ get_or xs' i 0
gives_first l l' same = gives (first_half l) (first_half l') (omega arith) same
