-- Rows and lists as code goes through them, entry by entry.
--     at_most_more, at_most_past, at_most_end     a row's test, from its front on
--     at_most_at, at_most_all                     what the test says of the row's entries
--     takes, limits_take                          a report takes one more just where it is within the limits
--     none_counted                                a report of nothing is all zeros
--     more_set                                    a row with more at one entry is written at that entry
--     length_recordings, recordings_next          recordings, and one more of them
-- Assumes nothing.
use mathlib.Core.Path.{◌≡◌, refl, ap}
use mathlib.Core.Bool.{true, false, ◌&&◌}
use mathlib.Core.List.{List, [], ◌∷◌, ◌++◌}
use Prim.Native.Nat.{ℕ, zero, suc, ◌+◌, ◌≤◌, ◌<◌}
use native.Mathlib.Nat.{not-suc-le-zero, le_of_suc-le-suc}
use native.Mathlib.Numerals.{add-one}
use native.Mathlib.Omega.{arith}
use borrow.Author.Tests.{lt-ltb, ltb-true, leb-true, le-leb, lt-leb}
use lib.Dec.{ltb, leb}
use lib.ListN.{length, get_or, take, drop, set, drop_of_length-le}
use lib.Seq.{drop-cons}
use Rattle.base.specs.Tables.{tabulate}
use Rattle.base.proofs.Tests.{left_is, right_is}
use Rattle.rules_report.specs.Totals.{Recording, total, closest_from}
use Rattle.rules_report.specs.Report.{empty, report_of, more, at_most, takes_more, Limits, recordings}
use Rattle.rules_report.specs.declared.Report.{Report}

-- ---- a row's test

module _ (m : ℕ) (row : List ℕ) (i : ℕ) where
  at_most_on : i < length row → at_most m (drop i row) ≡ (leb (get_or row i 0) m && at_most m (drop (suc i) row))
  unfolding at_most
  at_most_on h = rw (drop-cons row i 0 h)

  pub at_most_more : i < length row → get_or row i 0 ≤ m → at_most m (drop (i + 1) row) ≡ at_most m (drop i row)
  at_most_more h l = rw (add-one, at_most_on h, le-leb (get_or row i 0) m l)

  pub at_most_past : i < length row → m < get_or row i 0 → at_most m (drop i row) ≡ false
  at_most_past h l = rw (at_most_on h, lt-leb (get_or row i 0) m l)

  pub at_most_end : length row ≤ i → at_most m (drop i row) ≡ true
  unfolding at_most
  at_most_end h = rw (drop_of_length-le row h)

-- every entry, and the 0 that stands for one past the end
pub at_most_at : (m : ℕ) (row : List ℕ) → at_most m row ≡ true → (j : ℕ) → get_or row j 0 ≤ m
unfolding at_most
at_most_at m [] e zero = omega arith
at_most_at m [] e (suc j) = omega arith
at_most_at m (x ∷ row) e zero = leb-true x m (left_is (leb x m) (at_most m row) e)
at_most_at m (x ∷ row) e (suc j) = at_most_at m row (right_is (leb x m) (at_most m row) e) j

pub at_most_all : (m : ℕ) (row : List ℕ) → ((j : ℕ) → get_or row j 0 ≤ m) → at_most m row ≡ true
unfolding at_most
at_most_all m [] h = refl
at_most_all m (x ∷ row) h = rw (le-leb x m (h 0)) (at_most_all m row (λ j. h (suc j)))

-- ---- a report that takes one more is within the limits, and one within them takes one more

pub takes : (p : Report) → takes_more p ≡ true → Limits p
unfolding takes_more
takes p e =
    let a = ltb p.seen 1000 in
    let b = at_most 1000 p.frames in
    let c = at_most 4095000 p.octets in
    let d = at_most 1000 p.refused in
    let first-four = left_is (a && b && c && d) _ e in
    let first_three = left_is (a && b && c) d first-four in
    let first_two = left_is (a && b) c first_three in
    record {
      seen_below = ltb-true p.seen 1000 (left_is a b first_two);
      frames_within = at_most_at 1000 p.frames (right_is a b first_two);
      octets_within = at_most_at 4095000 p.octets (right_is (a && b) c first_three);
      refused_within = at_most_at 1000 p.refused (right_is (a && b && c) d first-four);
      airtime_within = leb-true p.airtime 32952000 (right_is (a && b && c && d) _ e);
    }

pub limits_take : (p : Report) → Limits p → takes_more p ≡ true
unfolding takes_more
limits_take p w =
    simp (
      lt-ltb p.seen 1000 w.seen_below,
      at_most_all 1000 p.frames w.frames_within,
      at_most_all 4095000 p.octets w.octets_within,
      at_most_all 1000 p.refused w.refused_within,
      le-leb p.airtime 32952000 w.airtime_within,
    )

-- ---- nothing counted

pub none_counted : empty ≡ report_of []
unfolding report_of total closest_from tabulate
none_counted = refl

-- ---- a row with more at one entry

pub more_set : (k x : ℕ) (row : List ℕ) → more k x row ≡ set row k (get_or row k 0 + x)
unfolding more
more_set zero x [] = refl
more_set (suc k) x [] = refl
more_set zero x (y ∷ row) = refl
more_set (suc k) x (y ∷ row) = ap (λ (l : List ℕ). y ∷ l) (more_set k x row)

-- ---- recordings

pub length_recordings : (kinds : List ℕ) (list : List (List ℕ)) → length kinds ≡ length list
    → length (recordings kinds list) ≡ length list
unfolding recordings
length_recordings [] list e = e
length_recordings (k ∷ kinds) [] e = refl
length_recordings (k ∷ kinds) (chips ∷ list) e = ap suc (length_recordings kinds list (omega arith))

taken_next : (kinds : List ℕ) (list : List (List ℕ)) (i : ℕ) → i < length kinds → i < length list
    → take (suc i) (recordings kinds list)
    ≡ take i (recordings kinds list) ++ (record { kind = get_or kinds i 0; chips = get_or list i [] } ∷ [])
unfolding recordings
taken_next [] list i h l = absurd (not-suc-le-zero h)
taken_next (k ∷ kinds) [] i h l = absurd (not-suc-le-zero l)
taken_next (k ∷ kinds) (chips ∷ list) zero h l = refl
taken_next (k ∷ kinds) (chips ∷ list) (suc i) h l =
    ap (λ (rs : List Recording). record { kind = k; chips = chips } ∷ rs)
    (taken_next kinds list i (le_of_suc-le-suc h) (le_of_suc-le-suc l))

pub recordings_next : (kinds : List ℕ) (list : List (List ℕ)) (i : ℕ) → i < length kinds → i < length list
    → take (i + 1) (recordings kinds list)
    ≡ take i (recordings kinds list) ++ (record { kind = get_or kinds i 0; chips = get_or list i [] } ∷ [])
recordings_next kinds list i h l = rw add-one (taken_next kinds list i h l)
