-- What a search for a front comes to.
--     start_past                 behind any number of fronts that do not tell
--     start_comes                the search ends at the first that tells, or none of them does
--     start_found_lem, start_none    and back
--     start_joined               a search goes on behind one that found nothing
--     short_missed, start_there  a recording shorter than a front; one that tells has a front's chips
--     offsets_are, offsets_tried, offsets_many              the numbers of offsets to try
--     finding_no_kind, finding_no_offsets, finding_first    1, 18, and the search
--     finding_comes              what all of it comes to: a refusal or a start, with what is then known
-- Assumes nothing.
use Rattle.rules_calls.specs.declared.Refusal.{Refusal}
use mathlib.Core.Path.{◌≡◌, refl, sym, ap, ◌∙◌, subst}
use mathlib.Core.Bool.{Bool, true, false}
use mathlib.Core.List.{List}
use Rattle.std.specs.Prelude.{Result, Ok, Err}
use Prim.Native.Nat.{ℕ, zero, suc, ◌+◌, ◌-◌, ◌≤◌, ◌<◌}
use native.Mathlib.Decide.{dec_le}
use native.Mathlib.Omega.{arith}
use borrow.Author.Tests.{leb-true, lt-ltb, le-leb, lt-leb}
use lib.Dec.{leb}
use lib.ListN.{length, drop, length-drop}
use lib.Seq.{drop-drop}
use Rattle.base.proofs.Tests.{left_is, right_is}
use Rattle.rules_chips.specs.Chips.{Taken}
use Rattle.rules_frame.specs.declared.Kind.{Kind}
use Rattle.rules_frame.specs.Frame.{is_kind, kind_of, front_chips}
use Rattle.rules_calls.specs.declared.Told.{Told}
use Rattle.rules_reading.specs.Reading.{front_by, front_of}
use Rattle.rules_reading.proofs.Places.{some_chips}
use Rattle.rules_finding.specs.declared.NotFound.{NotFound}
use Rattle.rules_finding.specs.declared.NotFound.TheVariants.{NoKind, NoOffsets, NoStart}
use Rattle.rules_finding.specs.declared.Start.{Start}
use Rattle.rules_finding.specs.Finding.{is_offsets, start_at, start_or, first_start, finding_of}

-- a front that meets one of 8 to 15
abbrev pub Missed : Result Told Refusal → Type 0
Missed (Err e) = Unit {0}
Missed (Ok t) = ⊥

pub missed_or : (at : ℕ) (f : Result Told Refusal) (next : Result Start NotFound) → Missed f → start_or at f next ≡ next
missed_or at (Err e) next h = refl
missed_or at (Ok t) next h = absurd h

drop_one : {A : Type 0} (n : ℕ) (xs : List A) → drop n (drop 1 xs) ≡ drop (suc n) xs
drop_one n xs = let e : 1 + n ≡ suc n = omega arith in drop-drop n 1 xs ∙ ap (λ (m : ℕ). drop m xs) e

module _ (k : Kind) where
  start_here : (at m : ℕ) (rec : List Taken) (t : Told) → front_of k rec ≡ Ok t
      → first_start k at (suc m) rec ≡ start_at at t
  unfolding first_start
  start_here at m rec t e = rw e

  start_next : (at m : ℕ) (rec : List Taken) → Missed (front_of k rec)
      → first_start k at (suc m) rec ≡ first_start k (suc at) m (drop 1 rec)
  unfolding first_start
  start_next at m rec h = missed_or at (front_of k rec) _ h

  -- the first n fronts meet one each
  abbrev pub AllMissed : ℕ → List Taken → Type 0
  AllMissed n rec = (j : ℕ) → j < n → Missed (front_of k (drop j rec))

  missed_behind : (n : ℕ) (rec : List Taken) → AllMissed (suc n) rec → AllMissed n (drop 1 rec)
  missed_behind n rec h j l =
      subst (λ (r : List Taken). Missed (front_of k r)) (sym (drop_one j rec)) (h (suc j) (omega arith))

  pub start_past : (at n m : ℕ) (rec : List Taken) → AllMissed n rec
      → first_start k at (n + m) rec ≡ first_start k (at + n) m (drop n rec)
  start_past at zero m rec h =
      let e : 0 + m ≡ m = omega arith in
      let f : at + 0 ≡ at = omega arith in
      rw (e, f) refl
  start_past at (suc n) m rec h =
      let e : suc n + m ≡ suc (n + m) = omega arith in
      let f : suc at + n ≡ at + suc n = omega arith in
      ap (λ (i : ℕ). first_start k at i rec) e
      ∙ start_next at (n + m) rec (h 0 (omega arith))
      ∙ start_past (suc at) n m (drop 1 rec) (missed_behind n rec h)
      ∙ ap (λ (i : ℕ). first_start k i m (drop n (drop 1 rec))) f
      ∙ ap (first_start k (at + suc n) m) (drop_one n rec)

  -- ---- where the search ends

  -- the first that tells, i offsets on
  pub record StartsAt (at m : ℕ) (rec : List Taken) (offset : ℕ) (t : Told) : Type 0 where
    pub i : ℕ
    pub offset_is : offset ≡ at + i
    pub below : i < m
    pub told_there : front_of k (drop i rec) ≡ Ok t
    pub before : AllMissed i rec

  abbrev pub StartIf : ℕ → ℕ → List Taken → Result Start NotFound → Type 0
  StartIf at m rec (Err e) = (e ≡ NoStart) × AllMissed m rec
  StartIf at m rec (Ok s) = StartsAt at m rec s.offset s.told

  missed_here : (n : ℕ) (rec : List Taken) → Missed (front_of k rec) → AllMissed n (drop 1 rec) → AllMissed (suc n) rec
  missed_here n rec h g zero l = h
  missed_here n rec h g (suc j) l =
      subst (λ (r : List Taken). Missed (front_of k r)) (drop_one j rec) (g j (omega arith))

  -- promise: What a search comes to, one search after another, and a recording shorter than a front
  -- rule: 6.17
  -- code: seek, find_start::search
  -- with: start_joined, short_missed, finding_comes
  pub start_comes : (at m : ℕ) (rec : List Taken) → StartIf at m rec (first_start k at m rec)
  unfolding first_start
  start_comes at zero rec = (refl, λ j l. absurd (omega arith))
  start_comes at (suc m) rec =
      by (front_of k rec) refl (first_start k (suc at) m (drop 1 rec)) (start_comes (suc at) m (drop 1 rec))
    where
      later : (f : Result Start NotFound) → Missed (front_of k rec) → StartIf (suc at) m (drop 1 rec) f
          → StartIf at (suc m) rec f
      later (Err e) h g = (g.0, missed_here m rec h g.1)
      later (Ok s) h g = record {
        i = suc g.i;
        offset_is = let e : suc at + g.i ≡ at + suc g.i = omega arith in g.offset_is ∙ e;
        below = omega (arith, g.below);
        told_there = ap (front_of k) (sym (drop_one g.i rec)) ∙ g.told_there;
        before = missed_here g.i rec h g.before;
      }

      by : (f : Result Told Refusal) → front_of k rec ≡ f → (next : Result Start NotFound) → StartIf (suc at) m (drop 1 rec) next
          → StartIf at (suc m) rec (start_or at f next)
      by (Ok t) e next g = record {
        i = 0;
        offset_is = let z : at ≡ at + 0 = omega arith in z;
        below = omega arith;
        told_there = e;
        before = λ j l. absurd (omega arith);
      }
      by (Err r) e next g = later next (subst Missed (sym e) tt) g

  pub start_found_lem : (at m i : ℕ) (rec : List Taken) (t : Told) → i < m → front_of k (drop i rec) ≡ Ok t
      → AllMissed i rec → first_start k at m rec ≡ start_at (at + i) t
  start_found_lem at m i rec t l e h =
      let n : ℕ = m - i - 1 in
      let s : m ≡ i + suc n = omega arith in
      ap (λ (x : ℕ). first_start k at x rec) s ∙ start_past at i (suc n) rec h ∙ start_here (at + i) n (drop i rec) t e

  pub start_none : (at m : ℕ) (rec : List Taken) → AllMissed m rec → first_start k at m rec ≡ Err NoStart
  start_none at m rec h = by (first_start k at m rec) (start_comes at m rec)
    where
      by : (f : Result Start NotFound) → StartIf at m rec f → f ≡ Err NoStart
      by (Err e) g = ap Err g.0
      by (Ok s) g = absurd (subst Missed g.told_there (h g.i g.below))

  -- ---- one search after another

  abbrev pub or_elsewhere : Result Start NotFound → Result Start NotFound → Result Start NotFound
  or_elsewhere (Err e) next = next
  or_elsewhere (Ok s) next = Ok s

  pub start_joined : (at m n : ℕ) (rec : List Taken)
      → first_start k at (m + n) rec
      ≡ or_elsewhere (first_start k at m rec) (first_start k (at + m) n (drop m rec))
  start_joined at m n rec = by (first_start k at m rec) (start_comes at m rec)
    where
      by : (f : Result Start NotFound) → StartIf at m rec f
          → first_start k at (m + n) rec ≡ or_elsewhere f (first_start k (at + m) n (drop m rec))
      by (Err e) g = start_past at m n rec g.1
      by (Ok s) g =
          start_found_lem at (m + n) g.i rec s.told (omega (arith, g.below)) g.told_there g.before
          ∙ ap (λ (x : ℕ). start_at x s.told) (sym g.offset_is)

  pub short_missed : (rec : List Taken) → length rec < front_chips k → Missed (front_of k rec)
  unfolding front_by
  short_missed rec h = rw (lt-ltb (length rec) (front_chips k) h) tt

  pub start_there : (i : ℕ) (rec : List Taken) (t : Told) → front_of k (drop i rec) ≡ Ok t
      → i + front_chips k ≤ length rec
  start_there i rec t e = by (dec_le (front_chips k) (length (drop i rec)))
    where
      by : Dec (front_chips k ≤ length (drop i rec)) → i + front_chips k ≤ length rec
      by (yes h) = omega (arith, h, length-drop i rec, some_chips k)
      by (no h) = absurd (subst Missed e (short_missed (drop i rec) (omega (arith, h))))

-- ---- the whole

-- 1 to 4,096 offsets to try, and none else
pub offsets_are : (n : ℕ) → is_offsets n ≡ true → (1 ≤ n) × (n ≤ 4096)
offsets_are n e = (leb-true 1 n (left_is _ _ e), leb-true n 4096 (right_is (leb 1 n) _ e))

pub offsets_tried : (n : ℕ) → 1 ≤ n → n ≤ 4096 → is_offsets n ≡ true
offsets_tried n some few = rw (le-leb 1 n some, le-leb n 4096 few)

pub offsets_many : (n : ℕ) → 4096 < n → is_offsets n ≡ false
offsets_many n h = rw (le-leb 1 n (omega arith), lt-leb n 4096 h)

-- a kind, and so many offsets to try
abbrev pub IsSearch : ℕ → ℕ → Type 0
IsSearch kind offsets = (is_kind kind ≡ true) × (is_offsets offsets ≡ true)

module _ (kind offsets : ℕ) (rec : List Taken) where
  abbrev k' : Kind
  k' = kind_of kind

  pub finding_no_kind : is_kind kind ≡ false → finding_of kind offsets rec ≡ Err NoKind
  unfolding finding_of
  finding_no_kind e = rw e

  pub finding_no_offsets : is_kind kind ≡ true → is_offsets offsets ≡ false
      → finding_of kind offsets rec ≡ Err NoOffsets
  unfolding finding_of
  finding_no_offsets e f = rw (e, f)

  pub finding_first : is_kind kind ≡ true → is_offsets offsets ≡ true
      → finding_of kind offsets rec ≡ first_start k' 0 offsets rec
  unfolding finding_of
  finding_first e f = rw (e, f)

  abbrev pub FindingIf : Result Start NotFound → Type 0
  FindingIf (Err NoKind) = is_kind kind ≡ false
  FindingIf (Err NoOffsets) = (is_kind kind ≡ true) × (is_offsets offsets ≡ false)
  FindingIf (Err NoStart) = IsSearch kind offsets × AllMissed k' offsets rec
  FindingIf (Ok s) = IsSearch kind offsets × StartsAt k' 0 offsets rec s.offset s.told

  pub finding_comes : FindingIf (finding_of kind offsets rec)
  finding_comes = by (is_kind kind) refl (is_offsets offsets) refl
    where
      searched : IsSearch kind offsets → (g : Result Start NotFound) → StartIf k' 0 offsets rec g → FindingIf g
      searched s (Err e) h = subst (λ (x : NotFound). FindingIf (Err x)) (sym h.0) (s, h.1)
      searched s (Ok t) h = (s, h)

      by : (a : Bool) → is_kind kind ≡ a → (b : Bool) → is_offsets offsets ≡ b → FindingIf (finding_of kind offsets rec)
      by false e b f = subst FindingIf (sym (finding_no_kind e)) e
      by true e false f = subst FindingIf (sym (finding_no_offsets e f)) (e, f)
      by true e true f =
          subst FindingIf (sym (finding_first e f))
          (searched (e, f) (first_start k' 0 offsets rec) (start_comes k' 0 offsets rec))
