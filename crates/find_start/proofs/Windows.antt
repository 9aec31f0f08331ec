-- 256 offsets after 256: what the marks say of fronts, where the search ends, and the halves that are carried on.
-- Assumes nothing.
use Rattle.rules_calls.specs.declared.Told.{Told}
use Rattle.rules_calls.specs.declared.Refusal.{Refusal}
use mathlib.Core.Path.{◌≡◌, refl, sym, ap, ◌∙◌, subst}
use mathlib.Core.List.{List}
use Rattle.std.specs.Prelude.{Result, Ok, Err}
use Prim.Native.Nat.{ℕ, ◌+◌, ◌-◌, ◌/◌, ◌%◌, ◌≤◌, ◌<◌, min}
use native.Mathlib.Nat.{zero-add}
use native.Mathlib.Decide.{dec_lt}
use native.Mathlib.Omega.{arith}
use lib.ListN.{length, get_or, drop, length-drop}
use lib.Seq.{drop-drop}
use Rattle.rules_chips.specs.Chips.{Taken}
use Rattle.rules_frame.specs.declared.Kind.{Kind}
use Rattle.rules_frame.specs.Frame.{sfd_of, front_chips}
use Rattle.rules_reading.specs.Reading.{front_of}
use Rattle.rules_reading.proofs.Places.{some_chips}
use Rattle.rules_finding.specs.declared.NotFound.{NotFound}
use Rattle.rules_finding.specs.declared.NotFound.TheVariants.{NoStart}
use Rattle.rules_finding.specs.declared.Start.{Start}
use Rattle.rules_finding.specs.Finding.{first_start}
use Rattle.rules_finding.proofs.Laws.{
  Missed,
  AllMissed,
  StartIf,
  start_past,
  start_comes,
  start_none,
  or_elsewhere,
  start_joined,
  short_missed,
}
use Rattle.find_sweep.specs.Sweep.{half_at, octet_at, sfd_from, Row, Marked}
use Rattle.find_sweep.proofs.Sfd.{sfd_low, sfd_high}
use Rattle.rules_finding.proofs.Seeks.{not_both}

module _ (kind : Kind) (rec : List Taken) where
  -- the fronts from offsets below both meet one of 8 to 15
  abbrev pub MissedBelow : ℕ → ℕ → Type 0
  MissedBelow at tried = (j : ℕ) → j < at → j < tried → Missed (front_of kind (drop j rec))

  module _ (at count from low high : ℕ) (marks : List ℕ) (m : Marked low high rec (from + at) count marks)
      (from_is : from ≡ sfd_from kind) (low-is : low ≡ sfd_of kind % 256) (high_is : high ≡ sfd_of kind / 256) where
    -- an offset without a mark has another SFD
    pub unmarked : (j : ℕ) → j < count → get_or marks j 0 ≡ 0 → Missed (front_of kind (drop (at + j) rec))
    unmarked j l z = by (front_of kind (drop (at + j) rec)) refl
      where
        by : (f : Result Told Refusal) → front_of kind (drop (at + j) rec) ≡ f → Missed f
        by (Err e) g = tt
        by (Ok t) g =
            let p : from + at + j ≡ at + j + sfd_from kind = omega (arith, from_is) in
            let q : from + at + j + 88 ≡ at + j + sfd_from kind + 88 = omega (arith, from_is) in
            m.each j l (ap (octet_at rec) p ∙ sfd_low rec (at + j) kind t g ∙ sym low-is)
            (ap (octet_at rec) q ∙ sfd_high rec (at + j) kind t g ∙ sym high_is) z

  module _ (at count offsets tried : ℕ) (f : Result Start NotFound) (found : f ≡ first_start kind at count (drop at rec))
      (missed : MissedBelow at tried) where
    -- a start ends the search
    pub window_hit : at + count ≤ tried → tried ≤ offsets → (s : Start) → f ≡ Ok s
        → Ok s ≡ first_start kind 0 offsets rec
    window_hit h l s e =
        let rest : ℕ = offsets - at - count in
        let split : offsets ≡ at + (count + rest) = omega arith in
        sym
        (ap (λ (n : ℕ). first_start kind 0 n rec) split
        ∙ start_past kind 0 at (count + rest) rec (λ j k. missed j k (omega arith))
        ∙ ap (λ (n : ℕ). first_start kind n (count + rest) (drop at rec)) (zero-add at)
        ∙ start_joined kind at count rest (drop at rec)
        ∙ ap {B = Result Start NotFound}
        (λ (g : Result Start NotFound). or_elsewhere kind g (first_start kind (at + count) rest (drop count (drop at rec))))
        (sym found ∙ e))

    -- no start: the next offsets meet one of 8 to 15 too
    pub window_miss : count ≡ min (tried - at) 256 → (e : NotFound) → f ≡ Err e → MissedBelow (at + 256) tried
    window_miss c e r j l k = by (dec_lt j at)
      where
        ends : (g : Result Start NotFound) → f ≡ g → StartIf kind at count (drop at rec) g
            → AllMissed kind count (drop at rec)
        ends (Err x) p s = s.1
        ends (Ok o) p s = absurd (not_both p r)

        all : AllMissed kind count (drop at rec)
        all = ends (first_start kind at count (drop at rec)) found (start_comes kind at count (drop at rec))

        by : Dec (j < at) → Missed (front_of kind (drop j rec))
        by (yes p) = missed j p k
        by (no p) =
            let d : at + (j - at) ≡ j = omega arith in
            subst (λ (r : List Taken). Missed (front_of kind r))
            (drop-drop (j - at) at rec ∙ ap (λ (n : ℕ). drop n rec) d)
            (all (j - at) (omega (arith, c)))

  -- offsets past those tried have no front behind them
  pub window_end : (at offsets tried : ℕ) → tried ≤ at → MissedBelow at tried
      → ((j : ℕ) → tried ≤ j → j < offsets → length rec < j + front_chips kind)
      → Err NoStart ≡ first_start kind 0 offsets rec
  window_end at offsets tried h missed short = sym (start_none kind 0 offsets rec (λ j l. by j l (dec_lt j tried)))
    where
      by : (j : ℕ) → j < offsets → Dec (j < tried) → Missed (front_of kind (drop j rec))
      by j l (yes p) = missed j (omega arith) p
      by j l (no p) =
          short_missed kind (drop j rec)
          (omega (arith, length-drop j rec, short j (omega arith) l, some_chips kind))

-- the halves that the next 256 offsets begin with
pub carried : (rec : List Taken) (from at count : ℕ) (halves after : List ℕ) → 256 ≤ count
    → Row (λ j. half_at rec (from + at + j)) (count + 253) halves → Row (λ j. get_or halves (j + 256) 0) 256 after
    → Row (λ j. half_at rec (from + (at + 256) + j)) 253 after
carried rec from at count halves after h p a = record {
  long = a.long;
  each = λ j l.
      let e : from + at + (j + 256) ≡ from + (at + 256) + j = omega arith in
      a.each j (omega arith) ∙ p.each (j + 256) (omega arith) ∙ ap (half_at rec) e;
}
