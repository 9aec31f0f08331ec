-- One offset after another: a front that tells ends the search, one that does not is passed over.
-- Assumes nothing.
use Rattle.rules_calls.specs.declared.Told.{Told}
use Rattle.rules_calls.specs.declared.Refusal.{Refusal}
use mathlib.Core.Path.{◌≡◌, refl, sym, ap, ◌∙◌, subst}
use mathlib.Core.List.{List}
use Rattle.std.specs.Prelude.{Result, Ok, Err}
use Prim.Native.Nat.{ℕ, ◌+◌, ◌<◌}
use lib.ListN.{drop}
use lib.Seq.{drop-drop}
use Rattle.rules_chips.specs.Chips.{Taken}
use Rattle.rules_frame.specs.declared.Kind.{Kind}
use Rattle.rules_reading.specs.Reading.{front_of}
use Rattle.rules_finding.specs.declared.NotFound.{NotFound}
use Rattle.rules_finding.specs.declared.NotFound.TheVariants.{NoStart}
use Rattle.rules_finding.specs.declared.Start.{Start}
use Rattle.rules_finding.specs.Finding.{start_or, first_start}
use Rattle.rules_finding.proofs.Laws.{Missed, AllMissed, start_found_lem, start_none}

-- a search that found something is none that did not
abbrev IsFound : Result Start NotFound → Type 0
IsFound (Err e) = ⊥
IsFound (Ok s) = Unit {0}

pub not_both : {f : Result Start NotFound} {e : NotFound} {s : Start} → f ≡ Ok s → f ≡ Err e → ⊥
not_both a b = subst IsFound (sym a ∙ b) tt

module _ (kind : Kind) (rec : List Taken) (at : ℕ) where
  abbrev try : ℕ → Result Told Refusal → Result Start NotFound
  try j f = start_or (at + j) f (Err NoStart)

  abbrev front_at : ℕ → Result Told Refusal
  front_at j = front_of kind (drop (at + j) rec)

  front_there : (j : ℕ) → front_of kind (drop j (drop at rec)) ≡ front_at j
  front_there j = ap (front_of kind) (drop-drop j at rec)

  -- a front that tells at the j-th
  pub seek_hit : (j count : ℕ) → j < count → AllMissed kind j (drop at rec) → (f : Result Start NotFound) (s : Start)
      → f ≡ Ok s → f ≡ try j (front_at j) → Ok s ≡ first_start kind at count (drop at rec)
  seek_hit j count h m f s a b = by (front_at j) refl
    where
      by : (x : Result Told Refusal) → front_at j ≡ x → Ok s ≡ first_start kind at count (drop at rec)
      by (Err r) e = absurd (not_both a (b ∙ ap {B = Result Start NotFound} (try j) e))
      by (Ok u) e =
          sym a ∙ b ∙ ap {B = Result Start NotFound} (try j) e
          ∙ sym (start_found_lem kind at count j (drop at rec) u h (front_there j ∙ e) m)

  -- none of so many has a mark
  pub seek_none : (count : ℕ) → ((j : ℕ) → j < count → Missed (front_at j))
      → Err NoStart ≡ first_start kind at count (drop at rec)
  seek_none count m =
      sym (start_none kind at count (drop at rec) (λ j l. subst Missed (sym (front_there j)) (m j l)))
