-- A long frame that stands its damage, read as a guide of 1997 reads it: our own long reader reads it back, and what
-- that accepts is what a guide reads alike, or refuses with 13 or 14 (`accepted_ours` of promises_1997). Assumes
-- nothing.
use mathlib.Core.Path.{◌≡◌, refl, sym, ap, ◌∙◌, subst}
use mathlib.Core.Bool.{true}
use mathlib.Core.List.{◌++◌}
use Prim.Native.Nat.{ℕ, zero, suc, ◌≤◌}
use native.Mathlib.Omega.{arith}
use lib.ListN.{length}
use Rattle.rules_chips.specs.Chips.{hard_recording}
use Rattle.rules_calls.specs.declared.Record.{Record}
use Rattle.rules_calls.specs.Answers.{record_of}
use Rattle.rules_calls.specs.Plain.{Rate1997}
use Rattle.rules_reading.specs.Reading.{reading_of, octets_found}
use Rattle.promises.specs.Calls.{good, refused, shown}
use Rattle.promises_1997.proofs.Exactly.{long_read}
use Rattle.promises_1997.proofs.Kept.{kept}
use Rattle.promises_damage.specs.Guides.{Spoiled1997}
use Rattle.promises_damage.proofs.SpoiledBack.{spoiled_read_back}

-- a clock that is not 0 is shown
shown_set : (clock : ℕ) → (clock ≡ 0 → ⊥) → shown clock ≡ 0 → ⊥
shown_set zero h e = h refl
shown_set (suc clock) h e = omega arith

pub spoiled_1997 : Spoiled1997
spoiled_1997 rate phase clock payload w chips s l d rec tail stands room a left h f =
    let heard = rec ++ tail in
    let b = record_of (reading_of 0 true (hard_recording heard) room) in
    let octets = octets_found 0 true (hard_recording heard) room in
    let g = long_read heard room in
    let told = (spoiled_read_back 0 rate phase clock payload w chips s l d rec tail stands room b octets g).0 h in
    let rate_is : b.rate ≡ rate = ap (λ (x : Record). x.rate) told.0 in
    let length_is : b.length ≡ l = ap (λ (x : Record). x.length) told.0 in
    let clock_is : b.clock ≡ shown clock = ap (λ (x : Record). x.clock) told.0 in
    let w97 = kept.accepted_ours heard room a b left octets f g (ap (λ (x : Record). x.number) told.0) in (
      (λ y c. let same = w97.0 (subst Rate1997 (sym rate_is) y) (clock_is ∙ ap shown c) in (
        subst
            (λ (v : Record). v ≡ good rate l (length payload) w.chips 0 v.lead v.symbol) (sym same.0)
            (told.0 ∙ ap (λ (z : ℕ). good rate l (length payload) w.chips (shown z) b.lead b.symbol) c),
        subst (λ (v : Record). 1024 ≤ v.lead) (sym same.0) told.1,
        same.1 ∙ told.2,
      )),
      (λ n. w97.1 (λ y. n (subst Rate1997 rate_is y)) ∙ ap (refused 13) length_is),
      λ y c. w97.2 (subst Rate1997 (sym rate_is) y) (λ z. shown_set clock c (sym clock_is ∙ z))
          ∙ ap (refused 14) length_is,
    )
