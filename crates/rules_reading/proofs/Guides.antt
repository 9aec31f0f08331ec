-- How a guide of 1997 reads, for every recording, beside our own readers under the long kind.
--     guide_front      8, 9 and 10 in the front, 11 and 12 alike; else 13 where SIGNAL is neither 10 nor 20, 14 where
--                      it is and SERVICE is not 0, and with SERVICE 0 all that ours come to
--     guide_alike      a front that tells both the same is read the same, and leaves the same octets
--     guide_refused    a front that is refused is the reading, and leaves zeros
-- By what readers have in common (`Readers`), and what three fields come to for a guide (`Guides` of rules_calls).
-- Assumes nothing.
use Rattle.std.specs.Prelude.{Result, Err}
use Rattle.rules_calls.specs.declared.Told.{Told}
use mathlib.Core.Path.{◌≡◌, refl, sym, ap, ◌∙◌, subst}
use mathlib.Core.Bool.{true}
use mathlib.Core.List.{List}
use Prim.Native.Nat.{ℕ, ◌≤◌}
use native.Mathlib.Decide.{ℕ_discrete}
use lib.ListN.{replicate}
use Rattle.rules_chips.specs.Chips.{Taken}
use Rattle.rules_frame.specs.declared.Kind.TheVariants.{Long}
use Rattle.rules_calls.specs.declared.Refusal.{Refusal}
use Rattle.rules_calls.specs.declared.Refusal.TheVariants.{Signal, Service}
use Rattle.rules_calls.specs.Answers.{refusal_number}
use Rattle.rules_calls.specs.Headers.{ours, of1997}
use Rattle.rules_calls.specs.Plain.{Rate1997, at_1, at_2}
use Rattle.rules_calls.proofs.Guides.{signal_neither, service_set, fields_ours}
use Rattle.rules_reading.specs.Heard.{signal_heard, service_heard, length_heard}
use Rattle.rules_reading.specs.Reading.{
  front_by,
  front_of,
  whole_of,
  after_front,
  reading_of,
  octets_after,
  octets_found,
}
use Rattle.rules_reading.specs.Guides.{reading1997, octets1997}
use Rattle.rules_reading.proofs.Refusals.{Sound, FrontRefusal}
use Rattle.rules_reading.proofs.Readers.{
  front_unsound,
  front_sound,
  SoundOrNot,
  is_sound,
  not_sound,
  sound_or_not,
}

module _ (rec : List Taken) where
  abbrev signal : ℕ
  signal = signal_heard Long rec

  abbrev service : ℕ
  service = service_heard Long rec

  -- what a front comes to for a guide, and why
  pub data GuideFront : Result Told Refusal → Type 0 where
    as_unsound : {e : Refusal} → FrontRefusal Long rec e → refusal_number e ≤ 12 → GuideFront (Err e)
    by_signal : Sound Long rec → (Rate1997 signal → ⊥) → GuideFront (Err (Signal (length_heard Long rec)))
    by_service : Sound Long rec → Rate1997 signal → (service ≡ 0 → ⊥)
        → GuideFront (Err (Service (length_heard Long rec)))
    as_ours : Sound Long rec → Rate1997 signal → service ≡ 0 → GuideFront (front_of Long rec)

  known : Dec (Rate1997 signal)
  known = by (ℕ_discrete signal 10) (ℕ_discrete signal 20)
    where
      neither : (signal ≡ 10 → ⊥) → (signal ≡ 20 → ⊥) → {s : ℕ} → signal ≡ s → Rate1997 s → ⊥
      neither a b e at_1 = a e
      neither a b e at_2 = b e

      by : Dec (signal ≡ 10) → Dec (signal ≡ 20) → Dec (Rate1997 signal)
      by (yes e) q = yes (subst Rate1997 (sym e) at_1)
      by (no a) (yes e) = yes (subst Rate1997 (sym e) at_2)
      by (no a) (no b) = no (neither a b refl)

  -- promise: How a guide of 1997 reads any recording: 8 to 12 for the front as our own long reader has them, 13 and 14
  -- by its own rates and SERVICE, and all else, with what is left in the buffer, as our own long reader has it
  -- rule: 6.30
  -- with: guide_alike, guide_refused
  pub guide_front : GuideFront (front_by of1997 Long rec)
  guide_front = by (sound_or_not Long rec)
    where
      of_fields : Sound Long rec → Dec (Rate1997 signal) → Dec (service ≡ 0) → GuideFront (front_by of1997 Long rec)
      of_fields s (no n) d =
          subst GuideFront (sym (front_sound Long rec s of1997 ∙ signal_neither Long _ _ _ n)) (by_signal s n)
      of_fields s (yes y) (no n) =
          subst GuideFront (sym (front_sound Long rec s of1997 ∙ service_set Long _ _ _ y n)) (by_service s y n)
      of_fields s (yes y) (yes z) =
          subst GuideFront
          (front_sound Long rec s ours ∙ sym (front_sound Long rec s of1997 ∙ fields_ours _ _ _ y z))
          (as_ours s y z)

      by : SoundOrNot Long rec → GuideFront (front_by of1997 Long rec)
      by (is_sound s) = of_fields s known (ℕ_discrete service 0)
      by (not_sound r n) = subst GuideFront (sym (front_unsound Long rec r n of1997)) (as_unsound r n)

  module _ (room : ℕ) where
    pub guide_alike : front_by of1997 Long rec ≡ front_of Long rec
        → (reading1997 rec room ≡ reading_of 0 true rec room) × (octets1997 rec room ≡ octets_found 0 true rec room)
    unfolding reading1997 octets1997 reading_of octets_found
    guide_alike e = (
      ap (λ (f : Result Told Refusal). after_front Long rec room (whole_of Long rec f)) e,
      ap (λ (f : Result Told Refusal). octets_after Long rec room (after_front Long rec room (whole_of Long rec f))) e,
    )

    pub guide_refused : (e : Refusal) → front_by of1997 Long rec ≡ Err e
        → (reading1997 rec room ≡ Err e) × (octets1997 rec room ≡ replicate room 0)
    unfolding reading1997 octets1997
    guide_refused e w = (
      ap (λ (f : Result Told Refusal). after_front Long rec room (whole_of Long rec f)) w,
      ap (λ (f : Result Told Refusal). octets_after Long rec room (after_front Long rec room (whole_of Long rec f))) w,
    )
