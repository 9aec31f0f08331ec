-- The chips of an accepted write have one source: reading them back tells rate, clock bit and payload, and the first
-- chip tells the starting phase, since the first scrambled bit is the same for every frame of a kind. And what the
-- starting phase does to all of them. Assumes nothing.
use mathlib.Core.Path.{◌≡◌, refl, sym, ap, ap₂, ◌∙◌, subst}
use mathlib.Core.Bool.{true}
use mathlib.Core.List.{List, ◌++◌, map}
use Prim.Native.Nat.{ℕ, ◌+◌, ◌-◌, ◌≤◌}
use native.Mathlib.Omega.{arith}
use lib.ListN.{length, take, drop, replicate, take-append-drop}
use lib.Seq.{take_at}
use Rattle.rules_rates.specs.Rates.{rate_of, length_field}
use Rattle.rules_chips.specs.Chips.{turned, hard_recording}
use Rattle.rules_frame.proofs.Begins.{frame_turned}
use Rattle.rules_calls.specs.declared.Written.{Written}
use Rattle.rules_calls.specs.declared.Record.{Record}
use Rattle.rules_frame.specs.Frame.{kind_of, clock_of}
use Rattle.rules_calls.specs.Answers.{record_of}
use Rattle.rules_reading.specs.Reading.{reading_of, octets_found}
use Rattle.promises.specs.Calls.{Read, Sent, of_hard, good, shown, sent_lead, sent_symbol}
use Rattle.promises.specs.Promises.{OneSource, PhaseTurns}
use Rattle.promises.proofs.Back.{back, taken}
use Rattle.promises.proofs.Begins.{first_chip}

module _ (kind rate phase clock : ℕ) (payload : List ℕ) (w : Written) (chips : List ℕ)
    (s : Sent kind rate phase clock payload w chips) where
  -- what a reading of all the chips answers, with room
  reads : (room : ℕ) → length payload ≤ room
      → (record_of (reading_of kind true (hard_recording chips) room)
      ≡ good rate (length_field (rate_of rate) (length payload)) (length payload) w.chips (shown clock)
      (sent_lead rate) (sent_symbol kind rate))
      × (octets_found kind true (hard_recording chips) room ≡ payload ++ replicate (room - length payload) 0)
  reads room h =
      back kind rate phase clock payload w chips s (length (drop w.chips chips)) room _ _
      (of_hard (drop w.chips chips) refl
      (subst
      (λ (l : List ℕ). Read kind true (hard_recording l) room (record_of (reading_of kind true (hard_recording chips) room))
      (octets_found kind true (hard_recording chips) room))
      (sym (take-append-drop w.chips chips)) (record { answer = refl; octets = refl })))
      h

pub one_source : OneSource
one_source kind rate rate' phase phase' clock clock' payload payload' w w' chips s t =
    let room = length payload + length payload' in
    let a = reads kind rate phase clock payload w chips s room (omega arith) in
    let b = reads kind rate' phase' clock' payload' w' chips t room (omega arith) in
    let both : good rate (length_field (rate_of rate) (length payload)) (length payload) w.chips (shown clock)
    (sent_lead rate) (sent_symbol kind rate)
    ≡ good rate' (length_field (rate_of rate') (length payload')) (length payload') w'.chips (shown clock')
    (sent_lead rate') (sent_symbol kind rate') = sym a.0 ∙ b.0 in
    let n : length payload ≡ length payload' = ap (λ (x : Record). x.n) both in (
      ap (λ (x : Record). x.rate) both,
      sym (first_chip kind rate phase clock payload w chips s)
          ∙ first_chip kind rate' phase' clock' payload' w' chips t,
      ap (λ (x : Record). x.clock) both,
      sym (take_at payload (replicate (room - length payload) 0) (length payload) refl)
          ∙ ap₂ {C = List ℕ} (λ j l. take j l) n (sym a.1 ∙ b.1)
          ∙ take_at payload' (replicate (room - length payload') 0) (length payload') refl,
    )

pub phase_turns : PhaseTurns
phase_turns kind rate phase clock payload w w' chips chips' s t =
    taken kind rate phase clock payload w chips s
    ∙ frame_turned (kind_of kind) (rate_of rate) phase (clock_of clock) payload s.sendable.phase_is
    ∙ ap (map (turned phase)) (sym (taken kind rate 0 clock payload w' chips' t))
