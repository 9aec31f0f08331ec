-- Demand 1's fills, from the contracts alone: what a write or a read leaves after its last chip or octet, and after a
-- refusal. By the cases of the enum answer; a good one holds the frame, or the payload, within its buffer. Assumes
-- nothing.
use mathlib.Core.Path.{◌≡◌, refl, sym, ap, ap₂, ◌∙◌}
use mathlib.Core.Bool.{Bool}
use mathlib.Core.List.{List}
use Prim.Native.Nat.{ℕ, ◌-◌, ◌≤◌}
use native.Mathlib.Omega.{arith}
use lib.ListN.{length, drop, replicate, length-append, length-replicate}
use lib.Seq.{drop_at}
use Rattle.std.specs.Prelude.{Result, Ok, Err}
use Rattle.rules_calls.specs.declared.Frame.{Frame}
use Rattle.rules_calls.specs.declared.Refusal.{Refusal}
use Rattle.rules_calls.specs.declared.Written.{Written}
use Rattle.rules_calls.specs.declared.Record.{Record}
use Rattle.rules_frame.specs.Frame.{frame, frame_chips, kind_of, clock_of}
use Rattle.rules_frame.proofs.Sizes.{frame_length}
use Rattle.rules_calls.specs.Answers.{written_of}
use Rattle.rules_calls.specs.Writing.{writing_of, chips_after, chips_written}
use Rattle.rules_reading.specs.Reading.{reading_of, octets_found}
use Rattle.rules_reading.proofs.Buffers.{reading_fits, filled_octets}
use Rattle.rules_calls.proofs.WriteGood.{accepted}
use Rattle.rules_calls.proofs.AnswerFacts.{some_number}
use Rattle.promises.specs.Promises.{WriteFills, ReadFills}

-- ---- writing
abbrev Fitting : ℕ → ℕ → Result Frame Refusal → Type 0
Fitting n room (Err e) = Unit {0}
Fitting n room (Ok f) = (f.chips ≡ frame_chips f.kind f.rate n) × (f.chips ≤ room)

fitting : (kind rate phase n room : ℕ) → Fitting n room (writing_of kind rate phase n room)
fitting kind rate phase n room = go (writing_of kind rate phase n room) refl
  where
    go : (g : Result Frame Refusal) → writing_of kind rate phase n room ≡ g → Fitting n room g
    go (Err e) h = tt
    go (Ok f) h = let a = accepted kind rate phase n room f h in (a.2, a.3)

filled_chips : (phase : ℕ) (clock : Bool) (payload : List ℕ) (room : ℕ) (g : Result Frame Refusal) → Fitting (length payload) room g
    → (length (chips_after phase clock payload room g) ≡ room)
    × (((written_of g).number ≡ 0 → ⊥) → chips_after phase clock payload room g ≡ replicate room 4)
    × ((written_of g).number ≡ 0
    → drop (written_of g).chips (chips_after phase clock payload room g) ≡ replicate (room - (written_of g).chips) 4)
filled_chips phase clock payload room (Err e) h =
    (length-replicate room 4, (λ z. refl), λ z. absurd (some_number e z))
filled_chips phase clock payload room (Ok f) h =
    let sent : List ℕ = frame f.kind f.rate phase clock payload in
    let rest : List ℕ = replicate (room - f.chips) 4 in
    let e : length sent ≡ f.chips = frame_length f.kind f.rate phase clock payload ∙ sym h.0 in
    let within : f.chips ≤ room = h.1 in (
      length-append sent rest ∙ omega (arith, length-replicate {A = ℕ} (room - f.chips) 4),
      (λ z. absurd (z refl)),
      λ z. drop_at sent rest f.chips e,
    )

pub write_fills : WriteFills
unfolding chips_written
write_fills kind rate phase clock payload room w left h =
    let f = filled_chips phase (clock_of clock) payload room (writing_of kind rate phase (length payload) room)
    (fitting kind rate phase (length payload) room) in (
      ap length h.chips ∙ f.0,
      (λ z. h.chips ∙ f.1 (λ y. z (ap (λ (v : Written). v.number) h.answer ∙ y))),
      λ z. ap₂ {C = List ℕ} (λ (v : Written) (l : List ℕ). drop v.chips l) h.answer h.chips
          ∙ f.2 (ap (λ (v : Written). v.number) (sym h.answer) ∙ z)
          ∙ ap (λ (v : Written). replicate (room - v.chips) 4) (sym h.answer),
    )

-- ---- reading
pub read_fills : ReadFills
unfolding octets_found
read_fills kind agree rec room a left h =
    let f = filled_octets (kind_of kind) rec room (reading_of kind agree rec room) (reading_fits kind agree rec room) in (
      ap length h.octets ∙ f.0,
      (λ z. h.octets ∙ f.1 (λ y. z (ap (λ (v : Record). v.number) h.answer ∙ y))),
      λ z. ap₂ {C = List ℕ} (λ (v : Record) (l : List ℕ). drop v.n l) h.answer h.octets
          ∙ f.2 (ap (λ (v : Record). v.number) (sym h.answer) ∙ z)
          ∙ ap (λ (v : Record). replicate (room - v.n) 0) (sym h.answer),
    )
