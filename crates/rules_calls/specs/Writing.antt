-- Writing: refusals 1 to 6 in this order, the answer, and the chip buffer's final contents (RULES 5.14, 6.1, 6.4, 6.9,
-- 6.12, 6.14).
-- Definitions only. Assumes nothing.
use Rattle.std.specs.Prelude.{Result, Ok, Err, ℕ, ◌-◌, Bool, cond, not, List, ◌++◌, length, replicate, ltb, pos}
use Rattle.rules_rates.specs.Rates.{is_code, rate_of, is_payload}
use Rattle.rules_calls.specs.declared.Frame.{Frame}
use Rattle.rules_calls.specs.declared.Refusal.{Refusal}
use Rattle.rules_calls.specs.declared.Refusal.TheVariants.{
  NoKind,
  NoRate,
  ShortRate,
  PayloadSize,
  NoPhase,
  ChipRoom,
}
use Rattle.rules_frame.specs.Frame.{is_kind, kind_of, clock_of, goes_with, is_phase, frame, frame_chips}

-- kind, rate code and starting phase as numbers; n octets of payload; room for so many chips
unfoldable pub writing_of : ℕ → ℕ → ℕ → ℕ → ℕ → Result Frame Refusal
writing_of kind rate phase n room =
    cond (not (is_kind kind)) (Err NoKind)
    (cond (not (is_code rate)) (Err NoRate)
    (cond (not (goes_with (kind_of kind) (rate_of rate))) (Err ShortRate)
    (cond (not (is_payload (pos n))) (Err PayloadSize)
    (cond (not (is_phase phase)) (Err NoPhase)
    (cond (ltb room (frame_chips (kind_of kind) (rate_of rate) n)) (Err ChipRoom)
    (Ok (record {
      kind = kind_of kind;
      rate = rate_of rate;
      chips = frame_chips (kind_of kind) (rate_of rate) n;
    })))))))

-- chips past the frame are 4; after a refusal the chip buffer is 4s
abbrev pub chips_after : ℕ → Bool → List ℕ → ℕ → Result Frame Refusal → List ℕ
chips_after phase clock payload room (Err e) = replicate room 4
chips_after phase clock payload room (Ok f) = frame f.kind f.rate phase clock payload ++ replicate (room - f.chips) 4

-- what a write leaves in the chip buffer. The clock is any number and is refused by none
unfoldable pub chips_written : ℕ → ℕ → ℕ → ℕ → List ℕ → ℕ → List ℕ
chips_written kind rate phase clock payload room =
    chips_after phase (clock_of clock) payload room (writing_of kind rate phase (length payload) room)
