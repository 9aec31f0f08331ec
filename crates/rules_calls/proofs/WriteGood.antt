-- What is not refused: a write that is accepted passed every test. Assumes nothing.
use mathlib.Core.Path.{◌≡◌, refl, sym, ◌∙◌}
use mathlib.Core.Bool.{Bool, true, false, cond, not}
use Prim.Native.Nat.{ℕ, ◌≤◌}
use lib.Dec.{ltb}
use lib.IntN.{pos}
use Rattle.std.specs.Prelude.{Result, Ok, Err}
use borrow.Author.Tests.{ltb-false, not-false}
use Rattle.rules_rates.specs.Rates.{is_code, rate_of, is_payload}
use Rattle.rules_rates.proofs.Lengths.{payload_high}
use Rattle.rules_frame.specs.Frame.{is_kind, kind_of, goes_with, is_phase, frame_chips}
use Rattle.rules_frame.proofs.Phases.{phase_most}
use Rattle.rules_calls.specs.declared.Refusal.{Refusal}
use Rattle.rules_calls.specs.declared.Frame.{Frame}
use Rattle.rules_calls.specs.Writing.{writing_of}

passed : (b : Bool) (e : Refusal) (x : Result Frame Refusal) (f : Frame) → cond b (Err e) x ≡ Ok f
    → (b ≡ false) × (x ≡ Ok f)
passed true e x f h = absurd (cc)
passed false e x f h = (refl, h)

pub accepted : (kind rate phase n room : ℕ) (f : Frame) → writing_of kind rate phase n room ≡ Ok f
    → (n ≤ 4095) × (phase ≤ 3) × (f.chips ≡ frame_chips f.kind f.rate n) × (f.chips ≤ room)
unfolding writing_of
accepted kind rate phase n room f h =
    let K = kind_of kind in
    let R = rate_of rate in
    let h3 = (passed (not (goes_with K R)) _ _ f
    (passed (not (is_code rate)) _ _ f (passed (not (is_kind kind)) _ _ f h).1).1).1 in
    let h4 = passed (not (is_payload (pos n))) _ _ f h3 in
    let h5 = passed (not (is_phase phase)) _ _ f h4.1 in
    let h6 = passed (ltb room (frame_chips K R n)) _ _ f h5.1 in
    let ek : K ≡ f.kind = cc h6.1 in
    let er : R ≡ f.rate = cc h6.1 in
    let ec : frame_chips K R n ≡ f.chips = cc h6.1 in (
      payload_high n (not-false _ h4.0),
      phase_most phase (not-false _ h5.0),
      sym ec ∙ rw (ek, er),
      rw (← ec) (ltb-false _ _ h6.0),
    )
