-- What is not refused fits, and a refusal fills the buffer.
use Rattle.std.proofs.Common.{◌≡◌, ℕ, ◌++◌, ◌-◌, List, length, replicate, Result, Ok, Err, sym, ◌∙◌, arith}
use Rattle.rules_calls.specs.declared.Frame.{Frame}
use Rattle.rules_calls.specs.declared.Refusal.{Refusal}
use Rattle.rules_frame.specs.Frame.{clock_of, frame}
use Rattle.rules_calls.specs.Writing.{writing_of, chips_written}
use Rattle.rules_calls.proofs.WriteGood.{accepted}
use Rattle.write_frame.proofs.write.Goals as goal
use Rattle.write_frame.proofs.write.Goals.{in-Ok, in-Err}

refused : (kind rate phase clock m : ℕ) (xs z : List ℕ) (w : Result Frame Refusal) (e : Refusal)
    → w ≡ writing_of kind rate phase (length xs) m → w ≡ Err e → z ≡ replicate m 4
    → z ≡ chips_written kind rate phase clock xs m
unfolding chips_written
refused kind rate phase clock m xs z w e ew ee ez = rw (← ew, ee) ez

framed : (kind rate phase clock m : ℕ) (xs z : List ℕ) (w : Result Frame Refusal) (f : Frame)
    → w ≡ writing_of kind rate phase (length xs) m → w ≡ Ok f
    → z ≡ frame f.kind f.rate phase (clock_of clock) xs ++ replicate (m - f.chips) 4
    → z ≡ chips_written kind rate phase clock xs m
unfolding chips_written
framed kind rate phase clock m xs z w f ew ee ez = rw (← ew, ee) ez

pub overflow_cast-phase : goal.overflow_cast-phase
overflow_cast-phase c =
    let small = (accepted _ _ _ _ _ _ (sym c.check_write-writing.ensures.answer ∙ c.in-Ok.is)).1 in
    record { fits = omega arith }

pub put_frame-requires : goal.put_frame-requires
put_frame-requires c =
    let g = accepted _ _ _ _ _ _ (sym c.check_write-writing.ensures.answer ∙ c.in-Ok.is) in
    (g.0, g.2, g.3)

pub returns-clause-chips : goal.returns-clause-chips
returns-clause-chips c =
    elim c.match-writing.branch [
      | in-Ok w ↦ w.chips-is ∙ framed _ _ _ _ _ _ _ _ _ c.check_write-writing.ensures.answer w.in-Ok.is w.put_frame.ensures.chips
      | in-Err w ↦ w.chips-is ∙ refused _ _ _ _ _ _ _ _ _ c.check_write-writing.ensures.answer w.in-Err.is w.fill.ensures.row
    ]
