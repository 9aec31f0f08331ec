-- The line before a frame's first symbol. Definitions only. Assumes nothing.
-- working notion: of the code that sends and hears frames; no promise needs it
use Rattle.std.specs.Prelude.{ℕ, ◌≡◌, [], ◌∷◌, ◌++◌}
use Rattle.rules_bits.specs.Code.{past_of}
use Rattle.rules_frame.specs.declared.Kind.{Kind}
use Rattle.rules_frame.specs.Frame.{start}
use Rattle.common_lines.specs.declared.Line.{Line}

-- the scrambler's start, and an eighth output that nothing depends on; the phase that the first symbol grows from
pub record Starts (k : Kind) (phase : ℕ) (l : Line) : Type 0 where
  pub at_phase : l.phase ≡ phase
  pub past : past_of l.past ≡ start k ++ (0 ∷ [])
