-- `Recording::skip_clean`: past a clean block the same is found.
use mathlib.Core.Path.{◌∙◌}
use native.Mathlib.Omega.{arith}
use Rattle.choose_recorders.specs.Rows.{taken_of}
use Rattle.choose_recorded.proofs.Search.{search_past}
use Rattle.choose_recorders.proofs.Recording.skip_clean.Goals as goal

pub loop-at-preserved : goal.loop-at-preserved
loop-at-preserved c =
    c.loop-at.invariant
    ∙ search_past (taken_of c.args.self) c.loop-at.at c.args.to 64 (omega (arith, c.if-to-at-ge64.true)) c.requires
    (c.clean.ensures.answer c.if-clean.true)
