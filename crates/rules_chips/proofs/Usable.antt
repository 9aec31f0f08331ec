-- Whether the chip at a place of a row of octets, or of two rows of f32, is unusable. Assumes nothing.
use mathlib.Core.Path.{◌≡◌, ap, ◌∙◌}
use mathlib.Core.Bool.{not}
use mathlib.Core.List.{List}
use Prim.Native.Nat.{ℕ, ◌<◌}
use lib.Dec.{leb}
use lib.ListN.{length, get_or}
use lib.Ieee.{Float, nan}
use Rattle.rules_chips.specs.Chips.{unusable, is_unusable, usable_sample, hard_recording, soft_recording}
use Rattle.rules_chips.proofs.Recorders.{sample, get_or_hard, unusable_hard, get_or_soft, unusable_soft}

pub hard_at : (xs : List ℕ) (k : ℕ) → k < length xs
    → is_unusable (get_or (hard_recording xs) k unusable) ≡ not (leb (get_or xs k 0) 4)
hard_at xs k h = ap is_unusable (get_or_hard xs k unusable 0 h) ∙ unusable_hard (get_or xs k 0)

pub soft_at : (xs ys : List Float) (k : ℕ) → k < length xs → k < length ys
    → is_unusable (get_or (soft_recording xs ys) k unusable) ≡ not (usable_sample (sample (get_or xs k nan) (get_or ys k nan)))
soft_at xs ys k h l =
    ap is_unusable (get_or_soft xs ys k unusable nan nan h l) ∙ unusable_soft (get_or xs k nan) (get_or ys k nan)
