-- `read_1997`: what such a guide reads of a hard recording under the long kind, as numbers.
use mathlib.Core.Path.{refl}
use Rattle.read_frames.proofs.Order.{read_of_1997, as_long, in_numbers}
use Rattle.read_frames.proofs.read_1997.Goals as goal

pub returns : goal.returns
returns c =
    let r = c.read_as-reading.ensures in
    let h = in_numbers c.record_of.ensures.answer
    (read_of_1997 _ refl _ _ _ _ (as_long _ _ _ _ _ _ _ c.fill.auto.row (r.answer, r.octets))) in
    record { answer = h.0; octets = h.1 }
