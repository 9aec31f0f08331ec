-- `read`: 1, 7, then what our own readers come to.
use mathlib.Core.Path.{sym, ◌∙◌}
use Rattle.read_frames.proofs.Order.{read_no_kind, read_rows, read_ours, as_long}
use Rattle.read_frames.proofs.read.Goals as goal

pub returns-then-not-is_kind : goal.returns-then-not-is_kind
returns-then-not-is_kind c =
    let h = read_no_kind _ _ _ _ _ (sym c.is_kind.ensures.answer ∙ c.if-not-is_kind.true) c.fill.ensures.row in
    record { answer = h.0; octets = h.1 }

pub returns-then-not-agree : goal.returns-then-not-agree
returns-then-not-agree c =
    let h = read_rows _ _ _ _ _ (sym c.is_kind.ensures.answer ∙ c.if-not-is_kind.false) c.if-not-agree.true c.fill.ensures.row in
    record { answer = h.0; octets = h.1 }

pub returns : goal.returns
returns c =
    let r = c.read_as.ensures in
    let h = read_ours _ _ _ _ (sym c.is_kind.ensures.answer ∙ c.if-not-is_kind.false) c.if-not-agree.false _
    c.kind_of-k.ensures.answer _ _ (as_long _ _ _ _ _ _ _ c.fill.auto.row (r.answer, r.octets)) in
    record { answer = h.0; octets = h.1 }
