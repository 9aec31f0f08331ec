-- Nothing is put where the count is 0. Assumes nothing.
use Rattle.std.proofs.Common.{◌≡◌, ℕ, List, refl}
use borrow.Author.Tests.{eq-eqb, ne_eqb}
use Rattle.rules_report.specs.Text.{word, refused_line}
use Rattle.report_text.specs.Placed.{Placed, pair_line}
use Rattle.report_text.proofs.Puts.{put_none}
use Rattle.report_text.proofs.Page.refused_line.Goals as goal

none : (number count at : ℕ) (d : List ℕ) → count ≡ 0 → Placed (refused_line number count) at d at d
none number count at d h = rw (eq-eqb count 0 h) (put_none at at d refl)

met : (number count : ℕ) → (count ≡ 0 → ⊥) → refused_line number count
    ≡ pair_line (word "refused ") number (word " count ") count
met number count h = rw (ne_eqb count 0 h)

pub put_line-requires : goal.put_line-requires
unfolding word
put_line-requires c =
    let start = c.args in
    rw (met start.number start.count c.if-count-ne0.true) at c.requires

pub returns-then-count-ne0 : goal.returns-then-count-ne0
unfolding word
returns-then-count-ne0 c =
    let start = c.args in
    record { page = rw (met start.number start.count c.if-count-ne0.true) c.put_line.ensures.page }

pub returns-else-count-ne0 : goal.returns-else-count-ne0
returns-else-count-ne0 c = record { page = none _ _ _ _ c.if-count-ne0.false }
