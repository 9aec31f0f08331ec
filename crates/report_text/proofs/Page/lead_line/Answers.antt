-- One line or the other. Assumes nothing.
use Rattle.std.proofs.Common.{◌≡◌, ℕ}
use borrow.Author.Tests.{eq-eqb, ne_eqb}
use Rattle.rules_report.specs.Text.{word, lead_line}
use Rattle.report_text.specs.Placed.{pair_line}
use Rattle.report_text.proofs.Page.lead_line.Goals as goal

none : (some lead recording : ℕ) → some ≡ 0 → lead_line some lead recording ≡ word "lead none\n"
none some lead recording h = rw (eq-eqb some 0 h)

there : (some lead recording : ℕ) → (some ≡ 0 → ⊥) → lead_line some lead recording
    ≡ pair_line (word "lead ") lead (word " recording ") recording
there some lead recording h = rw (ne_eqb some 0 h)

pub put_word-requires : goal.put_word-requires
unfolding word
put_word-requires c =
    let start = c.args in
    rw (none start.some start.lead start.recording c.if-some-eq0.true) at c.requires

pub put_line-requires : goal.put_line-requires
unfolding word
put_line-requires c =
    let start = c.args in
    rw (there start.some start.lead start.recording c.if-some-eq0.false) at c.requires

pub returns-then-some-eq0 : goal.returns-then-some-eq0
unfolding word
returns-then-some-eq0 c =
    let start = c.args in
    record { page = rw (none start.some start.lead start.recording c.if-some-eq0.true) c.put_word.ensures.page }

pub returns-else-some-eq0 : goal.returns-else-some-eq0
unfolding word
returns-else-some-eq0 c =
    let start = c.args in
    record { page = rw (there start.some start.lead start.recording c.if-some-eq0.false) c.put_line.ensures.page }
