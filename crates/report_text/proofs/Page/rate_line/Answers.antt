-- The line's first piece, and the rest. Assumes nothing.
use mathlib.Core.Path.{◌≡◌}
use mathlib.Core.List.{List, ◌++◌, append_assoc}
use Prim.Native.Nat.{ℕ, ◌+◌}
use native.Mathlib.Omega.{arith}
use lib.ListN.{length, length-append}
use Rattle.rules_report.specs.Text.{word, decimal, rate_line}
use Rattle.report_text.specs.Placed.{Placed, pair_line}
use Rattle.report_text.proofs.Puts.{put_next}
use Rattle.report_text.proofs.Page.rate_line.Goals as goal

size : (rate frames octets : ℕ) → length (rate_line rate frames octets)
    ≡ length (word "rate " ++ decimal rate) + length (pair_line (word " frames ") frames (word " octets ") octets)
size rate frames octets = simp length-append (omega arith)

line : (rate frames octets : ℕ) {at a r : ℕ} {d o e : List ℕ} → Placed (word "rate " ++ decimal rate) at d a o
    → Placed (pair_line (word " frames ") frames (word " octets ") octets) a o r e
    → Placed (rate_line rate frames octets) at d r e
line rate frames octets p q = simp append_assoc (simp append_assoc at (put_next p q))

pub put_both-requires : goal.put_both-requires
unfolding word
put_both-requires c =
    let start = c.args in
    omega (arith, size start.rate start.frames start.octets)

pub put_line-requires : goal.put_line-requires
unfolding word
put_line-requires c =
    let start = c.args in
    omega (arith, size start.rate start.frames start.octets, c.put_both.ensures.page.stop)

pub returns : goal.returns
unfolding word
returns c =
    let start = c.args in
    record { page = line start.rate start.frames start.octets c.put_both.ensures.page c.put_line.ensures.page }
