-- Four pieces and a line feed, one behind the other. Assumes nothing.
use Rattle.std.proofs.Common.{◌≡◌, ℕ, ◌+◌, List, length, arith}
use Prim.Native.Nat.{suc}
use lib.ListN.{length-append}
use Rattle.rules_report.specs.Text.{word, decimal}
use Rattle.report_text.specs.Placed.{pair_line}
use Rattle.report_text.proofs.Puts.{put_next, put_pair}
use Rattle.report_text.proofs.Page.put_line.Goals as goal

size : (f s : List ℕ) (x y : ℕ) → length (pair_line f x s y)
    ≡ suc (length f + length (decimal x) + (length s + length (decimal y)))
unfolding word
size f s x y = simp length-append (omega arith)

pub put_both-requires : goal.put_both-requires
put_both-requires c =
    let start = c.args in
    omega (
      arith,
      size start.first.now start.second.now start.x start.y,
      length-append start.first.now (decimal start.x),
    )

pub end_line-requires : goal.end_line-requires
end_line-requires c =
    let start = c.args in
    omega (
      arith,
      size start.first.now start.second.now start.x start.y,
      length-append start.first.now (decimal start.x),
      length-append start.second.now (decimal start.y),
      c.put_both.ensures.page.stop,
      c.put_both-2.ensures.page.stop,
    )

pub returns : goal.returns
unfolding word
returns c =
    let start = c.args in
    let both = put_pair start.second.now (decimal start.y) c.put_both.ensures.page c.put_both-2.ensures.page in
    record { page = put_next both c.end_line.ensures.page }
