-- A piece and a line feed. Assumes nothing.
use Rattle.std.proofs.Common.{◌≡◌, ℕ, ◌++◌, length, arith}
use Prim.Native.Nat.{suc}
use lib.ListN.{length-append}
use Rattle.rules_report.specs.Text.{word, decimal, airtime_line}
use Rattle.report_text.proofs.Puts.{put_next}
use Rattle.report_text.proofs.Page.airtime_line.Goals as goal

size : (airtime : ℕ) → length (airtime_line airtime) ≡ suc (length (word "airtime " ++ decimal airtime))
unfolding word
size airtime = simp length-append (omega arith)

pub put_both-requires : goal.put_both-requires
unfolding word
put_both-requires c = omega (arith, size c.args.airtime)

pub end_line-requires : goal.end_line-requires
unfolding word
end_line-requires c = omega (arith, size c.args.airtime, c.put_both.ensures.page.stop)

pub returns : goal.returns
unfolding word
returns c = record { page = put_next c.put_both.ensures.page c.end_line.ensures.page }
