-- The number is put where the word ended. Assumes nothing.
use Rattle.std.proofs.Common.{arith}
use lib.ListN.{length-append}
use Rattle.rules_report.specs.Text.{decimal}
use Rattle.report_text.proofs.Puts.{put_next}
use Rattle.report_text.proofs.Page.put_both.Goals as goal

pub put_word-requires : goal.put_word-requires
put_word-requires c = omega (arith, length-append c.args.word.now (decimal c.args.x))

pub put_number-requires : goal.put_number-requires
put_number-requires c =
    omega (arith, length-append c.args.word.now (decimal c.args.x), c.put_word.ensures.page.stop)

pub returns : goal.returns
returns c = record { page = put_next c.put_word.ensures.page c.put_number.ensures.page }
