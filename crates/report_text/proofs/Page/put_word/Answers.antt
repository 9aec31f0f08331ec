-- The word is copied behind what the page has. Assumes nothing.
use Rattle.std.proofs.Common.{arith}
use Rattle.report_text.proofs.Puts.{put_there}
use Rattle.report_text.proofs.Page.put_word.Goals as goal

pub returns : goal.returns
returns c =
    record {
      page = put_there c.args.word.now c.args.self.now.row _ c.args.self.now.end (omega arith)
          c.copy_from_slice.ensures.after;
    }
