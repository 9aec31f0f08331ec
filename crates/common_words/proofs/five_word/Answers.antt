-- The table's word for p1 = 0, turned.
use Rattle.std.proofs.Common.{◌%◌, [], get_or, ◌∙◌}
use Rattle.rules_symbols.proofs.Words.{five_table}
use Rattle.common_words.proofs.Octets.{bytes_together, five_sums}
use Rattle.common_words.proofs.five_word.Goals as goal

pub returns : goal.returns
returns c =
    let row = get_or five_table (c.args.d % 4) [] in
    record {
      answer = five_sums c.args.p1 c.args.d _ _ (c.from_le_bytes-w.ensures ∙ bytes_together row) c.quarters.ensures.answer;
    }
