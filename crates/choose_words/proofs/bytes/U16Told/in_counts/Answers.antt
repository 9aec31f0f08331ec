use Rattle.std.proofs.Common.{rules}
use Rattle.choose_words.proofs.bytes.U16Told.in_counts.Goals as goal

pub returns : goal.returns
returns c = search rules
