-- Every promise is kept. Assumes nothing.
use mathlib.Core.Path.{sym, ◌∙◌}
use Rattle.rules_frame.proofs.TableP.{table_p}
use Rattle.rules_chips.proofs.Meaning.{counted}
use Rattle.rules_clean.proofs.Rows.{soft_rows}
use Rattle.promises.specs.Calls.{to_write, to_read, to_read_front, to_hand, to_find}
use Rattle.promises.specs.Promises.{OneAnswer, Promised}
use Rattle.promises.proofs.Fills.{write_fills, read_fills}
use Rattle.promises.proofs.Only.{only_sent, only_readable, refused_shows}
use Rattle.promises.proofs.Never.{rows_refused, no_byte_unusable}
use Rattle.promises.proofs.Back.{written_frame, read_back, not_read_back}
use Rattle.promises.proofs.Begins.{sent_words, sent_begins}
use Rattle.promises.proofs.Source.{one_source, phase_turns}
use Rattle.promises.proofs.Refusing.{write_answers}
use Rattle.promises.proofs.Exactly.{read_answers}
use Rattle.promises.proofs.Decoded.{octets_decoded}
use Rattle.promises.proofs.Coming.{
  front_refused,
  refused_alike,
  front_told,
  told_alike,
  front_only,
  handed_part,
}
use Rattle.promises.proofs.SentTold.{sent_told_lem}
use Rattle.promises.proofs.Finding.{not_tried, start_found_lem, none_found}
use Rattle.promises.proofs.SentFound.{sent_found}
use Rattle.promises.proofs.Right.{recorded_right, rows_right}
use Rattle.promises.proofs.Leads.{least_told, rows_sure}

-- each contract is an equation with a definition
one_answer : OneAnswer
one_answer (to_write kind rate phase clock payload room) v v' f g =
    λ i. ((f.answer ∙ sym g.answer) i, (f.chips ∙ sym g.chips) i)
one_answer (to_read kind agree rec room) v v' f g =
    λ i. ((f.answer ∙ sym g.answer) i, (f.octets ∙ sym g.octets) i)
one_answer (to_read_front kind chips) c c' f g = f.answer ∙ sym g.answer
one_answer (to_hand c chips) part part' f g = f.chips_are ∙ sym g.chips_are
one_answer (to_find kind offsets chips) v v' f g = f.answer ∙ sym g.answer

pub kept : Promised
kept = record {
  write_fills = write_fills;
  read_fills = read_fills;
  write_answers = write_answers;
  read_answers = read_answers;
  octets_decoded = octets_decoded;
  only_sent = only_sent;
  only_readable = only_readable;
  refused_shows = refused_shows;
  rows_refused = rows_refused;
  no_byte_unusable = no_byte_unusable;
  written_frame = written_frame;
  sent_words = sent_words;
  sent_begins = sent_begins;
  read_back = read_back;
  not_read_back = not_read_back;
  one_source = one_source;
  phase_turns = phase_turns;
  soft_rows = soft_rows;
  half_a_count = counted;
  recorded_right = recorded_right;
  rows_right = rows_right;
  least_told = least_told;
  rows_sure = rows_sure;
  one_answer = one_answer;
  front_refused = front_refused;
  refused_alike = refused_alike;
  front_told = front_told;
  told_alike = told_alike;
  front_only = front_only;
  sent_told_lem = sent_told_lem;
  handed_part = handed_part;
  not_tried = not_tried;
  start_found_lem = start_found_lem;
  none_found = none_found;
  sent_found = sent_found;
  table_p = table_p;
}
