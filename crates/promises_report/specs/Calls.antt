-- What the calls of the month's report promise: the records that their contracts in crate dsss cite, so that what is
-- proved of them is proved of the programs; and calls one after the other (RULES 6.19, 6.20, 9.1).
-- Definitions only. Assumes nothing.
use Rattle.std.specs.Prelude.{ℕ, ◌≡◌, List, [], ◌∷◌, ◌++◌}
use Rattle.rules_calls.specs.declared.Record.{Record}
use Rattle.promises.specs.Calls.{ReadHard}
use Rattle.rules_report.specs.declared.Report.{Report}
use Rattle.rules_report.specs.declared.Counted.{Counted}
use Rattle.rules_report.specs.declared.Spelled.{Spelled}
use Rattle.rules_report.specs.Totals.{Recording, Outcome}
use Rattle.rules_report.specs.Report.{empty, counted_of, list_of}
use Rattle.rules_report.specs.Text.{spelled_of, text_left}

-- one recording more: its answer
pub record Adds (report : Report) (kind : ℕ) (chips : List ℕ) (c : Counted) : Type 0 where
  -- promise: One recording more in a report answers the definition's record, for every report and recording
  -- rule: 6.19, 9.1
  -- code: dsss_report_add, report_count::add
  pub answer : c ≡ counted_of report (record { kind = kind; chips = chips })

-- a whole list: its answer
pub record Lists (kinds : List ℕ) (list : List (List ℕ)) (c : Counted) : Type 0 where
  -- promise: A whole list answers the definition's record, for every list and every row of kinds
  -- rule: 6.19, 9.1
  -- code: dsss_report_list, of_list
  pub answer : c ≡ list_of kinds list

-- the text: its answer, and the octet buffer of `room` octets at the end
pub record Spells (report : Report) (room : ℕ) (s : Spelled) (left : List ℕ) : Type 0 where
  -- promise: A report's text answers the definition's record, for every report and buffer
  -- rule: 6.20, 9.1
  -- code: dsss_report_text, report_text::text
  pub answer : s ≡ spelled_of report room
  -- promise: The octet buffer at the end is the text and then zeros; after a refusal only zeros
  -- rule: 6.20, 9.1
  -- code: dsss_report_text, report_text::text
  pub octets : left ≡ text_left report room

-- calls one after the other, each with the report as the last one left it, the first with all zeros; the recordings
-- that were handed in
pub data Kept : List Recording → Report → Type 0 where
  nothing_yet : Kept [] empty
  one_more : (rs : List Recording) (p : Report) (kind : ℕ) (chips : List ℕ) (c : Counted)
      → Kept rs p → Adds p kind chips c → Kept (rs ++ (record { kind = kind; chips = chips } ∷ [])) c.report

-- what the hard reader answers on each recording of a list, with room for 4,095 octets
pub data Readings : List Recording → List Outcome → Type 0 where
  none_read : Readings [] []
  one_read : (kind : ℕ) (chips : List ℕ) (a : Record) (left : List ℕ) (rs : List Recording) (os : List Outcome)
      → ReadHard kind chips 4095 a left → Readings rs os
      → Readings (record { kind = kind; chips = chips } ∷ rs) (record { kind = kind; answer = a } ∷ os)
