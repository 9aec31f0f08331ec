-- The number's digits are those of what is left of it, and those put from i on; before the place where they begin and
-- from their end on nothing has changed. Assumes nothing.
use Rattle.std.proofs.Common.{◌≡◌, ◌-◌, ◌++◌, ◌≤◌, length, take, drop}
use lib.Seq.{slice}
use Rattle.rules_report.specs.Text.{digits}
use Rattle.report_text.proofs.put_digits.Given as goal

abbrev pub invariant-loop-i : goal.invariant-loop-i
invariant-loop-i l =
    (length l.row ≡ 980) × (l.at ≤ l.i) × (take l.at l.row ≡ take l.at l.fn.row)
    × (drop l.end l.row ≡ drop l.end l.fn.row)
    × (digits (l.end - l.at) l.x ≡ digits (l.i - l.at) l.rest ++ slice l.i l.end l.row)
