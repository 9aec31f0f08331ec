-- What is promised of the call that says why a read is refused, beside the hard reader's own answers (RULES 6.22).
-- Statements speak of answers that the contracts of both allow (`Explains`: Calls.antt, `ReadHard` of promises), so
-- they are about the programs. A room is any number, whether or not a buffer can have it.
-- Definitions only. Assumes nothing.
use Rattle.std.specs.Prelude.{ℕ, ◌≡◌, List}
use Rattle.rules_calls.specs.declared.Record.{Record}
use Rattle.promises.specs.Calls.{ReadHard}
use Rattle.rules_why.specs.declared.Reason.{Reason}
use Rattle.rules_why.specs.Why.{reason}
use Rattle.promises_why.specs.Calls.{Explains}
use Rattle.promises_why.specs.Table.{Table}

-- promise: The number and the place are those of the hard reader on the same recording, for every room; where it
-- accepts, all four numbers are 0
-- rule: 6.22
-- code: dsss_why, dsss_read_hard_3
abbrev pub WhyAgrees : Type 0
WhyAgrees =
    (kind : ℕ) (chips : List ℕ) (room : ℕ) (r : Reason) (a : Record) (left : List ℕ)
    → Explains kind chips room r → ReadHard kind chips room a left
    → (r.number ≡ a.number) × (r.place ≡ a.place) × (a.number ≡ 0 → r ≡ reason 0 0 0 0)

-- promise: What is expected and what is found are the numbers of the table, a row for each refusal, in plain numbers
-- and by what the symbols say; with the number and the place that are answered, the table allows no others
-- rule: 6.22, 5.3, 5.4, 5.10 to 5.13
-- code: dsss_why
-- with: Table
abbrev pub WhyTable : Type 0
WhyTable =
    (kind : ℕ) (chips : List ℕ) (room : ℕ) (r : Reason) → Explains kind chips room r
    → Table kind chips room r.number r.place r.expected r.found
    × ((expected found : ℕ) → Table kind chips room r.number r.place expected found
    → (expected ≡ r.expected) × (found ≡ r.found))

-- where both numbers are one: good reads, and two refusals that show 0 and 0, 13 of SIGNAL 0 and 15 of LENGTH 0
pub data Alike : Reason → Type 0 where
  all_zeros : Alike (reason 0 0 0 0)
  signal_0 : Alike (reason 13 0 0 0)
  length_0 : Alike (reason 15 0 0 0)

-- promise: What was expected and what was found differ for every refusal but two, 13 of SIGNAL 0 and 15 of LENGTH 0,
-- and these two show 0 and 0
-- rule: 6.22, 6.23
-- code: dsss_why
-- with: Alike
abbrev pub WhyDiffers : Type 0
WhyDiffers =
    (kind : ℕ) (chips : List ℕ) (room : ℕ) (r : Reason) → Explains kind chips room r
    → (r.expected ≡ r.found → Alike r)
    × (r.number ≡ 13 → r.found ≡ 0 → Alike r) × (r.number ≡ 15 → r.found ≡ 0 → Alike r)

-- promise: The contract of the call that says why allows exactly one answer for each input
-- rule: 9.2
-- code: dsss_why
-- no test: a run shows one answer, not that no other is allowed
abbrev pub OneReason : Type 0
OneReason =
    (kind : ℕ) (chips : List ℕ) (room : ℕ) (r s : Reason) → Explains kind chips room r → Explains kind chips room s
    → r ≡ s

-- ---- all of it
pub record WhyPromised : Type 0 where
  pub why_agrees : WhyAgrees
  pub why_table : WhyTable
  pub why_differs : WhyDiffers
  pub one_reason : OneReason
