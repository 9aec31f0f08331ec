-- What is promised of the month's report beyond each contract (RULES 6.19, 6.20): that a report kept between calls has
-- the totals of the list of readings, in plain numbers; which numbers are answered; what one recording more makes of
-- any report; that a whole list gives the same; and the text. Statements speak of answers that the contracts allow
-- (Calls.antt) and of the hard reader's own answers on the recordings (`Readings`), so they are about the programs.
-- Definitions only. Assumes nothing.
use Rattle.std.specs.Prelude.{ℕ, ◌+◌, ◌-◌, ◌≤◌, ◌<◌, ◌≡◌, List, [], ◌∷◌, length, get_or, take, drop, replicate}
use Rattle.rules_calls.specs.declared.Record.{Record}
use Rattle.rules_report.specs.declared.Report.{Report}
use Rattle.rules_report.specs.declared.Counted.{Counted}
use Rattle.rules_report.specs.declared.Spelled.{Spelled}
use Rattle.rules_report.specs.Totals.{Recording, Outcome}
use Rattle.rules_report.specs.Report.{empty, Limits, recordings}
use Rattle.rules_report.specs.Shares.{
  rates,
  FullRows,
  FrameShare,
  OctetShare,
  RefusalShare,
  AirtimeShare,
  SumOf,
  OneMore,
}
use Rattle.rules_report.specs.Text.{text_of}
use Rattle.rules_report.specs.Said.{TextSaid, Fits}
use Rattle.promises.specs.Calls.{refused, ReadHard}
use Rattle.promises_report.specs.Calls.{Adds, Lists, Spells, Kept, Readings}

-- ---- the smallest lead

-- reading j of a list was accepted, with this lead
pub record FrameAt (os : List Outcome) (j lead : ℕ) : Type 0 where
  pub there : j < length os
  pub good : (get_or os j (record { kind = 0; answer = refused 1 0 })).answer.number ≡ 0
  pub lead_is : (get_or os j (record { kind = 0; answer = refused 1 0 })).answer.lead ≡ lead

-- none, if no frame was accepted; else the smallest lead, 0 too, of the first recording that has it
pub data LeadTold (os : List Outcome) : ℕ → ℕ → ℕ → Type 0 where
  no_frame : ((j lead : ℕ) → FrameAt os j lead → ⊥) → LeadTold os 0 0 0
  smallest : (lead recording : ℕ) → FrameAt os recording lead
      → ((j other : ℕ) → FrameAt os j other → lead ≤ other)
      → ((j other : ℕ) → FrameAt os j other → j < recording → lead < other)
      → LeadTold os 1 lead recording

-- ---- the totals of a list of readings

unfoldable pub sum_of : List ℕ → ℕ
sum_of [] = 0
sum_of (x ∷ xs) = x + sum_of xs

pub record TotalsOf (os : List Outcome) (p : Report) : Type 0 where
  pub seen_is : p.seen ≡ length os
  pub rows_are : FullRows p
  pub frames_are : (j : ℕ) → j < 4 → SumOf (FrameShare (get_or rates j 0)) os (get_or p.frames j 0)
  pub octets_are : (j : ℕ) → j < 4 → SumOf (OctetShare (get_or rates j 0)) os (get_or p.octets j 0)
  pub refused_are : (number : ℕ) → number < 18 → SumOf (RefusalShare number) os (get_or p.refused number 0)
  pub airtime_is : SumOf AirtimeShare os p.airtime
  pub lead_is : LeadTold os p.some p.lead p.recording
  -- frames and refusals together are the recordings counted; only 1 and 8 to 16 are met
  pub together : sum_of p.frames + sum_of p.refused ≡ p.seen
  pub never : (number : ℕ) → (number ≡ 1 → ⊥) → (8 ≤ number → 16 < number) → get_or p.refused number 0 ≡ 0

-- promise: A report kept between calls, each with it as the last one left it, has the totals of the first 1,000
-- readings, in plain numbers over the hard reader's own answers: seen, frames and octets of each rate,
-- refusals of each number, airtime, the smallest lead and the first recording that has it, none where no frame was
-- accepted; frames and refusals together are those seen; only 1 and 8 to 16 are met
-- rule: 6.19, 9.3
-- code: dsss_report_add, dsss_read_hard_3
-- with: Kept, Readings, TotalsOf, LeadTold, SumOf
abbrev pub ReportKept : Type 0
ReportKept =
    (rs : List Recording) (os : List Outcome) (p : Report) → Readings rs os → Kept rs p → TotalsOf (take 1000 os) p

-- promise: Each of the first 1,000 is answered with 0, whatever its reading; then 31, and the report stays as it stood
-- rule: 6.19
-- code: dsss_report_add
abbrev pub KeptAnswers : Type 0
KeptAnswers =
    (rs : List Recording) (p : Report) (kind : ℕ) (chips : List ℕ) (c : Counted) → Kept rs p → Adds p kind chips c
    → (length rs < 1000 → c.number ≡ 0) × (1000 ≤ length rs → c ≡ record { number = 31; report = p })

-- promise: Any report whatever: within the limits, in plain numbers, 0, and it grows by what the reader's answer counts
-- for; else 31, and it stays as it stood
-- rule: 6.19
-- code: dsss_report_add, dsss_read_hard_3
-- with: OneMore
abbrev pub AnyReport : Type 0
AnyReport =
    (p : Report) (kind : ℕ) (chips : List ℕ) (c : Counted) → Adds p kind chips c
    → (Limits p
    → (c.number ≡ 0)
    × ((a : Record) (left : List ℕ) → FullRows p → ReadHard kind chips 4095 a left
    → OneMore p (record { kind = kind; answer = a }) c.report))
    × ((Limits p → ⊥) → c ≡ record { number = 31; report = p })

-- promise: A whole list gives what calls one after the other give, 0 up to 1,000 recordings and 31 above; 7 and all
-- zeros where there are not as many kinds
-- rule: 6.13, 6.19
-- code: dsss_report_list, dsss_report_add, dsss_read_hard_3
abbrev pub ListAlike : Type 0
ListAlike =
    (kinds : List ℕ) (list : List (List ℕ)) (c : Counted) → Lists kinds list c
    → ((length kinds ≡ length list → ⊥) → c ≡ record { number = 7; report = empty })
    × (length kinds ≡ length list
    → (length list ≤ 1000 → c.number ≡ 0) × (1000 < length list → c.number ≡ 31)
    × ((p : Report) → Kept (recordings kinds list) p → c.report ≡ p)
    × ((os : List Outcome) → Readings (recordings kinds list) os → TotalsOf (take 1000 os) c.report))

-- promise: 980 octets hold the text of any report; the buffer keeps its length, zeros follow the text; with less room
-- than the text 17 and only zeros
-- rule: 6.13, 6.20
-- code: dsss_report_text
abbrev pub TextFills : Type 0
TextFills =
    (p : Report) (room : ℕ) (s : Spelled) (left : List ℕ) → Spells p room s left
    → (length left ≡ room)
    × (length (text_of p) ≤ room
    → (s.number ≡ 0) × (s.octets ≡ length (text_of p)) × (take s.octets left ≡ text_of p)
    × (drop s.octets left ≡ replicate (room - s.octets) 0))
    × (room < length (text_of p) → (s ≡ record { number = 17; octets = 0 }) × (left ≡ replicate room 0))
    × (980 ≤ room → s.number ≡ 0)

-- promise: The text says each line's words and the report's numbers by their decimal digits, for every report of
-- numbers of 64 bits
-- rule: 6.20
-- code: dsss_report_text
-- with: TextSaid
abbrev pub TextSays : Type 0
TextSays =
    (p : Report) (room : ℕ) (s : Spelled) (left : List ℕ) → Spells p room s left → Fits p → s.number ≡ 0
    → TextSaid p (take s.octets left)

-- promise: The contracts of the report's calls allow exactly one answer for each input, and one final text buffer
-- rule: 9.2
-- code: dsss_report_add, dsss_report_list, dsss_report_text
-- no test: a run shows one answer, not that no other is allowed
abbrev pub OneReport : Type 0
OneReport =
    ((p : Report) (kind : ℕ) (chips : List ℕ) (c c' : Counted) → Adds p kind chips c → Adds p kind chips c' → c ≡ c')
    × ((kinds : List ℕ) (list : List (List ℕ)) (c c' : Counted) → Lists kinds list c → Lists kinds list c' → c ≡ c')
    × ((p : Report) (room : ℕ) (s s' : Spelled) (left left' : List ℕ) → Spells p room s left → Spells p room s' left'
    → (s ≡ s') × (left ≡ left'))

-- ---- all of it
pub record ReportPromised : Type 0 where
  pub report_kept : ReportKept
  pub kept_answers : KeptAnswers
  pub any_report : AnyReport
  pub list_alike : ListAlike
  pub text_fills : TextFills
  pub text_says : TextSays
  pub one_report : OneReport
