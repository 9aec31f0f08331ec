-- What one reading counts for (RULES 6.19), in plain numbers: in each total of a list of readings, and in any report
-- that it is added to. Stated beside the definitions that the code computes by (Totals.antt, Report.antt), and by
-- nothing of them but what a reading is, so that one counted wrongly anywhere is seen.
-- Definitions only. Assumes nothing.
use Rattle.std.specs.Prelude.{ℕ, ◌+◌, ◌≤◌, ◌<◌, ◌≡◌, List, [], ◌∷◌, length, get_or}
use Rattle.rules_report.specs.declared.Report.{Report}
use Rattle.rules_report.specs.Totals.{Outcome}

-- rows of rates go by their codes
abbrev pub rates : List ℕ
rates = 10 ∷ 20 ∷ 55 ∷ 110 ∷ []

-- four rates, and the numbers 0 to 17: the rows of every report in the machine
pub record FullRows (p : Report) : Type 0 where
  pub frames_four : length p.frames ≡ 4
  pub octets_four : length p.octets ≡ 4
  pub refused_eighteen : length p.refused ≡ 18

-- ---- the share of one reading

abbrev pub IsFrame : Outcome → Type 0
IsFrame o = o.answer.number ≡ 0

abbrev pub IsFrameAt : ℕ → Outcome → Type 0
IsFrameAt code o = IsFrame o × (o.answer.rate ≡ code)

-- so much where it is so, else nothing
abbrev pub OnlyIf : Type 0 → ℕ → ℕ → Type 0
OnlyIf P much x = (P → x ≡ much) × ((P → ⊥) → x ≡ 0)

-- in the frames of a rate, in their octets, and in the refusals of a number
abbrev pub FrameShare : ℕ → Outcome → ℕ → Type 0
FrameShare code o = OnlyIf (IsFrameAt code o) 1

abbrev pub OctetShare : ℕ → Outcome → ℕ → Type 0
OctetShare code o = OnlyIf (IsFrameAt code o) o.answer.n

abbrev pub RefusalShare : ℕ → Outcome → ℕ → Type 0
RefusalShare number o = OnlyIf ((IsFrame o → ⊥) × (o.answer.number ≡ number)) 1

-- in the airtime: a long front takes 192 microseconds, a short one 96, a payload LENGTH
pub record AirtimeShare (o : Outcome) (x : ℕ) : Type 0 where
  pub long : IsFrame o → o.kind ≡ 0 → x ≡ 192 + o.answer.length
  pub short : IsFrame o → (o.kind ≡ 0 → ⊥) → x ≡ 96 + o.answer.length
  pub refused : (IsFrame o → ⊥) → x ≡ 0

-- ---- the shares of a list of readings, together
pub data SumOf (Share : Outcome → ℕ → Type 0) : List Outcome → ℕ → Type 0 where
  no_share : SumOf Share [] 0
  and_share : (o : Outcome) (os : List Outcome) (x rest : ℕ) → Share o x → SumOf Share os rest
      → SumOf Share (o ∷ os) (x + rest)

-- ---- one reading more in any report

abbrev pub LeadIs : Report → ℕ → ℕ → ℕ → Type 0
LeadIs q some lead recording = (q.some ≡ some) × (q.lead ≡ lead) × (q.recording ≡ recording)

-- every number grows by the reading's share. A frame's lead is taken where none was kept or it is smaller than the one
-- kept, with the number of those seen before; else the three stay as they stood
pub record OneMore (p : Report) (o : Outcome) (q : Report) : Type 0 where
  pub seen_more : q.seen ≡ p.seen + 1
  pub rows_stay : FullRows q
  pub frames_more : (j x : ℕ) → j < 4 → FrameShare (get_or rates j 0) o x
      → get_or q.frames j 0 ≡ get_or p.frames j 0 + x
  pub octets_more : (j x : ℕ) → j < 4 → OctetShare (get_or rates j 0) o x
      → get_or q.octets j 0 ≡ get_or p.octets j 0 + x
  pub refused_more : (number x : ℕ) → number < 18 → RefusalShare number o x
      → get_or q.refused number 0 ≡ get_or p.refused number 0 + x
  pub airtime_more : (x : ℕ) → AirtimeShare o x → q.airtime ≡ p.airtime + x
  pub first_lead : IsFrame o → p.some ≡ 0 → LeadIs q 1 o.answer.lead p.seen
  pub smaller_lead : IsFrame o → o.answer.lead < p.lead → LeadIs q 1 o.answer.lead p.seen
  pub other_lead : IsFrame o → (p.some ≡ 0 → ⊥) → p.lead ≤ o.answer.lead
      → LeadIs q p.some p.lead p.recording
  pub no_lead : (IsFrame o → ⊥) → LeadIs q p.some p.lead p.recording
