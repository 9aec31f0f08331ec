-- The month's report (RULES 6.19): what it is of a list of readings, what one recording more makes of any report, and
-- what the two calls answer.
-- Definitions only. Assumes nothing.
use Rattle.std.specs.Prelude.{ℕ, zero, suc, ◌+◌, ◌≤◌, ◌<◌, Bool, true, cond, ◌&&◌, ◌||◌, List, [], ◌∷◌, map, length, get_or, take, replicate, eqb, ltb, leb, Option, None, Some}
use Rattle.base.specs.Tables.{tabulate}
use Rattle.rules_rates.specs.declared.Rate.{Rate}
use Rattle.rules_rates.specs.declared.Rate.TheVariants.{One, Two, Five, Eleven}
use Rattle.rules_rates.specs.Rates.{code_of, rate_of}
use Rattle.rules_report.specs.Totals.{
  Recording,
  Outcome,
  outcome_of,
  accepted,
  frames_at,
  octets_at,
  refused_with,
  front_time,
  airtime_of,
  Closest,
  closest_from,
}
use Rattle.rules_report.specs.declared.Report.{Report}
use Rattle.rules_report.specs.declared.Counted.{Counted}

-- ---- the report of a list of readings

-- the rates by their codes, rising
abbrev pub codes : List ℕ
codes = code_of One ∷ code_of Two ∷ code_of Five ∷ code_of Eleven ∷ []

-- whether there is a smallest lead, and what is told of it: lead 0 is a lead
abbrev pub is_there : Option Closest → ℕ
is_there None = 0
is_there (Some c) = 1

abbrev pub lead_told : Option Closest → ℕ
lead_told None = 0
lead_told (Some c) = c.lead

abbrev pub recording_told : Option Closest → ℕ
recording_told None = 0
recording_told (Some c) = c.recording

-- the report at first: all zeros. It is the report of no recording (`none_counted` of proofs/Lists.antt)
abbrev pub empty : Report
empty =
    record {
      seen = 0;
      frames = replicate 4 0;
      octets = replicate 4 0;
      refused = replicate 18 0;
      airtime = 0;
      some = 0;
      lead = 0;
      recording = 0;
    }

unfoldable pub report_of : List Outcome → Report
report_of os =
    record {
      seen = length os;
      frames = map (λ code. frames_at code os) codes;
      octets = map (λ code. octets_at code os) codes;
      refused = tabulate (λ number. refused_with number os) 18;
      airtime = airtime_of os;
      some = is_there (closest_from 0 os);
      lead = lead_told (closest_from 0 os);
      recording = recording_told (closest_from 0 os);
    }

-- ---- one recording more, whatever the report

-- a row with so much more at one entry
unfoldable pub more : ℕ → ℕ → List ℕ → List ℕ
more k x [] = []
more zero x (y ∷ ys) = (y + x) ∷ ys
more (suc k) x (y ∷ ys) = y ∷ more k x ys

-- the entry of a rate, by its code
abbrev pub rate_entry : Rate → ℕ
rate_entry One = 0
rate_entry Two = 1
rate_entry Five = 2
rate_entry Eleven = 3

abbrev pub entry_of : ℕ → ℕ
entry_of code = rate_entry (rate_of code)

-- a frame's lead is taken if none was before, or if it is smaller: so the first of equals stays
abbrev pub is_closer : Report → ℕ → Bool
is_closer p lead = eqb p.some 0 || ltb lead p.lead

abbrev pub with_frame : Report → Outcome → Report
with_frame p o =
    let a = o.answer in
    let closer = is_closer p a.lead in
    record {
      seen = p.seen + 1;
      frames = more (entry_of a.rate) 1 p.frames;
      octets = more (entry_of a.rate) a.n p.octets;
      refused = p.refused;
      airtime = p.airtime + (front_time o.kind + a.length);
      some = cond closer 1 p.some;
      lead = cond closer a.lead p.lead;
      recording = cond closer p.seen p.recording;
    }

abbrev pub with_refusal : Report → Outcome → Report
with_refusal p o =
    record {
      seen = p.seen + 1;
      frames = p.frames;
      octets = p.octets;
      refused = more o.answer.number 1 p.refused;
      airtime = p.airtime;
      some = p.some;
      lead = p.lead;
      recording = p.recording;
    }

unfoldable pub added : Report → Outcome → Report
added p o = cond (accepted o) (with_frame p o) (with_refusal p o)

-- ---- the calls

-- every number of a row is at most so much
unfoldable pub at_most : ℕ → List ℕ → Bool
at_most m [] = true
at_most m (x ∷ xs) = leb x m && at_most m xs

-- a report takes one more if it has seen fewer than 1,000, and no number in it is above what 1,000 recordings come to:
-- so many frames and refusals, 4,095 octets each, 192 microseconds and a LENGTH of 32,760 each
-- promise: the report has seen 1,000 recordings, or one of its numbers is above what 1,000 come to; of a list, it has
-- more than 1,000
-- rule: 6.4 (31), 6.19
-- code: takes_more, of_list
-- with: list_of
unfoldable pub takes_more : Report → Bool
takes_more p =
    ltb p.seen 1000 && at_most 1000 p.frames && at_most 4095000 p.octets && at_most 1000 p.refused
    && leb p.airtime 32952000

-- The same limits once more, in plain numbers, for what is promised of any report: a promise must not cite the test
-- that the code computes. `takes` and `limits_take` of proofs/Lists.antt join the two.
pub record Limits (p : Report) : Type 0 where
  pub seen_below : p.seen < 1000
  pub frames_within : (j : ℕ) → get_or p.frames j 0 ≤ 1000
  pub octets_within : (j : ℕ) → get_or p.octets j 0 ≤ 4095000
  pub refused_within : (j : ℕ) → get_or p.refused j 0 ≤ 1000
  pub airtime_within : p.airtime ≤ 32952000

-- 31: it takes no more, and stays as it stood. Else 0, though the recording's reading may be a refusal
unfoldable pub counted_of : Report → Recording → Counted
counted_of p r =
    cond (takes_more p) (record { number = 0; report = added p (outcome_of r) }) (record { number = 31; report = p })

-- recordings from a row of kinds and rows of chips
unfoldable pub recordings : List ℕ → List (List ℕ) → List Recording
recordings [] list = []
recordings (k ∷ kinds) [] = []
recordings (k ∷ kinds) (chips ∷ list) = record { kind = k; chips = chips } ∷ recordings kinds list

-- a whole list: 7 where there are not as many kinds as recordings, and nothing is counted; 31 where there are more than
-- 1,000, and the first 1,000 are counted
unfoldable pub list_of : List ℕ → List (List ℕ) → Counted
list_of kinds list =
    cond (eqb (length kinds) (length list))
    (record {
      number = cond (leb (length list) 1000) 0 31;
      report = report_of (map outcome_of (take 1000 (recordings kinds list)));
    })
    (record { number = 7; report = empty })
