-- Uses of the statements about the month's report, as they are kept, so that none of them can be said of nothing and
-- none can lose a part; among them that a frame that was written is counted as what it is. Assumes nothing.
use mathlib.Core.Path.{◌≡◌, refl, sym, ap, subst, ◌∙◌}
use mathlib.Core.Bool.{true}
use mathlib.Core.List.{List, [], ◌∷◌, ◌++◌, map}
use Prim.Native.Nat.{ℕ, ◌+◌, ◌≤◌, ◌<◌}
use native.Mathlib.Nat.{add-zero}
use native.Mathlib.Decide.{dec_lt}
use native.Mathlib.Omega.{arith}
use lib.Dec.{lit≤}
use lib.ListN.{length, get_or, set, take, replicate}
use Rattle.rules_chips.specs.Chips.{hard_recording}
use Rattle.rules_rates.specs.declared.Rate.{Rate}
use Rattle.rules_rates.specs.declared.Rate.TheVariants.{One, Two, Five, Eleven}
use Rattle.rules_rates.specs.Rates.{code_of, rate_of}
use Rattle.rules_rates.specs.Plain.{LengthOf}
use Rattle.rules_calls.specs.declared.Written.{Written}
use Rattle.rules_calls.specs.declared.Record.{Record}
use Rattle.rules_reading.specs.Reading.{octets_found}
use Rattle.rules_report.specs.declared.Report.{Report}
use Rattle.rules_report.specs.declared.Counted.{Counted}
use Rattle.rules_report.specs.declared.Spelled.{Spelled}
use Rattle.rules_report.specs.Totals.{Recording, Outcome, outcome_of, total, front_time, closest_from}
use Rattle.rules_report.specs.Report.{empty, report_of, entry_of, added, counted_of, recordings, list_of}
use Rattle.rules_report.specs.Shares.{FullRows}
use Rattle.rules_report.specs.Text.{spelled_of, text_left}
use Rattle.rules_report.proofs.Outcomes.{fair}
use Rattle.rules_report.proofs.Shares.{
  frames_only,
  octets_only,
  refused_only,
  airtime_only,
  same_row,
  added_any,
  more_only,
}
use Rattle.promises.specs.Calls.{
  ReadHard,
  good,
  shown,
  sent_lead,
  sent_symbol,
  Goes,
  long_1,
  long_2,
  long_5,
  long_11,
  short_2,
  short_5,
  short_11,
  Sent,
  of_hard,
}
use Rattle.promises.proofs.Kept.{kept}
use Rattle.promises_report.specs.Calls.{
  Adds,
  Lists,
  Spells,
  Kept,
  nothing_yet,
  one_more,
  Readings,
  none_read,
  one_read,
}
use Rattle.promises_report.specs.Promises.{LeadTold, no_frame, smallest, sum_of, TotalsOf}
use Rattle.promises_report.proofs.Kept.{kept_report}
use Rattle.promises_report.proofs.Totals.{
  by_more,
  seen_of,
  frames_at_lem,
  octets_at_lem,
  refused_at_lem,
  airtime_at,
  rows_at,
  lead_at_lem,
}

-- ---- there are readings of any list: with one answer only, the contract is its definition
reading : (r : Recording) → ReadHard r.kind r.chips 4095 (outcome_of r).answer
    (octets_found r.kind true (hard_recording r.chips) 4095)
reading r = record { answer = refl; octets = refl }

reads : (rs : List Recording) → Readings rs (map outcome_of rs)
reads [] = none_read
reads (r ∷ rs) = one_read r.kind r.chips _ _ rs _ (reading r) (reads rs)

-- ---- and a report kept
pub record KeptOf (rs : List Recording) : Type 0 where
  report : Report
  is_kept : Kept rs report

-- one more
keep_one : (rs : List Recording) (r : Recording) → KeptOf rs → KeptOf (rs ++ (r ∷ []))
keep_one rs r k = record {
  report = (counted_of k.report r).report;
  is_kept =
      one_more rs k.report r.kind r.chips (counted_of k.report r) k.is_kept (record { answer = refl });
}

pub keeps : (rs : List Recording) → KeptOf rs
keeps rs = by_more KeptOf keep_one [] rs (record { report = empty; is_kept = nothing_yet })

-- ---- the totals of a list leave one report

-- no frame and none, or the first of those with the smallest lead
lead_only : (os : List Outcome) (s l r s' l' r' : ℕ) → LeadTold os s l r → LeadTold os s' l' r'
    → (s ≡ s') × (l ≡ l') × (r ≡ r')
lead_only os _ _ _ _ _ _ (no_frame none) (no_frame _) = (refl, refl, refl)
lead_only os _ _ _ _ _ _ (no_frame none) (smallest l' r' g _ _) = absurd (none r' l' g)
lead_only os _ _ _ _ _ _ (smallest l r f _ _) (no_frame none) = absurd (none r l f)
lead_only os _ _ _ _ _ _ (smallest l r f low first) (smallest l' r' g low' first') =
    let same : l ≡ l' = omega (arith, low r' l' g, low' r l f) in
    (refl, same, by (dec_lt r r') (dec_lt r' r))
  where
    by : Dec (r < r') → Dec (r' < r) → r ≡ r'
    by (yes h) d = absurd (omega (arith, first' r l f h, low r' l' g))
    by (no n) (yes h) = absurd (omega (arith, first r' l' g h, low' r l f))
    by (no n) (no m) = omega arith

pub totals_only : (os : List Outcome) (p : Report) → TotalsOf os p → p ≡ report_of os
totals_only os p t =
    let q = report_of os in
    let rows = t.rows_are in
    let lead = lead_only os _ _ _ _ _ _ t.lead_is (lead_at_lem os) in
    λ i. record {
      seen = (t.seen_is ∙ sym (seen_of os)) i;
      frames = same_row 4 p.frames q.frames rows.frames_four (rows_at os).frames_four frames i;
      octets = same_row 4 p.octets q.octets rows.octets_four (rows_at os).octets_four octets i;
      refused =
          same_row 18 p.refused q.refused rows.refused_eighteen (rows_at os).refused_eighteen refused i;
      airtime = (airtime_only os p.airtime t.airtime_is ∙ airtime_at os) i;
      some = lead.0 i;
      lead = lead.1 i;
      recording = lead.2 i;
    }
  where
    frames : (j : ℕ) → j < 4 → get_or p.frames j 0 ≡ get_or (report_of os).frames j 0
    frames j h = frames_only _ os _ (t.frames_are j h) ∙ frames_at_lem os j h

    octets : (j : ℕ) → j < 4 → get_or p.octets j 0 ≡ get_or (report_of os).octets j 0
    octets j h = octets_only _ os _ (t.octets_are j h) ∙ octets_at_lem os j h

    refused : (j : ℕ) → j < 18 → get_or p.refused j 0 ≡ get_or (report_of os).refused j 0
    refused j h = refused_only j os _ (t.refused_are j h) ∙ refused_at_lem os j h

-- ---- the report of one frame alone

code_is : {kind rate front octet : ℕ} → Goes kind rate front octet → rate ≡ code_of (rate_of rate)
code_is long_1 = refl
code_is long_2 = refl
code_is long_5 = refl
code_is long_11 = refl
code_is short_2 = refl
code_is short_5 = refl
code_is short_11 = refl

abbrev alone : ℕ → ℕ → ℕ → ℕ → ℕ → ℕ → ℕ → ℕ → List Outcome
alone kind rate l n used clock lead symbol =
    record { kind = kind; answer = good rate l n used clock lead symbol } ∷ []

pub record OneFrame (kind rate l n lead : ℕ) (p : Report) : Type 0 where
  pub one_seen : p.seen ≡ 1
  pub its_frames : p.frames ≡ set (replicate 4 0) (entry_of rate) 1
  pub its_octets : p.octets ≡ set (replicate 4 0) (entry_of rate) n
  pub none_refused : (number : ℕ) → number < 18 → get_or p.refused number 0 ≡ 0
  pub its_airtime : p.airtime ≡ front_time kind + l
  pub there_is : p.some ≡ 1
  pub its_lead : p.lead ≡ lead
  pub its_recording : p.recording ≡ 0

module _ (kind l n used clock lead symbol : ℕ) where
  abbrev of_rate : ℕ → Report
  of_rate code = report_of (alone kind code l n used clock lead symbol)

  rows : (r : Rate) → ((of_rate (code_of r)).frames ≡ set (replicate 4 0) (entry_of (code_of r)) 1)
      × ((of_rate (code_of r)).octets ≡ set (replicate 4 0) (entry_of (code_of r)) n)
  unfolding report_of total
  rows One = (refl, simp add-zero)
  rows Two = (refl, simp add-zero)
  rows Five = (refl, simp add-zero)
  rows Eleven = (refl, simp add-zero)

  one_frame : (r : Rate) → OneFrame kind (code_of r) l n lead (of_rate (code_of r))
  unfolding report_of total closest_from
  one_frame r = record {
    one_seen = refl;
    its_frames = (rows r).0;
    its_octets = (rows r).1;
    none_refused = λ number h. sym (refused_at_lem (alone kind (code_of r) l n used clock lead symbol) number h);
    its_airtime = add-zero _;
    there_is = refl;
    its_lead = refl;
    its_recording = refl;
  }

-- ---- a frame that was written, behind it anything, is counted: its rate, octets, airtime and lead, and nothing else
module _ (kind rate phase clock : ℕ) (payload : List ℕ) (w : Written) (chips : List ℕ)
    (s : Sent kind rate phase clock payload w chips) (l : ℕ) (d : LengthOf rate (length payload) l) (tail : List ℕ)
    (c : Counted) (a : Adds empty kind (take w.chips chips ++ tail) c) where
  abbrev recording : Recording
  recording = record { kind = kind; chips = take w.chips chips ++ tail }

  abbrev answer : Record
  answer = (outcome_of recording).answer

  abbrev sent : Outcome
  sent =
      record {
        kind = kind;
        answer =
            good rate l (length payload) w.chips (shown clock) (sent_lead rate) (sent_symbol kind rate);
      }

  read : ReadHard kind (take w.chips chips ++ tail) 4095 answer
      (octets_found kind true (hard_recording (take w.chips chips ++ tail)) 4095)
  read = record { answer = refl; octets = refl }

  is_sent : outcome_of recording ≡ sent
  is_sent =
      ap (λ (b : Record). record { kind = kind; answer = b })
      (kept.read_back kind rate phase clock payload w chips s l d (length tail) 4095 answer _
      (of_hard tail refl read) s.sendable.few).0

  counts : TotalsOf (sent ∷ []) c.report
  counts =
      kept_report.report_kept (recording ∷ []) (sent ∷ []) c.report
      (subst (λ (o : Outcome). Readings (recording ∷ []) (o ∷ [])) is_sent
      (one_read kind (take w.chips chips ++ tail) answer _ [] [] read none_read))
      (one_more [] empty kind (take w.chips chips ++ tail) c nothing_yet a)

  -- promise: A frame that was written, whatever follows it, counts as one frame of its rate with its octets, airtime
  -- and lead, and nothing refused
  -- rule: 1.4 (2), 6.19
  -- code: dsss_write_2, dsss_report_add
  pub sent_counted : (c.number ≡ 0)
      × OneFrame kind rate l (length payload) (sent_lead rate) c.report
  sent_counted =
      let e = code_is s.sendable.goes in
      let n = length payload in
      let clear = sent_lead rate in
      let at = sent_symbol kind rate in (
        (kept_report.kept_answers [] empty kind (take w.chips chips ++ tail) c nothing_yet a).0 (lit≤ tt),
        subst (OneFrame kind rate l n clear) (sym (totals_only (sent ∷ []) c.report counts))
            (subst
            (λ (code : ℕ). OneFrame kind code l n clear (of_rate kind l n w.chips (shown clock) clear at code))
            (sym e) (one_frame kind l n w.chips (shown clock) clear at (rate_of rate))),
      )

-- ---- any list of up to 1,000: its report is that of the readings themselves; of longer ones, that of the first 1,000
pub record Alike (os : List Outcome) (p : Report) : Type 0 where
  report_is : p ≡ report_of os
  all_counted : sum_of p.frames + sum_of p.refused ≡ length os
  no_0 : get_or p.refused 0 0 ≡ 0
  no_2_to_7 : (number : ℕ) → 2 ≤ number → number ≤ 7 → get_or p.refused number 0 ≡ 0
  no_17_up : (number : ℕ) → 17 ≤ number → get_or p.refused number 0 ≡ 0

alike : (os : List Outcome) (p : Report) → TotalsOf os p → Alike os p
alike os p t = record {
  report_is = totals_only os p t;
  all_counted = t.together ∙ t.seen_is;
  no_0 = t.never 0 (λ e. omega arith) (λ h. omega arith);
  no_2_to_7 = λ number low high. t.never number (λ e. omega arith) (λ h. omega arith);
  no_17_up = λ number low. t.never number (λ e. omega arith) (λ h. low);
}

pub month_counted : (rs : List Recording) (os : List Outcome) (p : Report) → Readings rs os → Kept rs p
    → Alike (take 1000 os) p
month_counted rs os p r k = alike (take 1000 os) p (kept_report.report_kept rs os p r k)

-- ---- whatever was handed in before, up to the 1,000th each is answered with 0, and from the next on with 31
pub one_answered : (rs : List Recording) (r : Recording) (c : Counted)
    → Adds (keeps rs).report r.kind r.chips c
    → (length rs < 1000 → c.number ≡ 0) × (1000 ≤ length rs → c ≡ record { number = 31; report = (keeps rs).report })
one_answered rs r c a =
    let answers = kept_report.kept_answers rs (keeps rs).report r.kind r.chips c (keeps rs).is_kept a in
    ((λ h. answers.0 (omega arith)), λ h. answers.1 (omega arith))

-- ---- a report with impossible numbers comes back as it stood; up to the limits, with one more and nothing else

module _ (p : Report) (kind : ℕ) (chips : List ℕ) (c : Counted) (adds : Adds p kind chips c)
    (four : length p.frames ≡ 4) (four-too : length p.octets ≡ 4) (eighteen : length p.refused ≡ 18) where
  abbrev handed : Recording
  handed = record { kind = kind; chips = chips }

  its_rows : FullRows p
  its_rows = record { frames_four = four; octets_four = four-too; refused_eighteen = eighteen }

  pub impossible : ((j : ℕ) → 1000 < get_or p.frames j 0 → c ≡ record { number = 31; report = p })
      × ((j : ℕ) → 4095000 < get_or p.octets j 0 → c ≡ record { number = 31; report = p })
      × ((j : ℕ) → 1000 < get_or p.refused j 0 → c ≡ record { number = 31; report = p })
      × (32952000 < p.airtime → c ≡ record { number = 31; report = p })
      × (1000 ≤ p.seen → c ≡ record { number = 31; report = p })
  impossible =
      let other = (kept_report.any_report p kind chips c adds).1 in (
        (λ j h. other (λ w. omega (arith, w.frames_within j))),
        (λ j h. other (λ w. omega (arith, w.octets_within j))),
        (λ j h. other (λ w. omega (arith, w.refused_within j))),
        (λ h. other (λ w. omega (arith, w.airtime_within))),
        λ h. other (λ w. omega (arith, w.seen_below)),
      )

  pub up_to_limits : p.seen ≤ 999 → ((j : ℕ) → get_or p.frames j 0 ≤ 1000)
      → ((j : ℕ) → get_or p.octets j 0 ≤ 4095000) → ((j : ℕ) → get_or p.refused j 0 ≤ 1000) → p.airtime ≤ 32952000
      → c ≡ record { number = 0; report = added p (outcome_of handed) }
  up_to_limits e f o r t =
      let within = (kept_report.any_report p kind chips c adds).0 (record {
        seen_below = omega arith;
        frames_within = f;
        octets_within = o;
        refused_within = r;
        airtime_within = omega arith;
      }) in
      let as-defined = added_any p (outcome_of handed) (fair handed) its_rows in
      let grown = more_only p (outcome_of handed) _ _ (within.1 _ _ its_rows (reading handed)) as-defined in
      λ i. record { number = within.0 i; report = grown i }

-- ---- a whole list
pub list_counted : (kinds : List ℕ) (list : List (List ℕ)) (c : Counted) → Lists kinds list c
    → length kinds ≡ length list
    → (length list ≤ 1000 → c.number ≡ 0) × (1000 < length list → c.number ≡ 31)
    × ((k : KeptOf (recordings kinds list)) → c.report ≡ k.report)
    × Alike (take 1000 (map outcome_of (recordings kinds list))) c.report
list_counted kinds list c l e =
    let all = (kept_report.list_alike kinds list c l).1 e in (
      (λ h. all.0 (omega arith)),
      (λ h. all.1 (omega arith)),
      (λ k. all.2 k.report k.is_kept),
      alike _ _ (all.3 (map outcome_of (recordings kinds list)) (reads (recordings kinds list))),
    )

pub list_refused : (kinds : List ℕ) (list : List (List ℕ)) (c : Counted) → Lists kinds list c
    → (length kinds < length list → c ≡ record { number = 7; report = empty })
    × (length list < length kinds → c ≡ record { number = 7; report = empty })
list_refused kinds list c l =
    let differ = (kept_report.list_alike kinds list c l).0 in
    ((λ h. differ (λ e. omega arith)), λ h. differ (λ e. omega arith))

-- ---- one answer
pub one_of_each : (p : Report) (kind : ℕ) (chips kinds : List ℕ) (list : List (List ℕ)) (c d : Counted) (s : Spelled)
    (left : List ℕ) → Adds p kind chips c → Lists kinds list d → Spells p 980 s left
    → (c ≡ counted_of p (record { kind = kind; chips = chips })) × (d ≡ list_of kinds list)
    × (s ≡ spelled_of p 980) × (left ≡ text_left p 980)
one_of_each p kind chips kinds list c d s left a l f =
    let texts = kept_report.one_report.2 p 980 s _ left _ f (record { answer = refl; octets = refl }) in (
      kept_report.one_report.0 p kind chips c _ a (record { answer = refl }),
      kept_report.one_report.1 kinds list d _ l (record { answer = refl }),
      texts.0,
      texts.1,
    )
