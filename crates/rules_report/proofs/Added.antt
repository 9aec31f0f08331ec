-- One reading more: what is added to a report kept is what the list's totals grow by.
--     added_more    a report of a list, with one reading more, is that of the list with it
-- Assumes nothing.
use mathlib.Core.Path.{◌≡◌, refl, sym, ap, ◌∙◌}
use mathlib.Core.Bool.{Bool, true, false, cond, ◌||◌}
use mathlib.Core.List.{List, [], ◌∷◌, ◌++◌, map}
use Rattle.std.specs.Prelude.{Option, None, Some}
use Prim.Native.Nat.compare
use Prim.Native.Nat.{ℕ, zero, suc, ◌+◌, ◌<◌}
use native.Mathlib.Nat.{add-zero, not-suc-le-zero, le_of_suc-le-suc, zero-add}
use native.Mathlib.Omega.{arith}
use borrow.Author.Tests.{ne_eqb, eqb-true}
use lib.Dec.{eqb, ltb, lit<}
use lib.ListN.{length, get_or, length-append}
use lib.Seq.{ext_get_or}
use Rattle.base.specs.Tables.{tabulate}
use Rattle.base.proofs.Tables.{length_tabulate, get_or_tabulate, tabulate_ext}
use Rattle.rules_rates.specs.declared.Rate.{Rate}
use Rattle.rules_rates.specs.declared.Rate.TheVariants.{One, Two, Five, Eleven}
use Rattle.rules_rates.specs.Rates.{code_of, rate_of}
use Rattle.rules_report.specs.Totals.{
  Outcome,
  total,
  accepted,
  accepted_at,
  refused_with,
  front_time,
  airtime_of,
  Closest,
  closest_from,
}
use Rattle.rules_report.specs.Report.{
  codes,
  is_there,
  lead_told,
  recording_told,
  report_of,
  more,
  rate_entry,
  entry_of,
  with_frame,
  with_refusal,
  added,
}
use Rattle.rules_report.proofs.Outcomes.{Fair}
use Rattle.rules_report.proofs.Laws.{total_more, behind, closest_more}

-- ---- a row with more at one entry

pub length_more : (k x : ℕ) (l : List ℕ) → length (more k x l) ≡ length l
unfolding more
length_more k x [] = refl
length_more zero x (y ∷ ys) = refl
length_more (suc k) x (y ∷ ys) = ap suc (length_more k x ys)

pub get_or_more : (k x : ℕ) (l : List ℕ) (j : ℕ) → j < length l → get_or (more k x l) j 0 ≡ get_or l j 0 + cond (eqb k j) x 0
unfolding more
get_or_more k x [] j h = absurd (not-suc-le-zero h)
get_or_more zero x (y ∷ ys) zero h = refl
get_or_more zero x (y ∷ ys) (suc j) h = rw (ne_eqb 0 (suc j) (λ z. omega arith)) (sym (add-zero _))
get_or_more (suc k) x (y ∷ ys) zero h = rw (ne_eqb (suc k) 0 (λ z. omega arith)) (sym (add-zero _))
get_or_more (suc k) x (y ∷ ys) (suc j) h = rw compare.suc-suc (get_or_more k x ys j (le_of_suc-le-suc h))

-- ---- rows of rates: frames count 1 each, octets n

pub entry_below : (code : ℕ) → entry_of code < 4
entry_below code = by (rate_of code)
  where
    by : (r : Rate) → rate_entry r < 4
    by One = lit< tt
    by Two = lit< tt
    by Five = lit< tt
    by Eleven = lit< tt

abbrev row : (Outcome → ℕ) → List Outcome → List ℕ
row g os = map (λ code. total (λ o. cond (accepted_at code o) (g o) 0) os) codes

row_more : (g : Outcome → ℕ) (os : List Outcome) (o : Outcome) (r : Rate) → o.answer.number ≡ 0
    → o.answer.rate ≡ code_of r → more (entry_of o.answer.rate) (g o) (row g os) ≡ row g (os ++ (o ∷ []))
unfolding more
row_more g os o One z e = simp (total_more, z, e, add-zero)
row_more g os o Two z e = simp (total_more, z, e, add-zero)
row_more g os o Five z e = simp (total_more, z, e, add-zero)
row_more g os o Eleven z e = simp (total_more, z, e, add-zero)

row_same : (g : Outcome → ℕ) (os : List Outcome) (o : Outcome) → accepted o ≡ false → row g os ≡ row g (os ++ (o ∷ []))
row_same g os o e = simp (total_more, e, add-zero)

-- ---- refusals by number

refused_more : (os : List Outcome) (o : Outcome) → accepted o ≡ false
    → more o.answer.number 1 (tabulate (λ k. refused_with k os) 18)
    ≡ tabulate (λ k. refused_with k (os ++ (o ∷ []))) 18
refused_more os o e =
    let l = tabulate (λ k. refused_with k os) 18 in
    let long : length l ≡ 18 = length_tabulate _ 18 in
    ext_get_or 0 _ _ (length_more _ 1 l ∙ long ∙ sym (length_tabulate _ 18))
    (λ j h. let below : j < 18 = omega (arith, h, length_more o.answer.number 1 l, long) in
    get_or_more o.answer.number 1 l j (omega (arith, long))
    ∙ ap (λ (n : ℕ). n + cond (eqb o.answer.number j) 1 0) (get_or_tabulate _ 18 j 0 below)
    ∙ sym (get_or_tabulate _ 18 j 0 below ∙ total_more _ os o ∙ simp e))

refused_same : (os : List Outcome) (o : Outcome) → accepted o ≡ true
    → tabulate (λ k. refused_with k os) 18 ≡ tabulate (λ k. refused_with k (os ++ (o ∷ []))) 18
refused_same os o e = tabulate_ext _ _ 18 (λ j h. sym (total_more _ os o ∙ simp (e, add-zero)))

-- ---- airtime

airtime_more : (os : List Outcome) (o : Outcome) → accepted o ≡ true
    → airtime_of os + (front_time o.kind + o.answer.length) ≡ airtime_of (os ++ (o ∷ []))
airtime_more os o e = simp (total_more, e)

airtime_same : (os : List Outcome) (o : Outcome) → accepted o ≡ false → airtime_of os ≡ airtime_of (os ++ (o ∷ []))
airtime_same os o e = simp (total_more, e, add-zero)

-- ---- the smallest lead

-- a frame more: what is kept is what is told of the list with it
module _ (lead at : ℕ) where
  abbrev taken : Option Closest → Bool
  taken c = eqb (is_there c) 0 || ltb lead (lead_told c)

  there_more : (c : Option Closest) → cond (taken c) 1 (is_there c) ≡ is_there (behind true lead at c)
  there_more None = refl
  there_more (Some c) = by (ltb lead c.lead)
    where
      by : (t : Bool) → cond {A = ℕ} t 1 1 ≡ 1
      by true = refl
      by false = refl

  lead_more : (c : Option Closest) → cond (taken c) lead (lead_told c) ≡ lead_told (behind true lead at c)
  lead_more None = refl
  lead_more (Some c) = by (ltb lead c.lead)
    where
      by : (t : Bool) → cond t lead c.lead ≡ (cond t (record { lead = lead; recording = at }) c).lead
      by true = refl
      by false = refl

  recording_more : (c : Option Closest)
      → cond (taken c) at (recording_told c) ≡ recording_told (behind true lead at c)
  recording_more None = refl
  recording_more (Some c) = by (ltb lead c.lead)
    where
      by : (t : Bool) → cond t at c.recording ≡ (cond t (record { lead = lead; recording = at }) c).recording
      by true = refl
      by false = refl

-- ---- a report kept

module _ (os : List Outcome) (o : Outcome) (fair : Fair o.answer) where
  seen_more : length os + 1 ≡ length (os ++ (o ∷ []))
  seen_more = sym (length-append os (o ∷ []))

  closest : (t : Bool) → accepted o ≡ t
      → closest_from 0 (os ++ (o ∷ [])) ≡ behind t o.answer.lead (length os) (closest_from 0 os)
  closest t e =
      closest_more 0 os o
      ∙ ap (λ (n : ℕ). behind (accepted o) o.answer.lead n (closest_from 0 os)) (zero-add (length os))
      ∙ ap (λ (s : Bool). behind s o.answer.lead (length os) (closest_from 0 os)) e

  with_frame_lem : accepted o ≡ true → with_frame (report_of os) o ≡ report_of (os ++ (o ∷ []))
  unfolding report_of
  with_frame_lem e =
      let zero_is : o.answer.number ≡ 0 = eqb-true o.answer.number 0 e in
      let c = closest_from 0 os in
      let now-is = sym (closest true e) in
      λ i. record {
        seen = seen_more i;
        frames = row_more (λ p. 1) os o fair.rate zero_is (fair.rate_is zero_is) i;
        octets = row_more (λ p. p.answer.n) os o fair.rate zero_is (fair.rate_is zero_is) i;
        refused = refused_same os o e i;
        airtime = airtime_more os o e i;
        some = (there_more o.answer.lead (length os) c ∙ ap is_there now-is) i;
        lead = (lead_more o.answer.lead (length os) c ∙ ap lead_told now-is) i;
        recording = (recording_more o.answer.lead (length os) c ∙ ap recording_told now-is) i;
      }

  with_refusal_lem : accepted o ≡ false → with_refusal (report_of os) o ≡ report_of (os ++ (o ∷ []))
  unfolding report_of
  with_refusal_lem e =
      let now-is = sym (closest false e) in
      λ i. record {
        seen = seen_more i;
        frames = row_same (λ p. 1) os o e i;
        octets = row_same (λ p. p.answer.n) os o e i;
        refused = refused_more os o e i;
        airtime = airtime_same os o e i;
        some = ap is_there now-is i;
        lead = ap lead_told now-is i;
        recording = ap recording_told now-is i;
      }

  -- promise: One reading more in a report kept is one more in every total; the smallest lead so far and one more
  -- rule: 6.19
  -- code: with_frame, with_refusal
  -- with: closest_more
  pub added_more : added (report_of os) o ≡ report_of (os ++ (o ∷ []))
  unfolding added
  added_more = by (accepted o) refl
    where
      by : (t : Bool) → accepted o ≡ t
          → cond t (with_frame (report_of os) o) (with_refusal (report_of os) o) ≡ report_of (os ++ (o ∷ []))
      by true e = with_frame_lem e
      by false e = with_refusal_lem e
