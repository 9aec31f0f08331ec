-- The report of a list of recordings has the totals of its readings; frames and refusals together are as many as were
-- counted, by one recording more. Assumes nothing.
use mathlib.Core.Path.{◌≡◌, refl, sym, ap, ◌∙◌, subst}
use mathlib.Core.Bool.{Bool, true, false, cond, not, ◌&&◌}
use mathlib.Core.List.{List, [], ◌∷◌, ◌++◌, map, append_assoc, append-nil}
use Prim.Native.Nat.{ℕ, zero, suc, ◌+◌, ◌≤◌, ◌<◌}
use native.Mathlib.Nat.{not-suc-le-zero, le_of_suc-le-suc, zero-mul}
use native.Mathlib.Decide.{dec_lt}
use native.Mathlib.Omega.{arith}
use borrow.Author.Tests.{eqb-true, eq-eqb}
use lib.Dec.{T, eqb}
use lib.ListN.{length, get_or, get_or-eq_default}
use Rattle.base.specs.Tables.{tabulate}
use Rattle.base.proofs.Tables.{length_tabulate, get_or_tabulate}
use Rattle.base.proofs.Tests.{left_is, right_is}
use Rattle.rules_report.specs.declared.Report.{Report}
use Rattle.rules_report.specs.Totals.{
  Recording,
  Outcome,
  outcome_of,
  total,
  accepted,
  frames_at,
  octets_at,
  refused_with,
  airtime_of,
}
use Rattle.rules_report.specs.Report.{codes, report_of, more, entry_of, with_frame, with_refusal, added}
use Rattle.rules_report.specs.Shares.{rates, FullRows, FrameShare, OctetShare, RefusalShare, AirtimeShare, SumOf}
use Rattle.rules_report.proofs.Outcomes.{Fair, fair}
use Rattle.rules_report.proofs.Laws.{total_most}
use Rattle.rules_report.proofs.Added.{entry_below, length_more, added_more}
use Rattle.rules_report.proofs.Shares.{frames_sum, octets_sum, refused_sum, airtime_sum}
use Rattle.rules_report.proofs.Taking.{map_more, one_most}
use Rattle.promises_report.specs.Promises.{LeadTold, sum_of, TotalsOf}
use Rattle.promises_report.proofs.Lead.{lead_told_lem}

-- ---- frames and refusals together

sum_more : (k x : ℕ) (l : List ℕ) → k < length l → sum_of (more k x l) ≡ sum_of l + x
unfolding sum_of more
sum_more k x [] h = absurd (not-suc-le-zero h)
sum_more zero x (y ∷ l) h = omega arith
sum_more (suc k) x (y ∷ l) h = omega (arith, sum_more k x l (le_of_suc-le-suc h))

-- four rates, eighteen numbers, and as many counted as were seen
record Whole (p : Report) : Type 0 where
  rates : length p.frames ≡ 4
  numbers : length p.refused ≡ 18
  together : sum_of p.frames + sum_of p.refused ≡ p.seen

first_whole : Whole (report_of [])
unfolding report_of total tabulate sum_of
first_whole = record { rates = refl; numbers = refl; together = refl }

next_whole : (p : Report) (o : Outcome) → Fair o.answer → Whole p → Whole (added p o)
unfolding added
next_whole p o f w = by (accepted o)
  where
    by : (t : Bool) → Whole (cond t (with_frame p o) (with_refusal p o))
    by true = record {
      rates = length_more (entry_of o.answer.rate) 1 p.frames ∙ w.rates;
      numbers = w.numbers;
      together =
          let in_row : entry_of o.answer.rate < length p.frames = rw w.rates (entry_below o.answer.rate) in
          omega (arith, w.together, sum_more (entry_of o.answer.rate) 1 p.frames in_row);
    }
    by false = record {
      rates = w.rates;
      numbers = length_more o.answer.number 1 p.refused ∙ w.numbers;
      together =
          let in_row : o.answer.number < length p.refused = omega (arith, f.most, w.numbers) in
          omega (arith, w.together, sum_more o.answer.number 1 p.refused in_row);
    }

-- what holds of no recordings, and of one more, holds of any
pub by_more : (P : List Recording → Type 0) → ((rs : List Recording) (r : Recording) → P rs → P (rs ++ (r ∷ [])))
    → (rs qs : List Recording) → P rs → P (rs ++ qs)
by_more P h rs [] w = subst P (sym (append-nil rs)) w
by_more P h rs (q ∷ qs) w = subst P (append_assoc rs (q ∷ []) qs) (by_more P h (rs ++ (q ∷ [])) qs (h rs q w))

whole : (rs : List Recording) → Whole (report_of (map outcome_of rs))
whole rs =
    by_more (λ (qs : List Recording). Whole (report_of (map outcome_of qs)))
    (λ qs r w. subst Whole (added_more (map outcome_of qs) (outcome_of r) (fair r) ∙ ap report_of (map_more qs r))
    (next_whole (report_of (map outcome_of qs)) (outcome_of r) (fair r) w)) [] rs first_whole

-- ---- only 1 and 8 to 16 are met

never_met : (rs : List Recording) (number : ℕ) → (number ≡ 1 → ⊥) → (8 ≤ number → 16 < number)
    → refused_with number (map outcome_of rs) ≡ 0
never_met rs number not-1 outside =
    let none = total_most (λ o. cond (not (accepted o) && eqb o.answer.number number) 1 0) 0 one rs in
    omega (arith, none, zero-mul (length rs))
  where
    met : (n : ℕ) → n ≡ number → (n ≡ 0 → ⊥) → (2 ≤ n → 8 ≤ n) → n ≤ 16 → ⊥
    met zero e a b c = a refl
    met (suc zero) e a b c = not-1 (sym e)
    met (suc (suc n)) e a b c =
        let from-8 = b (omega arith) in omega (arith, e, c, outside (subst (λ (k : ℕ). 8 ≤ k) e from-8))

    one : (r : Recording) → cond (not (accepted (outcome_of r)) && eqb (outcome_of r).answer.number number) 1 0 ≤ 0
    one r =
        let n = (outcome_of r).answer.number in
        one_most (not (eqb n 0) && eqb n number) 1 0
        (λ e. absurd (met n (eqb-true n number (right_is (not (eqb n 0)) (eqb n number) e))
        (λ z. subst T (sym (left_is (not (eqb n 0)) (eqb n number) e) ∙ ap not (eq-eqb n 0 z)) tt)
        (fair r).least (fair r).most))

-- ---- all of it

-- the numbers of the report of a list
pub seen_of : (os : List Outcome) → (report_of os).seen ≡ length os
unfolding report_of
seen_of os = refl

rate_at_lem : (f : ℕ → ℕ) (j : ℕ) → j < 4 → f (get_or rates j 0) ≡ get_or (map f codes) j 0
rate_at_lem f zero h = refl
rate_at_lem f (suc zero) h = refl
rate_at_lem f (suc (suc zero)) h = refl
rate_at_lem f (suc (suc (suc zero))) h = refl
rate_at_lem f (suc (suc (suc (suc j)))) h = absurd (omega arith)

module _ (os : List Outcome) where
  pub frames_at_lem : (j : ℕ) → j < 4 → frames_at (get_or rates j 0) os ≡ get_or (report_of os).frames j 0
  unfolding report_of
  frames_at_lem j h = rate_at_lem (λ code. frames_at code os) j h

  pub octets_at_lem : (j : ℕ) → j < 4 → octets_at (get_or rates j 0) os ≡ get_or (report_of os).octets j 0
  unfolding report_of
  octets_at_lem j h = rate_at_lem (λ code. octets_at code os) j h

  pub refused_at_lem : (number : ℕ) → number < 18 → refused_with number os ≡ get_or (report_of os).refused number 0
  unfolding report_of
  refused_at_lem number h = sym (get_or_tabulate _ 18 number 0 h)

  pub airtime_at : airtime_of os ≡ (report_of os).airtime
  unfolding report_of
  airtime_at = refl

  pub rows_at : FullRows (report_of os)
  unfolding report_of
  rows_at = record { frames_four = refl; octets_four = refl; refused_eighteen = length_tabulate _ 18 }

  pub lead_at_lem : LeadTold os (report_of os).some (report_of os).lead (report_of os).recording
  unfolding report_of
  lead_at_lem = lead_told_lem os

pub totals_of : (rs : List Recording) → TotalsOf (map outcome_of rs) (report_of (map outcome_of rs))
totals_of rs =
    let os = map outcome_of rs in
    record {
      seen_is = seen_of os;
      rows_are = rows_at os;
      frames_are = λ j h. subst (SumOf (FrameShare (get_or rates j 0)) os) (frames_at_lem os j h) (frames_sum _ os);
      octets_are = λ j h. subst (SumOf (OctetShare (get_or rates j 0)) os) (octets_at_lem os j h) (octets_sum _ os);
      refused_are = λ k h. subst (SumOf (RefusalShare k) os) (refused_at_lem os k h) (refused_sum k os);
      airtime_is = subst (SumOf AirtimeShare os) (airtime_at os) (airtime_sum os);
      lead_is = lead_at_lem os;
      together = (whole rs).together;
      never = λ number a b. by number a b (dec_lt number 18);
    }
  where
    by : (number : ℕ) → (number ≡ 1 → ⊥) → (8 ≤ number → 16 < number) → Dec (number < 18)
        → get_or (report_of (map outcome_of rs)).refused number 0 ≡ 0
    by number a b (yes p) = sym (refused_at_lem (map outcome_of rs) number p) ∙ never_met rs number a b
    by number a b (no q) =
        get_or-eq_default (report_of (map outcome_of rs)).refused 0 {n = number} (omega (arith, (whole rs).numbers))
