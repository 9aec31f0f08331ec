-- What one reading counts for, for every outcome, list and report, in plain numbers (RULES 6.19).
--     frames_sum, octets_sum, refused_sum, airtime_sum        a total is the sum of the readings' shares
--     frames_only, octets_only, refused_only, airtime_only    and their shares come to nothing else
--     added_any                                               one reading more in any report
--     more_only                                               what is said of that leaves one report
-- Assumes nothing.
use mathlib.Core.Path.{◌≡◌, refl, sym, ap, ◌∙◌, subst}
use mathlib.Core.Bool.{Bool, true, false, cond, not, ◌&&◌, ◌||◌}
use mathlib.Core.List.{List, [], ◌∷◌}
use Prim.Native.Nat.{ℕ, zero, suc, ◌+◌, ◌<◌}
use native.Mathlib.Decide.{dec_lt, ℕ_discrete}
use native.Mathlib.Omega.{arith}
use borrow.Author.Tests.{eqb-true, eq-eqb, ne_eqb, lt-ltb, le-ltb}
use lib.Dec.{T, eqb}
use lib.ListN.{length, get_or}
use lib.Seq.{ext_get_or}
use Rattle.base.proofs.Tests.{left_is, right_is}
use Rattle.rules_rates.specs.declared.Rate.{Rate}
use Rattle.rules_rates.specs.declared.Rate.TheVariants.{One, Two, Five, Eleven}
use Rattle.rules_rates.specs.Rates.{code_of}
use Rattle.rules_report.specs.declared.Report.{Report}
use Rattle.rules_report.specs.Totals.{
  Outcome,
  total,
  accepted,
  accepted_at,
  frames_at,
  octets_at,
  refused_with,
  airtime_of,
}
use Rattle.rules_report.specs.Report.{more, entry_of, is_closer, with_frame, with_refusal, added}
use Rattle.rules_report.specs.Shares.{
  rates,
  FullRows,
  IsFrame,
  IsFrameAt,
  OnlyIf,
  FrameShare,
  OctetShare,
  RefusalShare,
  AirtimeShare,
  SumOf,
  no_share,
  and_share,
  LeadIs,
  OneMore,
}
use Rattle.rules_report.proofs.Outcomes.{Fair}
use Rattle.rules_report.proofs.Added.{length_more, get_or_more}

-- ---- shares that a test decides

differ : false ≡ true → ⊥
differ e = subst T (sym e) tt

record Decides (P : Type 0) (t : Bool) : Type 0 where
  passes : P → t ≡ true
  so : t ≡ true → P

by_test : {P : Type 0} {t : Bool} (much : ℕ) → Decides P t → OnlyIf P much (cond t much 0)
by_test {t = true} much d = ((λ h. refl), λ n. absurd (n (d.so refl)))
by_test {t = false} much d = ((λ h. absurd (differ (d.passes h))), λ n. refl)

by_test_only : {P : Type 0} {t : Bool} (much x : ℕ) → Decides P t → OnlyIf P much x → x ≡ cond t much 0
by_test_only {t = true} much x d s = s.0 (d.so refl)
by_test_only {t = false} much x d s = s.1 (λ h. differ (d.passes h))

frame_decides : (code : ℕ) (o : Outcome) → Decides (IsFrameAt code o) (accepted_at code o)
frame_decides code o =
    let good = accepted o in
    let at-it = eqb o.answer.rate code in
    record {
      passes = λ h. rw (eq-eqb o.answer.number 0 h.0, eq-eqb o.answer.rate code h.1);
      so = λ e. (
        eqb-true o.answer.number 0 (left_is good at-it e),
        eqb-true o.answer.rate code (right_is good at-it e),
      );
    }

refusal_decides : (number : ℕ) (o : Outcome) → Decides ((IsFrame o → ⊥) × (o.answer.number ≡ number))
    (not (accepted o) && eqb o.answer.number number)
refusal_decides number o =
    let n = o.answer.number in
    let bad = not (accepted o) in
    record {
      passes = λ h. rw (ne_eqb n 0 h.0, eq-eqb n number h.1);
      so = λ e. (
        (λ z. differ (sym (ap not (eq-eqb n 0 z)) ∙ left_is bad (eqb n number) e)),
        eqb-true n number (right_is bad (eqb n number) e),
      );
    }

-- ---- airtime: every reading has a share in it, and one only

record Timed (o : Outcome) : Type 0 where
  much : ℕ
  is_share : AirtimeShare o much
  only : (x : ℕ) → AirtimeShare o x → x ≡ much

timed : (o : Outcome) → Timed o
timed o = by (ℕ_discrete o.answer.number 0) (ℕ_discrete o.kind 0)
  where
    by : Dec (o.answer.number ≡ 0) → Dec (o.kind ≡ 0) → Timed o
    by (yes z) (yes k) = record {
      much = 192 + o.answer.length;
      is_share = record { long = λ _ _. refl; short = λ _ m. absurd (m k); refused = λ n. absurd (n z) };
      only = λ x s. s.long z k;
    }
    by (yes z) (no m) = record {
      much = 96 + o.answer.length;
      is_share = record { long = λ _ k. absurd (m k); short = λ _ _. refl; refused = λ n. absurd (n z) };
      only = λ x s. s.short z m;
    }
    by (no n) k = record {
      much = 0;
      is_share = record { long = λ z. absurd (n z); short = λ z. absurd (n z); refused = λ _. refl };
      only = λ x s. s.refused n;
    }

-- ---- totals

sums : (Share : Outcome → ℕ → Type 0) (f : Outcome → ℕ) → ((o : Outcome) → Share o (f o)) → (os : List Outcome)
    → SumOf Share os (total f os)
unfolding total
sums Share f h [] = no_share
sums Share f h (o ∷ os) = and_share o os (f o) (total f os) (h o) (sums Share f h os)

sums_only : (Share : Outcome → ℕ → Type 0) (f : Outcome → ℕ) → ((o : Outcome) (x : ℕ) → Share o x → x ≡ f o)
    → (os : List Outcome) (n : ℕ) → SumOf Share os n → n ≡ total f os
unfolding total
sums_only Share f h _ _ no_share = refl
sums_only Share f h _ _ (and_share o os x rest s more) = omega (arith, h o x s, sums_only Share f h os rest more)

module _ (code : ℕ) (os : List Outcome) where
  -- promise: A total of a list is the sum of what each reading counts for, for every list and in plain numbers: a frame
  -- 1 in those of its rate, n in their octets, 192 or 96 and LENGTH in the airtime; a refusal 1 in those of its number
  -- rule: 6.19
  -- with: octets_sum, refused_sum, airtime_sum, SumOf
  pub frames_sum : SumOf (FrameShare code) os (frames_at code os)
  frames_sum = sums (FrameShare code) _ (λ o. by_test 1 (frame_decides code o)) os

  pub octets_sum : SumOf (OctetShare code) os (octets_at code os)
  octets_sum = sums (OctetShare code) _ (λ o. by_test o.answer.n (frame_decides code o)) os

  pub frames_only : (n : ℕ) → SumOf (FrameShare code) os n → n ≡ frames_at code os
  frames_only n s = sums_only (FrameShare code) _ (λ o x. by_test_only 1 x (frame_decides code o)) os n s

  pub octets_only : (n : ℕ) → SumOf (OctetShare code) os n → n ≡ octets_at code os
  octets_only n s =
      sums_only (OctetShare code) _ (λ o x. by_test_only o.answer.n x (frame_decides code o)) os n s

module _ (number : ℕ) (os : List Outcome) where
  pub refused_sum : SumOf (RefusalShare number) os (refused_with number os)
  refused_sum = sums (RefusalShare number) _ (λ o. by_test 1 (refusal_decides number o)) os

  pub refused_only : (n : ℕ) → SumOf (RefusalShare number) os n → n ≡ refused_with number os
  refused_only n s = sums_only (RefusalShare number) _ (λ o x. by_test_only 1 x (refusal_decides number o)) os n s

module _ (os : List Outcome) where
  pub airtime_sum : SumOf AirtimeShare os (airtime_of os)
  airtime_sum =
      sums AirtimeShare _
      (λ o. record {
        long = λ z k. rw (eq-eqb o.answer.number 0 z, eq-eqb o.kind 0 k);
        short = λ z k. rw (eq-eqb o.answer.number 0 z, ne_eqb o.kind 0 k);
        refused = λ n. rw (ne_eqb o.answer.number 0 n);
      })
      os

  pub airtime_only : (n : ℕ) → SumOf AirtimeShare os n → n ≡ airtime_of os
  airtime_only n s =
      let f : Outcome → ℕ = λ o. (timed o).much in
      let only : (o : Outcome) (x : ℕ) → AirtimeShare o x → x ≡ f o = λ o. (timed o).only in
      sums_only AirtimeShare f only os n s ∙ sym (sums_only AirtimeShare f only os (airtime_of os) airtime_sum)

-- ---- the entry of a rate

entry_code : (r : Rate) → code_of r ≡ get_or rates (entry_of (code_of r)) 0
entry_code One = refl
entry_code Two = refl
entry_code Five = refl
entry_code Eleven = refl

code_entry : (j : ℕ) → j < 4 → entry_of (get_or rates j 0) ≡ j
code_entry zero h = refl
code_entry (suc zero) h = refl
code_entry (suc (suc zero)) h = refl
code_entry (suc (suc (suc zero))) h = refl
code_entry (suc (suc (suc (suc j)))) h = absurd (omega arith)

-- ---- one reading more in any report

unchanged : (n x : ℕ) → x ≡ 0 → n ≡ n + x
unchanged n x e = omega arith

either_true : (t : Bool) → (t || true) ≡ true
either_true true = refl
either_true false = refl

module _ (p : Report) (o : Outcome) (fair : Fair o.answer) (rows : FullRows p) where
  -- a row of rates, with so much more for a frame at the entry of its rate
  rate_more : IsFrame o → (row : List ℕ) (much : ℕ) → length row ≡ 4 → (j x : ℕ) → j < 4
      → OnlyIf (IsFrameAt (get_or rates j 0) o) much x
      → get_or (more (entry_of o.answer.rate) much row) j 0 ≡ get_or row j 0 + x
  rate_more z row much four j x h s =
      get_or_more (entry_of o.answer.rate) much row j (omega arith)
      ∙ ap (λ (n : ℕ). get_or row j 0 + n) (by (ℕ_discrete o.answer.rate (get_or rates j 0)))
    where
      its_code : o.answer.rate ≡ get_or rates (entry_of o.answer.rate) 0
      its_code = rw (fair.rate_is z) (entry_code fair.rate)

      by : Dec (o.answer.rate ≡ get_or rates j 0) → cond (eqb (entry_of o.answer.rate) j) much 0 ≡ x
      by (yes e) =
          ap (λ (t : Bool). cond t much 0)
          (eq-eqb (entry_of o.answer.rate) j (ap entry_of e ∙ code_entry j h)) ∙ sym (s.0 (z, e))
      by (no n) =
          ap (λ (t : Bool). cond t much 0)
          (ne_eqb (entry_of o.answer.rate) j (λ e. n (its_code ∙ ap (λ (k : ℕ). get_or rates k 0) e)))
          ∙ sym (s.1 (λ w. n w.1))

  number_more : (IsFrame o → ⊥) → (k x : ℕ) → k < 18 → RefusalShare k o x
      → get_or (more o.answer.number 1 p.refused) k 0 ≡ get_or p.refused k 0 + x
  number_more bad k x h s =
      get_or_more o.answer.number 1 p.refused k (omega (arith, rows.refused_eighteen))
      ∙ ap (λ (n : ℕ). get_or p.refused k 0 + n) (by (ℕ_discrete o.answer.number k))
    where
      by : Dec (o.answer.number ≡ k) → cond (eqb o.answer.number k) 1 0 ≡ x
      by (yes e) = ap (λ (t : Bool). cond t 1 0) (eq-eqb o.answer.number k e) ∙ sym (s.0 (bad, e))
      by (no n) = ap (λ (t : Bool). cond t 1 0) (ne_eqb o.answer.number k n) ∙ sym (s.1 (λ w. n w.1))

  time_more : IsFrame o → (x : ℕ) → AirtimeShare o x → (with_frame p o).airtime ≡ p.airtime + x
  time_more z x s = by (ℕ_discrete o.kind 0)
    where
      by : Dec (o.kind ≡ 0) → (with_frame p o).airtime ≡ p.airtime + x
      by (yes k) = rw (s.long z k, eq-eqb o.kind 0 k)
      by (no m) = rw (s.short z m, ne_eqb o.kind 0 m)

  taken : is_closer p o.answer.lead ≡ true → LeadIs (with_frame p o) 1 o.answer.lead p.seen
  taken e = (rw e, rw e, rw e)

  kept : is_closer p o.answer.lead ≡ false → LeadIs (with_frame p o) p.some p.lead p.recording
  kept e = (rw e, rw e, rw e)

  frame_more : IsFrame o → OneMore p o (with_frame p o)
  frame_more z = record {
    seen_more = refl;
    rows_stay = record {
      frames_four = length_more (entry_of o.answer.rate) 1 p.frames ∙ rows.frames_four;
      octets_four = length_more (entry_of o.answer.rate) o.answer.n p.octets ∙ rows.octets_four;
      refused_eighteen = rows.refused_eighteen;
    };
    frames_more = rate_more z p.frames 1 rows.frames_four;
    octets_more = rate_more z p.octets o.answer.n rows.octets_four;
    refused_more = λ number x h s. unchanged (get_or p.refused number 0) x (s.1 (λ w. w.0 z));
    airtime_more = time_more z;
    first_lead = λ _ e. taken (rw (eq-eqb p.some 0 e));
    smaller_lead = λ _ h. taken (rw (lt-ltb o.answer.lead p.lead h) (either_true (eqb p.some 0)));
    other_lead = λ _ n h. kept (rw (ne_eqb p.some 0 n, le-ltb o.answer.lead p.lead h));
    no_lead = λ n. absurd (n z);
  }

  refusal_more : (IsFrame o → ⊥) → OneMore p o (with_refusal p o)
  refusal_more bad = record {
    seen_more = refl;
    rows_stay = record {
      frames_four = rows.frames_four;
      octets_four = rows.octets_four;
      refused_eighteen = length_more o.answer.number 1 p.refused ∙ rows.refused_eighteen;
    };
    frames_more = λ j x h s. unchanged (get_or p.frames j 0) x (s.1 (λ w. bad w.0));
    octets_more = λ j x h s. unchanged (get_or p.octets j 0) x (s.1 (λ w. bad w.0));
    refused_more = number_more bad;
    airtime_more = λ x s. unchanged p.airtime x (s.refused bad);
    first_lead = λ z. absurd (bad z);
    smaller_lead = λ z. absurd (bad z);
    other_lead = λ z. absurd (bad z);
    no_lead = λ _. (refl, refl, refl);
  }

  -- promise: One reading more in any report with four rates and 18 numbers: each number grows by what the reading
  -- counts for and no other; the lead is taken where there was none or it is smaller
  -- rule: 6.19
  -- code: with_frame, with_refusal
  -- with: OneMore
  pub added_any : OneMore p o (added p o)
  unfolding added
  added_any = by (ℕ_discrete o.answer.number 0)
    where
      by : Dec (o.answer.number ≡ 0) → OneMore p o (cond (accepted o) (with_frame p o) (with_refusal p o))
      by (yes z) = rw (eq-eqb o.answer.number 0 z) (frame_more z)
      by (no n) = rw (ne_eqb o.answer.number 0 n) (refusal_more n)

-- ---- and no other report is

pub same_row : (k : ℕ) (l m : List ℕ) → length l ≡ k → length m ≡ k
    → ((j : ℕ) → j < k → get_or l j 0 ≡ get_or m j 0) → l ≡ m
same_row k l m a b f = ext_get_or 0 l m (a ∙ sym b) (λ j h. f j (omega arith))

module _ (p : Report) (o : Outcome) (q r : Report) (a : OneMore p o q) (b : OneMore p o r) where
  alike : {some lead recording : ℕ} → LeadIs q some lead recording → LeadIs r some lead recording
      → LeadIs q r.some r.lead r.recording
  alike s t = (s.0 ∙ sym t.0, s.1 ∙ sym t.1, s.2 ∙ sym t.2)

  lead_only : Dec (o.answer.number ≡ 0) → Dec (p.some ≡ 0) → Dec (o.answer.lead < p.lead)
      → LeadIs q r.some r.lead r.recording
  lead_only (no n) s l = alike (a.no_lead n) (b.no_lead n)
  lead_only (yes z) (yes s) l = alike (a.first_lead z s) (b.first_lead z s)
  lead_only (yes z) (no s) (yes l) = alike (a.smaller_lead z l) (b.smaller_lead z l)
  lead_only (yes z) (no s) (no l) = alike (a.other_lead z s (omega arith)) (b.other_lead z s (omega arith))

  pub more_only : q ≡ r
  more_only =
      let lead =
      lead_only (ℕ_discrete o.answer.number 0) (ℕ_discrete p.some 0) (dec_lt o.answer.lead p.lead) in
      λ i. record {
        seen = (a.seen_more ∙ sym b.seen_more) i;
        frames = same_row 4 q.frames r.frames a.rows_stay.frames_four b.rows_stay.frames_four frames i;
        octets = same_row 4 q.octets r.octets a.rows_stay.octets_four b.rows_stay.octets_four octets i;
        refused =
            same_row 18 q.refused r.refused a.rows_stay.refused_eighteen b.rows_stay.refused_eighteen
            refused i;
        airtime = (a.airtime_more _ (timed o).is_share ∙ sym (b.airtime_more _ (timed o).is_share)) i;
        some = lead.0 i;
        lead = lead.1 i;
        recording = lead.2 i;
      }
    where
      frames : (j : ℕ) → j < 4 → get_or q.frames j 0 ≡ get_or r.frames j 0
      frames j h =
          let s = by_test 1 (frame_decides (get_or rates j 0) o) in
          a.frames_more j _ h s ∙ sym (b.frames_more j _ h s)

      octets : (j : ℕ) → j < 4 → get_or q.octets j 0 ≡ get_or r.octets j 0
      octets j h =
          let s = by_test o.answer.n (frame_decides (get_or rates j 0) o) in
          a.octets_more j _ h s ∙ sym (b.octets_more j _ h s)

      refused : (j : ℕ) → j < 18 → get_or q.refused j 0 ≡ get_or r.refused j 0
      refused j h =
          let s = by_test 1 (refusal_decides j o) in a.refused_more j _ h s ∙ sym (b.refused_more j _ h s)
