-- Every promise of the month's report is kept. A report kept between calls is the report of the first 1,000 recordings,
-- by induction over the calls; all else follows from that and from the totals. Assumes nothing.
use mathlib.Core.Path.{◌≡◌, refl, sym, ap, ◌∙◌, subst}
use mathlib.Core.Bool.{Bool, true, false, cond}
use mathlib.Core.List.{List, [], ◌∷◌, ◌++◌, map}
use Prim.Native.Nat.{ℕ, zero, suc, ◌+◌, ◌-◌, ◌≤◌, ◌<◌}
use native.Mathlib.Nat.{not-suc-le-zero, le_trans}
use native.Mathlib.Decide.{dec_lt}
use native.Mathlib.Omega.{arith}
use borrow.Author.Tests.{le-leb, lt-leb, eq-eqb, ne_eqb}
use lib.Dec.{leb}
use lib.ListN.{length, take, replicate, length-map, length-append, length-take, length-replicate}
use lib.Seq.{take_all, take-append_seam, drop-append_seam}
use Rattle.rules_report.specs.declared.Report.{Report}
use Rattle.rules_report.specs.declared.Counted.{Counted}
use Rattle.rules_report.specs.declared.Spelled.{Spelled}
use Rattle.rules_report.specs.Totals.{Recording, Outcome, outcome_of}
use Rattle.rules_report.specs.Report.{
  empty,
  report_of,
  added,
  takes_more,
  Limits,
  counted_of,
  recordings,
  list_of,
}
use Rattle.rules_report.specs.Shares.{OneMore}
use Rattle.rules_report.specs.Text.{text_of, text_left}
use Rattle.rules_report.specs.Said.{TextSaid}
use Rattle.rules_report.proofs.Outcomes.{fair}
use Rattle.rules_report.proofs.Shares.{added_any}
use Rattle.rules_report.proofs.Said.{text_said}
use Rattle.rules_report.proofs.Taking.{counted_next, counted_full}
use Rattle.rules_report.proofs.Lists.{takes, limits_take, none_counted}
use Rattle.rules_report.proofs.Spelling.{spelled_whole, spelled_refused, text_most}
use Rattle.promises_report.specs.Calls.{Kept, nothing_yet, one_more, Readings, none_read, one_read}
use Rattle.promises_report.specs.Promises.{
  TotalsOf,
  ReportKept,
  KeptAnswers,
  AnyReport,
  ListAlike,
  TextFills,
  TextSays,
  OneReport,
  ReportPromised,
}
use Rattle.promises_report.proofs.Totals.{seen_of, totals_of}

-- ---- the readings of a list are what its outcomes are by definition
readings_are : (rs : List Recording) (os : List Outcome) → Readings rs os → os ≡ map outcome_of rs
readings_are _ _ none_read = refl
readings_are _ _ (one_read kind chips a left rs os read more) =
    λ i. record { kind = kind; answer = read.answer i } ∷ readings_are rs os more i

-- ---- beginnings of 1,000
take_map : (n : ℕ) (rs : List Recording) → take n (map outcome_of rs) ≡ map outcome_of (take n rs)
take_map zero rs = refl
take_map (suc n) [] = refl
take_map (suc n) (r ∷ rs) = ap (λ (os : List Outcome). outcome_of r ∷ os) (take_map n rs)

take_long : (n : ℕ) (rs qs : List Recording) → n ≤ length rs → take n (rs ++ qs) ≡ take n rs
take_long zero rs qs h = refl
take_long (suc n) [] qs h = absurd (not-suc-le-zero h)
take_long (suc n) (r ∷ rs) qs h = ap (λ (l : List Recording). r ∷ l) (take_long n rs qs (omega arith))

abbrev firsts : List Recording → Report
firsts rs = report_of (map outcome_of (take 1000 rs))

-- ---- one call more
module _ (rs : List Recording) (r : Recording) (c : Counted) (answer : c ≡ counted_of (firsts rs) r) where
  few : length rs < 1000 → c ≡ record { number = 0; report = firsts (rs ++ (r ∷ [])) }
  few h =
      let all : take 1000 rs ≡ rs = take_all 1000 rs (omega arith) in
      let with_it : take 1000 (rs ++ (r ∷ [])) ≡ rs ++ (r ∷ []) =
      take_all 1000 (rs ++ (r ∷ [])) (omega (arith, length-append rs (r ∷ []))) in
      answer
      ∙ ap (λ (l : List Recording). counted_of (report_of (map outcome_of l)) r) all
      ∙ counted_next rs r h
      ∙ ap (λ (l : List Recording). record { number = 0; report = report_of (map outcome_of l) }) (sym with_it)

  many : 1000 ≤ length rs → c ≡ record { number = 31; report = firsts rs }
  many h =
      answer
      ∙ counted_full (firsts rs) r
      (omega (arith, seen_of (map outcome_of (take 1000 rs)), length-map (take 1000 rs) outcome_of, cut))
    where
      cut : length (take 1000 rs) ≡ 1000
      cut = omega (arith, length-take 1000 rs)

  grown : c.report ≡ firsts (rs ++ (r ∷ []))
  grown = by (dec_lt (length rs) 1000)
    where
      by : Dec (length rs < 1000) → c.report ≡ firsts (rs ++ (r ∷ []))
      by (yes p) = ap (λ (v : Counted). v.report) (few p)
      by (no q) =
          ap (λ (v : Counted). v.report) (many (omega arith))
          ∙ ap (λ (l : List Recording). report_of (map outcome_of l)) (sym (take_long 1000 rs (r ∷ []) (omega arith)))

-- what a report kept is
is_kept : (rs : List Recording) (p : Report) → Kept rs p → p ≡ firsts rs
is_kept _ _ nothing_yet = none_counted
is_kept _ _ (one_more rs p kind chips c k a) =
    grown rs (record { kind = kind; chips = chips }) c
    (a.answer ∙ ap (λ (q : Report). counted_of q (record { kind = kind; chips = chips })) (is_kept rs p k))

-- the totals of the first 1,000 readings
firsts_totals : (rs : List Recording) (os : List Outcome) → Readings rs os → TotalsOf (take 1000 os) (firsts rs)
firsts_totals rs os reads =
    let same : take 1000 os ≡ map outcome_of (take 1000 rs) =
    ap (take 1000) (readings_are rs os reads) ∙ take_map 1000 rs in
    subst (λ (l : List Outcome). TotalsOf l (firsts rs)) (sym same) (totals_of (take 1000 rs))

report_kept : ReportKept
report_kept rs os p reads k =
    subst (TotalsOf (take 1000 os)) (sym (is_kept rs p k)) (firsts_totals rs os reads)

kept_answers : KeptAnswers
kept_answers rs p kind chips c k a =
    let r : Recording = record { kind = kind; chips = chips } in
    let e : p ≡ firsts rs = is_kept rs p k in
    let answer : c ≡ counted_of (firsts rs) r = a.answer ∙ ap (λ (q : Report). counted_of q r) e in (
      (λ h. ap (λ (v : Counted). v.number) (few rs r c answer h)),
      λ h. many rs r c answer h ∙ ap (λ (q : Report). record { number = 31; report = q }) (sym e),
    )

-- ---- any report whatever

taken : (p : Report) (r : Recording) → takes_more p ≡ true
    → counted_of p r ≡ record { number = 0; report = added p (outcome_of r) }
unfolding counted_of
taken p r e = rw e

as_it_stood : (p : Report) (r : Recording) (t : Bool) → takes_more p ≡ t → (Limits p → ⊥)
    → counted_of p r ≡ record { number = 31; report = p }
unfolding counted_of
as_it_stood p r true e n = absurd (n (takes p e))
as_it_stood p r false e n = rw e

any_report : AnyReport
any_report p kind chips c adds =
    let r : Recording = record { kind = kind; chips = chips } in (
      (λ w. let answer = adds.answer ∙ taken p r (limits_take p w) in (
        ap (λ (v : Counted). v.number) answer,
        λ a left rows read.
            let same : outcome_of r ≡ record { kind = kind; answer = a } =
            λ i. record { kind = kind; answer = sym read.answer i } in
            subst (λ (o : Outcome). OneMore p o c.report) same
            (subst (OneMore p (outcome_of r)) (sym (ap (λ (v : Counted). v.report) answer))
            (added_any p (outcome_of r) (fair r) rows)),
      )),
      λ n. adds.answer ∙ as_it_stood p r (takes_more p) refl n,
    )

-- ---- a whole list

module _ (kinds : List ℕ) (list : List (List ℕ)) where
  rows_differ : (length kinds ≡ length list → ⊥) → list_of kinds list ≡ record { number = 7; report = empty }
  unfolding list_of
  rows_differ n = rw (ne_eqb (length kinds) (length list) n)

  rows_agree : length kinds ≡ length list
      → list_of kinds list ≡ record {
        number = cond (leb (length list) 1000) 0 31;
        report = firsts (recordings kinds list);
      }
  unfolding list_of
  rows_agree e = rw (eq-eqb (length kinds) (length list) e)

list_alike : ListAlike
list_alike kinds list c l = (
  (λ n. l.answer ∙ rows_differ kinds list n),
  λ e. let answer = l.answer ∙ rows_agree kinds list e in
      let report_is : c.report ≡ firsts (recordings kinds list) = ap (λ (v : Counted). v.report) answer in (
        (λ h. ap (λ (v : Counted). v.number) answer ∙ ap (λ (t : Bool). cond t 0 31) (le-leb (length list) 1000 h)),
        (λ h. ap (λ (v : Counted). v.number) answer ∙ ap (λ (t : Bool). cond t 0 31) (lt-leb (length list) 1000 h)),
        (λ p k. report_is ∙ sym (is_kept (recordings kinds list) p k)),
        λ os reads. subst (TotalsOf (take 1000 os)) (sym report_is) (firsts_totals (recordings kinds list) os reads),
      ),
)

-- ---- the text

module _ (p : Report) (room : ℕ) where
  abbrev text : List ℕ
  text = text_of p

  left_length : length (text_left p room) ≡ room
  left_length = by (dec_lt room (length text))
    where
      again : (n : ℕ) → n ≤ room → n + (room - n) ≡ room
      again n h = omega arith

      by : Dec (room < length text) → length (text_left p room) ≡ room
      by (yes h) = ap length (spelled_refused p room h).1 ∙ length-replicate room 0
      by (no h) =
          ap length (spelled_whole p room (omega arith)).1
          ∙ length-append text (replicate (room - length text) 0)
          ∙ ap (λ (n : ℕ). length text + n) (length-replicate (room - length text) 0)
          ∙ again (length text) (omega arith)

text_fills : TextFills
text_fills p room s left f =
    let t = text_of p in (
      ap length f.octets ∙ left_length p room,
      (λ h. let e = f.answer ∙ (spelled_whole p room h).0 in
          let count : s.octets ≡ length t = ap (λ (v : Spelled). v.octets) e in
          let all = f.octets ∙ (spelled_whole p room h).1 in (
            ap (λ (v : Spelled). v.number) e,
            count,
            rw (all, count) (take-append_seam t (replicate (room - length t) 0)),
            rw (all, count) (drop-append_seam t (replicate (room - length t) 0)),
          )),
      (λ h. (f.answer ∙ (spelled_refused p room h).0, f.octets ∙ (spelled_refused p room h).1)),
      λ h. ap (λ (v : Spelled). v.number) (f.answer ∙ (spelled_whole p room (le_trans (text_most p) h)).0),
    )

text_says : TextSays
text_says p room s left f fit z = by (dec_lt room (length (text_of p)))
  where
    by : Dec (room < length (text_of p)) → TextSaid p (take s.octets left)
    by (yes h) =
        let refused : s.number ≡ 17 = ap (λ (v : Spelled). v.number) ((text_fills p room s left f).2 h).0 in
        absurd (omega arith)
    by (no h) = rw ((text_fills p room s left f).1 (omega arith)).2 (text_said p fit)

-- ---- each contract is an equation with a definition
one_report : OneReport
one_report = (
  (λ p kind chips c c' f g. f.answer ∙ sym g.answer),
  (λ kinds list c c' f g. f.answer ∙ sym g.answer),
  λ p room s s' left left' f g. (f.answer ∙ sym g.answer, f.octets ∙ sym g.octets),
)

pub kept_report : ReportPromised
kept_report = record {
  report_kept = report_kept;
  kept_answers = kept_answers;
  any_report = any_report;
  list_alike = list_alike;
  text_fills = text_fills;
  text_says = text_says;
  one_report = one_report;
}
