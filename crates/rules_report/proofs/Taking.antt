-- Calls one after the other: 31 exactly where 1,000 were seen; and the report of a list grows by one recording.
--     takes_more_lem      a report of fewer than 1,000 recordings takes one more
--     counted_next    then the answer is 0, and the report is that of the list with it
--     counted_full    a report that has seen 1,000 or more stays as it stood, whatever it holds
-- Assumes nothing.
use mathlib.Core.Path.{◌≡◌, refl, ap, ◌∙◌}
use mathlib.Core.Bool.{Bool, true, false, cond, not, ◌&&◌}
use mathlib.Core.List.{List, [], ◌∷◌, ◌++◌, map}
use Prim.Native.Nat.{ℕ, zero, suc, ◌+◌, ◌*◌, ◌≤◌, ◌<◌}
use native.Mathlib.Nat.{le_refl}
use native.Mathlib.Omega.{arith}
use borrow.Author.Tests.{le-ltb, eqb-true}
use lib.Dec.{eqb, lit≤}
use lib.ListN.{length, get_or, length-map}
use Rattle.base.proofs.Tables.{tabulate_all}
use Rattle.rules_report.specs.Totals.{
  Recording,
  Outcome,
  outcome_of,
  accepted,
  accepted_at,
  frames_at,
  octets_at,
  refused_with,
  front_time,
  airtime_of,
}
use Rattle.rules_report.specs.Report.{codes, report_of, takes_more, Limits, counted_of}
use Rattle.rules_report.specs.declared.Report.{Report}
use Rattle.rules_report.specs.declared.Counted.{Counted}
use Rattle.rules_report.proofs.Outcomes.{fair}
use Rattle.rules_report.proofs.Laws.{total_most}
use Rattle.rules_report.proofs.Added.{added_more}
use Rattle.rules_report.proofs.Lists.{limits_take}

-- ---- what totals come to

pub one_most : (t : Bool) (n m : ℕ) → (t ≡ true → n ≤ m) → cond t n 0 ≤ m
one_most true n m h = h refl
one_most false n m h = omega arith

either_most : (t : Bool) (a b m : ℕ) → a ≤ m → b ≤ m → cond t a b ≤ m
either_most true a b m h k = h
either_most false a b m h k = k

pub front_time_lem : (kind : ℕ) → front_time kind ≤ 192
front_time_lem kind = either_most (eqb kind 0) _ _ 192 (lit≤ tt) (lit≤ tt)

module _ (rs : List Recording) where
  frames_most : (code : ℕ) → frames_at code (map outcome_of rs) ≤ 1 * length rs
  frames_most code =
      total_most _ 1 (λ r. one_most (accepted_at code (outcome_of r)) 1 1 (λ e. le_refl 1)) rs

  octets_most : (code : ℕ) → octets_at code (map outcome_of rs) ≤ 4095 * length rs
  octets_most code =
      total_most _ 4095 (λ r. one_most (accepted_at code (outcome_of r)) (outcome_of r).answer.n 4095 (λ e. (fair r).few))
      rs

  refused_most : (number : ℕ) → refused_with number (map outcome_of rs) ≤ 1 * length rs
  refused_most number =
      total_most _ 1
      (λ r. one_most (not (accepted (outcome_of r)) && eqb (outcome_of r).answer.number number) 1 1 (λ e. le_refl 1)) rs

  airtime_most : airtime_of (map outcome_of rs) ≤ 32952 * length rs
  airtime_most =
      total_most _ 32952
      (λ r. let o = outcome_of r in
      one_most (accepted o) (front_time o.kind + o.answer.length) 32952
      (λ e. omega (arith, front_time_lem r.kind, (fair r).brief (eqb-true o.answer.number 0 e)))) rs

-- ---- 31

row_most : (m : ℕ) (f : ℕ → ℕ) → ((k : ℕ) → f k ≤ m) → (l : List ℕ) (j : ℕ) → get_or (map f l) j 0 ≤ m
row_most m f h [] zero = omega arith
row_most m f h [] (suc j) = omega arith
row_most m f h (x ∷ l) zero = h x
row_most m f h (x ∷ l) (suc j) = row_most m f h l j

within : (rs : List Recording) → length rs < 1000 → Limits (report_of (map outcome_of rs))
unfolding report_of
within rs h =
    let os = map outcome_of rs in
    record {
      seen_below = omega (arith, length-map rs outcome_of);
      frames_within =
          row_most 1000 (λ code. frames_at code os) (λ code. omega (arith, frames_most rs code)) codes;
      octets_within =
          row_most 4095000 (λ code. octets_at code os) (λ code. omega (arith, octets_most rs code)) codes;
      refused_within =
          tabulate_all (λ (n : ℕ). n ≤ 1000) (λ number. refused_with number os) 18 0 (omega arith)
          (λ number. omega (arith, refused_most rs number));
      airtime_within = omega (arith, airtime_most rs);
    }

-- promise: The report of fewer than 1,000 recordings takes one more; one that has seen 1,000 takes none
-- rule: 6.19
-- code: takes_more, report_count::add
-- with: counted_next, counted_full
pub takes_more_lem : (rs : List Recording) → length rs < 1000 → takes_more (report_of (map outcome_of rs)) ≡ true
takes_more_lem rs h = limits_take (report_of (map outcome_of rs)) (within rs h)

pub map_more : (rs : List Recording) (r : Recording)
    → map outcome_of rs ++ (outcome_of r ∷ []) ≡ map outcome_of (rs ++ (r ∷ []))
map_more [] r = refl
map_more (q ∷ rs) r = ap (λ (os : List Outcome). outcome_of q ∷ os) (map_more rs r)

-- ---- a call

abbrev counts : ℕ → Report → Counted
counts number p = record { number = number; report = p }

pub counted_next : (rs : List Recording) (r : Recording) → length rs < 1000
    → counted_of (report_of (map outcome_of rs)) r ≡ counts 0 (report_of (map outcome_of (rs ++ (r ∷ []))))
unfolding counted_of
counted_next rs r h =
    rw (takes_more_lem rs h)
    (ap (counts 0) (added_more (map outcome_of rs) (outcome_of r) (fair r) ∙ ap report_of (map_more rs r)))

pub counted_full : (p : Report) (r : Recording) → 1000 ≤ p.seen → counted_of p r ≡ counts 31 p
unfolding counted_of takes_more
counted_full p r h = simp (le-ltb p.seen 1000 h)
