-- A list that does not fit and an empty one leave zeros, any other its entries and zeros. Assumes nothing.
use Rattle.std.proofs.Common.{◌≡◌, ℕ, ◌-◌, ◌*◌, ◌≤◌, ◌<◌, List, ◌++◌, length, take, replicate, refl, sym, ap, ◌∙◌, arith}
use mathlib.Core.Path.{ap₂}
use Rattle.rules_compare.specs.Differences.{Difference, differences, entry_places, laid}
use Rattle.rules_compare.proofs.Shown.{laid_fits, laid_zeros}
use Rattle.compare_rows.proofs.Left.{put_counted, put_then, put_ended}
use Rattle.compare_rows.proofs.list.Goals as goal

-- a whole row cleared
cleared : (d e : List ℕ) → e ≡ take 0 d ++ replicate (length d - 0) 0 → e ≡ replicate (length d) 0
cleared d e h = let n : length d - 0 ≡ length d = omega arith in h ∙ ap (λ (k : ℕ). replicate k 0) n

not_fit : (ds : List Difference) (d f e : List ℕ) → length f ≡ length d → length d < 3 * length ds
    → e ≡ take 0 f ++ replicate (length f - 0) 0 → e ≡ laid (length d) ds
not_fit ds d f e l h c =
    cleared f e c ∙ ap (λ (k : ℕ). replicate k 0) l ∙ sym (laid_zeros (length d) ds h)

whole : (ds : List Difference) (d e g : List ℕ) (p : ℕ) → p ≡ 3 * length ds → length e ≡ length d
    → take p e ≡ entry_places ds → 3 * length ds ≤ length d → g ≡ take p e ++ replicate (length e - p) 0
    → g ≡ laid (length d) ds
whole ds d e g p f l t h c =
    let n : length e - p ≡ length d - 3 * length ds = omega (arith, f, l) in
    c ∙ ap₂ {C = List ℕ} (λ x y. x ++ y) t (ap (λ (k : ℕ). replicate k 0) n) ∙ sym (laid_fits (length d) ds h)

pub returns-then-row-p-clause-row : goal.returns-then-row-p-clause-row
returns-then-row-p-clause-row c =
    let a = c.args.a.now in
    let b = c.args.b.now in
    let reached = c.put_blocks-at in
    let all =
    put_counted a b reached.result.at c.shorter-end.result c.how_many-rest.result c.shorter-end.ensures.answer.2
    reached.ensures.answer.1 c.how_many-rest.ensures.answer in
    not_fit (differences a b) c.args.row.now reached.new.row c.clear.new.row reached.ensures.answer.1.long
    (omega (arith, all, reached.ensures.answer.1.long)) c.clear.ensures.row

pub returns-clause-row : goal.returns-clause-row
returns-clause-row c =
    let a = c.args.a.now in
    let b = c.args.b.now in
    let end = c.shorter-end in
    let reached = c.put_blocks-at in
    let done = reached.ensures.answer.1 in
    let all =
    put_counted a b reached.result.at end.result c.how_many-rest.result end.ensures.answer.2 done
    c.how_many-rest.ensures.answer in
    let list = put_ended a b end.result end.ensures.answer.2 refl (put_then a b done c.put_part-q.ensures.answer) in
    whole (differences a b) c.args.row.now c.put_part-q.new.row c.clear-2.new.row c.put_part-q.result list.0 list.1
    list.2 (omega (arith, all, done.long)) c.clear-2.ensures.row
