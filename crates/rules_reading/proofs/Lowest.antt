-- The smallest lead of a row.
--     row_kept     no lead of the row is smaller than what was smallest before it
--     row_more     one lead more
--     row_least    of a row alone
-- Assumes nothing.
use mathlib.Core.Path.{◌≡◌, sym, ap, ap₂, ◌∙◌}
use mathlib.Core.Bool.{cond}
use mathlib.Core.List.{List, [], ◌∷◌}
use Prim.Native.Nat.{ℕ, ◌+◌, ◌≤◌, ◌<◌}
use native.Mathlib.Numerals.{add-one}
use native.Mathlib.Omega.{arith}
use lib.Dec.{ltb}
use lib.ListN.{length, get_or, take}
use lib.Seq.{get_or-take, length-take-le, take-suc}
use Rattle.rules_calls.specs.declared.Least.{Least}
use Rattle.rules_reading.specs.Leads.{lead_at, least_from, least_of}
use Rattle.rules_reading.proofs.Leads.{least_kept, least_joined, least_of_from}

pub row_kept : (k : ℕ) (b : Least) (xs : List ℕ) (m : ℕ) → m ≤ length xs
    → ((j : ℕ) → j < m → b.lead ≤ get_or xs j 0) → least_from k b (take m xs) ≡ b
row_kept k b xs m h low =
    least_kept k b (take m xs)
    (λ j i. let n : j < m = omega (arith, length-take-le m xs h) in rw (get_or-take m xs j 0 n) (low j n))

-- the smallest so far, c, and one lead more
pub row_more : (k : ℕ) (b c : Least) (xs : List ℕ) (l : ℕ) → l < length xs → c ≡ least_from k b (take l xs)
    → cond (ltb (get_or xs l 0) c.lead) (lead_at (get_or xs l 0) (k + l)) c ≡ least_from k b (take (l + 1) xs)
unfolding least_from
row_more k b c xs l h e =
    let x = get_or xs l 0 in
    ap₂ {C = Least} (λ d n. cond (ltb x d.lead) (lead_at x (k + n)) d) e (sym (length-take-le l xs (omega arith)))
    ∙ sym (least_joined k b (take l xs) (x ∷ []))
    ∙ ap (least_from k b) (sym (take-suc xs l 0 h) ∙ ap (λ (n : ℕ). take n xs) (sym (add-one l)))

pub row_least : (xs : List ℕ) (m x : ℕ) → 0 < m → x ≡ get_or xs 0 0
    → least_from 0 (lead_at x 0) (take m xs) ≡ least_of (take m xs)
row_least xs m x h e =
    ap (λ (y : ℕ). least_from 0 (lead_at y 0) (take m xs)) (e ∙ sym (get_or-take m xs 0 0 h))
    ∙ sym (least_of_from (take m xs))
