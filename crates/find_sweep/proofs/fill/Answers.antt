-- No side is more than 2. Assumes nothing.
use Rattle.std.proofs.Common.{ℕ, ◌+◌, ◌≤◌, List, [], ◌∷◌, arith}
use Rattle.std.proofs.lemmas.List.Elements.{All-nil, All-cons}
use Rattle.std.specs.List.{All}
use Rattle.find_sweep.proofs.fill.Goals as goal

unfoldable Low : List ℕ → Type 0
Low xs = All (λ x. x ≤ 2) xs

none : Low []
unfolding Low
none = All-nil (λ x. x ≤ 2)

more : {x : ℕ} (xs : List ℕ) → x ≤ 2 → Low xs → Low (x ∷ xs)
unfolding Low
more {x} xs h t = All-cons (λ x. x ≤ 2) x xs h t

shown : (xs : List ℕ) → Low xs → All (λ x. x ≤ 2) xs
unfolding Low
shown xs t = t

pub half-requires : goal.half-requires
half-requires c =
    let e = c.requires.5 in
    let o = c.requires.6 in
    let k = c.loop-k.k in
    shown _ (more _ (e k (omega arith)) (more _ (o (k + 1) (omega arith)) (more _ (e (k + 2) (omega arith))
    (more _ (o (k + 3) (omega arith)) (more _ (e (k + 4) (omega arith)) (more _ (o (k + 5) (omega arith))
    (more _ (e (k + 6) (omega arith)) (more _ (o (k + 7) (omega arith)) (more _ (e (k + 8) (omega arith))
    (more _ (o (k + 9) (omega arith)) (more _ (e (k + 10) (omega arith)) none)))))))))))
