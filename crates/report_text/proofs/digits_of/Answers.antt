-- A digit counted is a digit less in what is left. Assumes nothing.
use Rattle.std.proofs.Common.{◌≡◌, ℕ, ◌+◌, ◌-◌, ◌≤◌, ◌<◌, ap, ◌∙◌, arith}
use Prim.Native.Nat.{suc, ◌/◌}
use Rattle.rules_report.specs.Text.{places}
use Rattle.rules_report.proofs.Spelling.{places_one, places_more}
use Rattle.report_text.proofs.digits_of.Goals as goal

-- one digit more
more : (n rest k : ℕ) → k < 20 → 10 ≤ rest → n ≡ k + places (20 - k) rest
    → n ≡ (k + 1) + places (20 - (k + 1)) (rest / 10)
more n rest k h g e =
    let left : 20 - k ≡ suc (20 - (k + 1)) = omega arith in
    let step : places (20 - k) rest ≡ suc (places (20 - (k + 1)) (rest / 10)) =
    ap (λ (m : ℕ). places m rest) left ∙ places_more (20 - (k + 1)) rest g in
    omega arith

done : (n rest k : ℕ) → rest < 10 → 1 + n ≡ k + places (20 - k) rest → k ≡ n
done n rest k h e = omega (arith, places_one (20 - k) rest h)

full : (n rest k : ℕ) → k ≡ 20 → 1 + n ≡ k + places (20 - k) rest → 20 ≡ n
unfolding places
full n rest k h e = let last : places (20 - k) rest ≡ 1 = ap (λ (j : ℕ). places (20 - j) rest) h in omega arith

pub returns-then-rest-lt10 : goal.returns-then-rest-lt10
returns-then-rest-lt10 c = record { answer = done _ c.loop-k.rest _ c.if-rest-lt10.true c.loop-k.invariant }

pub loop-k-preserved : goal.loop-k-preserved
loop-k-preserved c = more _ c.loop-k.rest c.loop-k.k (omega arith) c.if-rest-lt10.false c.loop-k.invariant

pub returns : goal.returns
returns c = record { answer = full _ c.loop-k.rest c.loop-k.k (omega arith) c.loop-k.invariant }
