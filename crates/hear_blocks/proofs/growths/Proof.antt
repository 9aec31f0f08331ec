-- `hear_blocks::growths` meets its contract. The invariant: the first l entries are filled. Assumes nothing.
use Rattle.std.proofs.Common.{◌≡◌, ℕ, ◌+◌, ◌-◌, ◌%◌, get_or, refl, ◌∙◌, arith}
use Rattle.base.specs.Tables.{Filled}
use Rattle.base.proofs.Tables.{filled_none, filled_more, filled_all}
use Rattle.hear_codes.specs.Codes.{grown_for}
use Rattle.hear_codes.proofs.Codes.{grown_parity}
use Rattle.hear_blocks.proofs.growths.Statement.{statement}
use Rattle.hear_blocks.proofs.growths.Tie as tie

abbrev invariant_loop : tie.invariant-loop-l
invariant_loop rate symbol phases first out₀ l₀ out l =
    Filled (λ j. grown_for rate (symbol + j) (get_or phases j 0) (get_or phases (j + 1) 0)) 64 out l

abbrev decreases_loop : tie.decreases-loop-l
decreases_loop rate symbol phases first out₀ l₀ out l = 64 - l

-- the loop goes by the first symbol's number modulo 2
parity : (s l : ℕ) → (s % 2 + l) % 2 ≡ (s + l) % 2
parity s l = omega arith

loop_again : tie.Need-loop-l-preserved invariant_loop decreases_loop
loop_again c =
    filled_more _ c.loop-l.invariant c.loop-l-test.true
    (c.grown.ensures.0
    ∙ grown_parity c.args.rate _ _ _ _ (parity c.args.symbol c.loop-l.l))

returns : tie.Need-returns invariant_loop decreases_loop
returns c = filled_all c.loop-l.invariant c.loop-l-test.false

pub growths_spec : {M : Type 1} → statement M
growths_spec =
    tie.close
    (tie.spec
    invariant_loop decreases_loop (λ c. record { fits = omega arith }) (λ c. filled_none _ 64 _ refl)
    (λ c. omega arith) (λ c. omega arith) (λ c. omega arith)
    (λ c κs. (omega arith, c.requires.at _, c.requires.at _)) (λ c. omega arith) (λ c. omega arith)
    (λ c. omega arith) loop_again returns)
