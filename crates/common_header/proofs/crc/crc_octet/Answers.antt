-- One zero less.
use Rattle.std.proofs.Common.{◌≡◌, ℕ, ◌+◌, ◌-◌, ◌<◌, List, suc, replicate, sym, ap, ◌∙◌, arith}
use Rattle.rules_bits.specs.Bits.{bits_of}
use Rattle.rules_bits.specs.Crc.{crc_step, remainder}
use Rattle.common_header.proofs.Register.{at_once}
use Rattle.common_header.proofs.crc.crc_octet.Goals as goal

turn : (r s : List ℕ) (k : ℕ) → k < 8 → s ≡ crc_step r 0
    → remainder s (replicate (8 - (k + 1)) 0) ≡ remainder r (replicate (8 - k) 0)
unfolding remainder
turn r s k h e =
    let more : 8 - k ≡ suc (8 - (k + 1)) = omega arith in
    ap (λ (t : List ℕ). remainder t (replicate (8 - (k + 1)) 0)) e ∙ sym (ap (λ (n : ℕ). remainder r (replicate n 0)) more)

ended : (r : List ℕ) (n : ℕ) → n ≡ 0 → remainder r (replicate n 0) ≡ r
unfolding remainder
ended r n e = rw e

pub loop-step-init : goal.loop-step-init
loop-step-init c = at_once 8 c.args.r c.args.x (omega arith) (omega arith) (omega arith)

pub loop-step-preserved : goal.loop-step-preserved
loop-step-preserved c =
    turn (bits_of 16 c.loop-step.r) _ c.loop-step._step c.loop-step-test.true c.crc_step-r.ensures.answer
    ∙ c.loop-step.invariant

pub returns : goal.returns
returns c = record {
  answer = sym (ended (bits_of 16 c.loop-step.r) (8 - c.loop-step._step) (omega arith)) ∙ c.loop-step.invariant;
}
