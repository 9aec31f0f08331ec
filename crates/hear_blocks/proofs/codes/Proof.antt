-- `hear_blocks::codes` meets its contract. The invariant: the first l entries are filled. Assumes nothing.
use Rattle.std.proofs.Common.{◌-◌, get_or, refl, arith}
use Rattle.base.specs.Tables.{Filled}
use Rattle.base.proofs.Tables.{filled_none, filled_more, filled_all}
use Rattle.rules_bits.specs.Bits.{number_of}
use Rattle.hear_codes.specs.Codes.{word_bits}
use Rattle.hear_blocks.proofs.codes.Statement.{statement}
use Rattle.hear_blocks.proofs.codes.Tie as tie

abbrev invariant_loop : tie.invariant-loop-l
invariant_loop rate g numbers out₀ l₀ out l = Filled (λ j. number_of (word_bits rate (get_or g j 0) (get_or numbers j 0))) 64 out l

abbrev decreases_loop : tie.decreases-loop-l
decreases_loop rate g numbers out₀ l₀ out l = 64 - l

loop_again : tie.Need-loop-l-preserved invariant_loop decreases_loop
loop_again c = filled_more _ c.loop-l.invariant c.loop-l-test.true c.code.ensures.0

returns : tie.Need-returns invariant_loop decreases_loop
returns c = filled_all c.loop-l.invariant c.loop-l-test.false

pub codes_spec : {M : Type 1} → statement M
codes_spec =
    tie.close
    (tie.spec
    invariant_loop decreases_loop (λ c. filled_none _ 64 _ refl) (λ c. omega arith) (λ c. omega arith)
    (λ c κs. c.requires.at _) (λ c. omega arith) (λ c. omega arith) (λ c. omega arith) loop_again returns)
