-- `choose_abreast::take_in` meets its contract.
-- Assumes nothing.
use Rattle.std.proofs.Common.{refl, arith, rules}
use Rattle.choose_abreast.proofs.Rows.{filling_none, filling_more}
use Rattle.choose_abreast.proofs.take_in.Goals as goal

pub loop-k-init : goal.loop-k-init
loop-k-init c = filling_none _ refl

pub loop-k-preserved : goal.loop-k-preserved
loop-k-preserved c = filling_more _ (omega arith) (search rules) c.loop-k.invariant

pub returns : goal.returns
returns c = record { row = record { each = λ j h. c.loop-k.invariant.each j (omega arith) } }
