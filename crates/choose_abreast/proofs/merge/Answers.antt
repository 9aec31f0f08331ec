-- `choose_abreast::merge` meets its contract.
-- Assumes nothing.
use Rattle.std.proofs.Common.{sym, arith, rules}
use Rattle.choose_abreast.proofs.Rows.{filling_none, filling_two, merged}
use Rattle.choose_abreast.proofs.merge.Goals as goal

pub loop-k-init : goal.loop-k-init
loop-k-init c = filling_none _ (sym c.requires.0)

pub loop-k-preserved : goal.loop-k-preserved
loop-k-preserved c = filling_two c.args.from.now c.loop-k.k _ _ (omega arith) (search rules) (search rules) c.loop-k.invariant

pub returns : goal.returns
returns c = record { to = merged c.loop-k.k c.loop-k.invariant (omega arith) (omega arith) }
