-- `find_sweep::side` meets its contract: two tests in octets. Assumes nothing.
use Prim.Native.Nat.{◌/◌}
use native.Mathlib.Omega.{arith}
use borrow.Author.Rules.{rules}
use lib.Dec.{eqb}
use Rattle.find_sweep.proofs.Halves.{byte_most, side_is}
use Rattle.find_sweep.proofs.side.Statement.{statement}
use Rattle.find_sweep.proofs.side.Tie as tie

returns : tie.Need-returns
returns c = side_is c.args.octet

pub side_spec : {M : Type 1} → statement M
side_spec =
    tie.close
    (tie.spec
    (λ c. search rules) (λ c. omega (arith, byte_most (eqb (c.args.octet / 2) 0))) (λ c. search rules)
    (λ c. omega (arith, byte_most (eqb (c.args.octet / 2) 1))) returns)
