-- `hear_codes::octet` meets its contract, rate by rate. Assumes nothing.
use native.Mathlib.Omega.{arith}
use borrow.Author.Rules.{rules}
use Rattle.hear_codes.proofs.Codes.{one_from}
use Rattle.hear_codes.proofs.octet.Statement.{statement}
use Rattle.hear_codes.proofs.octet.Tie as tie

from_eight_requires : tie.Need-from_eight-requires
from_eight_requires c κs = rw c.in-One.is at c.requires

from_four_requires : tie.Need-from_four-requires
from_four_requires c κs = rw c.in-Two.is at c.requires

from_two_requires : tie.Need-from_two-requires
from_two_requires c κs = rw c.in-Five.is at c.requires

returns : tie.Need-returns-in-One
returns c = rw c.in-One.is c.from_eight.ensures

returns_2 : tie.Need-returns-in-Two
returns_2 c = rw c.in-Two.is c.from_four.ensures

returns_3 : tie.Need-returns-in-Five
returns_3 c = rw c.in-Five.is c.from_two.ensures

returns_4 : tie.Need-returns-in-Eleven
returns_4 c =
    let room = rw c.in-Eleven.is at c.requires.0 in
    rw c.in-Eleven.is
    (one_from c.args.c.now c.args.k (omega (arith, c.requires.1)))

element_copy_out_result : tie.Need-bounds-c-k
element_copy_out_result c = let room = rw c.in-Eleven.is at c.requires.0 in omega arith

pub octet_spec : {M : Type 1} → statement M
octet_spec =
    tie.close
    (tie.spec
    (λ c. search rules) from_eight_requires (λ c. search rules) from_four_requires (λ c. search rules)
    from_two_requires (λ c. search rules) element_copy_out_result returns returns_2 returns_3 returns_4)
