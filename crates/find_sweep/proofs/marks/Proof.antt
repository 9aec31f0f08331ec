-- `find_sweep::marks` meets its contract: five steps, each over the row that the one before it left. Assumes nothing.
use native.Mathlib.Omega.{arith}
use Rattle.find_sweep.proofs.Chain.{
  plains_small,
  twos_small,
  bits_row,
  plains_row,
  twos_row,
  fours_row,
  marked_row,
}
use borrow.Author.Rules.{rules}
use Rattle.find_sweep.proofs.marks.Statement.{statement}
use Rattle.find_sweep.proofs.marks.Tie as tie

returns : tie.Need-returns
returns c rec at m few p =
    marked_row rec at m few _ _ _ _
    (fours_row rec at m few _ _
    (twos_row rec at m few _ _
    (plains_row rec at m few _ _ (bits_row rec at m few _ _ p c.bits.ensures) c.plains.ensures)
    c.join.ensures)
    c.join-2.ensures)
    c.compare.ensures

pub marks_spec : {M : Type 1} → statement M
marks_spec =
    tie.close
    (tie.spec
    (λ c κs. search rules) (λ c κs. search rules)
    (λ c κs. (omega arith, omega arith, plains_small (λ j. omega arith) c.plains.ensures))
    (λ c κs. let small = twos_small (λ j. omega arith) c.before.before.before.plains.ensures c.before.join.ensures in (omega arith, omega arith, small))
    (λ c κs. search rules) returns)
