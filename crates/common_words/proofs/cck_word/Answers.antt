-- Eight sums side by side, and two half turns.
use Rattle.std.proofs.Common.{refl, arith}
use Rattle.common_words.proofs.Octets.{quarters_small, cck_sums}
use Rattle.common_words.proofs.cck_word.Goals as goal

pub overflow_add-result : goal.overflow_add-result
overflow_add-result c = record { fits = omega (arith, (quarters_small _ _ c.quarters-q.ensures.answer).0) }

pub overflow_add-result-2 : goal.overflow_add-result-2
overflow_add-result-2 c = record { fits = omega (arith, (quarters_small _ _ c.quarters-q.ensures.answer).1) }

pub returns : goal.returns
returns c = record {
  answer = cck_sums c.args.p1 c.args.p2 c.args.p3 c.args.p4 _ _ refl c.quarters-q.ensures.answer;
}
