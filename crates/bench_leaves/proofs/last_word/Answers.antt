-- `last_word`: a search that found nothing leaves usable chips, and those are decided.
use mathlib.Core.Path.{◌∙◌}
use Rattle.choose_recorders.specs.Rows.{taken_of}
use Rattle.bench_leaves.specs.Leaves.{last_word}
use Rattle.choose_recorded.proofs.Searched.{bad, good, usable}
use native.Mathlib.Omega.{arith}
use borrow.Author.Rules.{rules}
use Rattle.bench_leaves.proofs.last_word.Goals as goal

pub returns-in-Some : goal.returns-in-Some
unfolding last_word
returns-in-Some c = record {
  answer = bad (taken_of c.args.rec) 512 _ c.first_unusable.ensures.answer _ _ c.in-Some.is;
}

pub decide-requires : goal.decide-requires
decide-requires c = (
  omega arith,
  c.requires,
  usable (taken_of c.args.rec) 512 _ c.first_unusable.ensures.answer c.in_default.is c.requires,
  search rules,
  search rules,
)

pub returns : goal.returns
unfolding last_word
returns c = record {
  answer = c.from.ensures ∙ c.decide.ensures.numbers.number 63 (omega arith)
      ∙ good (taken_of c.args.rec) 512 _ c.first_unusable.ensures.answer _ c.in_default.is;
}
