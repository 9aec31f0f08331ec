use Rattle.std.proofs.Common.{arith, rules}
use Rattle.choose_words.proofs.Numbers.{score_within, held_keys}
use Rattle.choose_words.proofs.two_largest.Goals as goal

pub two_keys-a-requires : goal.two_keys-a-requires
two_keys-a-requires g c = (omega arith, score_within g.T.Number.whole 8 c.args.h 0 _ c.requires (search rules) (omega arith) (omega arith), score_within g.T.Number.whole 8 c.args.h 1 _ c.requires (search rules) (omega arith) (omega arith), omega arith)

pub two_keys-b-requires : goal.two_keys-b-requires
two_keys-b-requires g c = (omega arith, score_within g.T.Number.whole 8 c.args.h 2 _ c.requires (search rules) (omega arith) (omega arith), score_within g.T.Number.whole 8 c.args.h 3 _ c.requires (search rules) (omega arith) (omega arith), omega arith)

pub two_keys-c-requires : goal.two_keys-c-requires
two_keys-c-requires g c = (omega arith, score_within g.T.Number.whole 8 c.args.h 4 _ c.requires (search rules) (omega arith) (omega arith), score_within g.T.Number.whole 8 c.args.h 5 _ c.requires (search rules) (omega arith) (omega arith), omega arith)

pub two_keys-d-requires : goal.two_keys-d-requires
two_keys-d-requires g c = (omega arith, score_within g.T.Number.whole 8 c.args.h 6 _ c.requires (search rules) (omega arith) (omega arith), score_within g.T.Number.whole 8 c.args.h 7 _ c.requires (search rules) (omega arith) (omega arith), omega arith)

pub returns : goal.returns
returns g c =
    c.merge-3.ensures.two _ _ _ _
    (c.merge.ensures.two _ _ _ _ (held_keys g.T.Number.whole c.args.h 0 _ _ (search rules) (omega arith) c.two_keys-a.ensures.first c.two_keys-a.ensures.second) (held_keys g.T.Number.whole c.args.h 2 _ _ (search rules) (omega arith) c.two_keys-b.ensures.first c.two_keys-b.ensures.second))
    (c.merge-2.ensures.two _ _ _ _ (held_keys g.T.Number.whole c.args.h 4 _ _ (search rules) (omega arith) c.two_keys-c.ensures.first c.two_keys-c.ensures.second) (held_keys g.T.Number.whole c.args.h 6 _ _ (search rules) (omega arith) c.two_keys-d.ensures.first c.two_keys-d.ensures.second))
