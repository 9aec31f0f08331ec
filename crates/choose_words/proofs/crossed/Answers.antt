use Rattle.std.proofs.Common.{map, arith, rules}
use Rattle.choose_sums.proofs.Crossed.{sums}
use Rattle.choose_words.proofs.Numbers.{chip_is, may_add, may_take, sum_is, difference_is}
use Rattle.choose_words.proofs.crossed.Goals as goal

pub add-a-requires : goal.add-a-requires
add-a-requires g c = may_add (chip_is 8 c.args.t 0 _ c.requires.1 (search rules) (omega arith)) (chip_is 8 c.args.t 2 _ c.requires.1 (search rules) (omega arith)) g.met.T.Number.adds (omega arith)

pub sub-b-requires : goal.sub-b-requires
sub-b-requires g c = may_take (chip_is 8 c.args.s 1 _ c.requires.0 (search rules) (omega arith)) (chip_is 8 c.args.s 3 _ c.requires.0 (search rules) (omega arith)) g.met.T.Number.takes (omega arith)

pub sub-c-requires : goal.sub-c-requires
sub-c-requires g c = may_take (chip_is 8 c.args.t 4 _ c.requires.1 (search rules) (omega arith)) (chip_is 8 c.args.t 6 _ c.requires.1 (search rules) (omega arith)) g.met.T.Number.takes (omega arith)

pub add-d-requires : goal.add-d-requires
add-d-requires g c = may_add (chip_is 8 c.args.s 5 _ c.requires.0 (search rules) (omega arith)) (chip_is 8 c.args.s 7 _ c.requires.0 (search rules) (omega arith)) g.met.T.Number.adds (omega arith)

pub add-u-requires : goal.add-u-requires
add-u-requires g c = let n = g.met.T.Number in may_add (difference_is (chip_is 8 c.args.s 1 _ c.requires.0 (search rules) (omega arith)) (chip_is 8 c.args.s 3 _ c.requires.0 (search rules) (omega arith)) (n.taken _ _ _ c.sub-b.ensures)) (sum_is (chip_is 8 c.args.t 0 _ c.requires.1 (search rules) (omega arith)) (chip_is 8 c.args.t 2 _ c.requires.1 (search rules) (omega arith)) (n.added _ _ _ c.add-a.ensures)) n.adds (omega arith)

pub sub-x-requires : goal.sub-x-requires
sub-x-requires g c = let n = g.met.T.Number in may_take (difference_is (chip_is 8 c.args.s 1 _ c.requires.0 (search rules) (omega arith)) (chip_is 8 c.args.s 3 _ c.requires.0 (search rules) (omega arith)) (n.taken _ _ _ c.sub-b.ensures)) (sum_is (chip_is 8 c.args.t 0 _ c.requires.1 (search rules) (omega arith)) (chip_is 8 c.args.t 2 _ c.requires.1 (search rules) (omega arith)) (n.added _ _ _ c.add-a.ensures)) n.takes (omega arith)

pub add-v-requires : goal.add-v-requires
add-v-requires g c = let n = g.met.T.Number in may_add (sum_is (chip_is 8 c.args.s 5 _ c.requires.0 (search rules) (omega arith)) (chip_is 8 c.args.s 7 _ c.requires.0 (search rules) (omega arith)) (n.added _ _ _ c.add-d.ensures)) (difference_is (chip_is 8 c.args.t 4 _ c.requires.1 (search rules) (omega arith)) (chip_is 8 c.args.t 6 _ c.requires.1 (search rules) (omega arith)) (n.taken _ _ _ c.sub-c.ensures)) n.adds (omega arith)

pub sub-y-requires : goal.sub-y-requires
sub-y-requires g c = let n = g.met.T.Number in may_take (sum_is (chip_is 8 c.args.s 5 _ c.requires.0 (search rules) (omega arith)) (chip_is 8 c.args.s 7 _ c.requires.0 (search rules) (omega arith)) (n.added _ _ _ c.add-d.ensures)) (difference_is (chip_is 8 c.args.t 4 _ c.requires.1 (search rules) (omega arith)) (chip_is 8 c.args.t 6 _ c.requires.1 (search rules) (omega arith)) (n.taken _ _ _ c.sub-c.ensures)) n.takes (omega arith)

pub add-r0-requires : goal.add-r0-requires
add-r0-requires g c = let n = g.met.T.Number in may_add (sum_is (sum_is (chip_is 8 c.args.s 5 _ c.requires.0 (search rules) (omega arith)) (chip_is 8 c.args.s 7 _ c.requires.0 (search rules) (omega arith)) (n.added _ _ _ c.add-d.ensures)) (difference_is (chip_is 8 c.args.t 4 _ c.requires.1 (search rules) (omega arith)) (chip_is 8 c.args.t 6 _ c.requires.1 (search rules) (omega arith)) (n.taken _ _ _ c.sub-c.ensures)) (n.added _ _ _ c.add-v.ensures)) (sum_is (difference_is (chip_is 8 c.args.s 1 _ c.requires.0 (search rules) (omega arith)) (chip_is 8 c.args.s 3 _ c.requires.0 (search rules) (omega arith)) (n.taken _ _ _ c.sub-b.ensures)) (sum_is (chip_is 8 c.args.t 0 _ c.requires.1 (search rules) (omega arith)) (chip_is 8 c.args.t 2 _ c.requires.1 (search rules) (omega arith)) (n.added _ _ _ c.add-a.ensures)) (n.added _ _ _ c.add-u.ensures)) n.adds (omega arith)

pub sub-r1-requires : goal.sub-r1-requires
sub-r1-requires g c = let n = g.met.T.Number in may_take (sum_is (sum_is (chip_is 8 c.args.s 5 _ c.requires.0 (search rules) (omega arith)) (chip_is 8 c.args.s 7 _ c.requires.0 (search rules) (omega arith)) (n.added _ _ _ c.add-d.ensures)) (difference_is (chip_is 8 c.args.t 4 _ c.requires.1 (search rules) (omega arith)) (chip_is 8 c.args.t 6 _ c.requires.1 (search rules) (omega arith)) (n.taken _ _ _ c.sub-c.ensures)) (n.added _ _ _ c.add-v.ensures)) (sum_is (difference_is (chip_is 8 c.args.s 1 _ c.requires.0 (search rules) (omega arith)) (chip_is 8 c.args.s 3 _ c.requires.0 (search rules) (omega arith)) (n.taken _ _ _ c.sub-b.ensures)) (sum_is (chip_is 8 c.args.t 0 _ c.requires.1 (search rules) (omega arith)) (chip_is 8 c.args.t 2 _ c.requires.1 (search rules) (omega arith)) (n.added _ _ _ c.add-a.ensures)) (n.added _ _ _ c.add-u.ensures)) n.takes (omega arith)

pub add-r2-requires : goal.add-r2-requires
add-r2-requires g c = let n = g.met.T.Number in may_add (difference_is (sum_is (chip_is 8 c.args.s 5 _ c.requires.0 (search rules) (omega arith)) (chip_is 8 c.args.s 7 _ c.requires.0 (search rules) (omega arith)) (n.added _ _ _ c.add-d.ensures)) (difference_is (chip_is 8 c.args.t 4 _ c.requires.1 (search rules) (omega arith)) (chip_is 8 c.args.t 6 _ c.requires.1 (search rules) (omega arith)) (n.taken _ _ _ c.sub-c.ensures)) (n.taken _ _ _ c.sub-y.ensures)) (difference_is (difference_is (chip_is 8 c.args.s 1 _ c.requires.0 (search rules) (omega arith)) (chip_is 8 c.args.s 3 _ c.requires.0 (search rules) (omega arith)) (n.taken _ _ _ c.sub-b.ensures)) (sum_is (chip_is 8 c.args.t 0 _ c.requires.1 (search rules) (omega arith)) (chip_is 8 c.args.t 2 _ c.requires.1 (search rules) (omega arith)) (n.added _ _ _ c.add-a.ensures)) (n.taken _ _ _ c.sub-x.ensures)) n.adds (omega arith)

pub sub-r3-requires : goal.sub-r3-requires
sub-r3-requires g c = let n = g.met.T.Number in may_take (difference_is (sum_is (chip_is 8 c.args.s 5 _ c.requires.0 (search rules) (omega arith)) (chip_is 8 c.args.s 7 _ c.requires.0 (search rules) (omega arith)) (n.added _ _ _ c.add-d.ensures)) (difference_is (chip_is 8 c.args.t 4 _ c.requires.1 (search rules) (omega arith)) (chip_is 8 c.args.t 6 _ c.requires.1 (search rules) (omega arith)) (n.taken _ _ _ c.sub-c.ensures)) (n.taken _ _ _ c.sub-y.ensures)) (difference_is (difference_is (chip_is 8 c.args.s 1 _ c.requires.0 (search rules) (omega arith)) (chip_is 8 c.args.s 3 _ c.requires.0 (search rules) (omega arith)) (n.taken _ _ _ c.sub-b.ensures)) (sum_is (chip_is 8 c.args.t 0 _ c.requires.1 (search rules) (omega arith)) (chip_is 8 c.args.t 2 _ c.requires.1 (search rules) (omega arith)) (n.added _ _ _ c.add-a.ensures)) (n.taken _ _ _ c.sub-x.ensures)) n.takes (omega arith)

pub returns : goal.returns
returns g c = let w = g.T.Number.whole in let n = g.met.T.Number in sums (map w c.args.s) (map w c.args.t) (sum_is (chip_is 8 c.args.t 0 _ c.requires.1 (search rules) (omega arith)) (chip_is 8 c.args.t 2 _ c.requires.1 (search rules) (omega arith)) (n.added _ _ _ c.add-a.ensures)).is (difference_is (chip_is 8 c.args.s 1 _ c.requires.0 (search rules) (omega arith)) (chip_is 8 c.args.s 3 _ c.requires.0 (search rules) (omega arith)) (n.taken _ _ _ c.sub-b.ensures)).is (difference_is (chip_is 8 c.args.t 4 _ c.requires.1 (search rules) (omega arith)) (chip_is 8 c.args.t 6 _ c.requires.1 (search rules) (omega arith)) (n.taken _ _ _ c.sub-c.ensures)).is (sum_is (chip_is 8 c.args.s 5 _ c.requires.0 (search rules) (omega arith)) (chip_is 8 c.args.s 7 _ c.requires.0 (search rules) (omega arith)) (n.added _ _ _ c.add-d.ensures)).is (n.added _ _ _ c.add-u.ensures) (n.taken _ _ _ c.sub-x.ensures) (n.added _ _ _ c.add-v.ensures) (n.taken _ _ _ c.sub-y.ensures) (n.added _ _ _ c.add-r0.ensures) (n.taken _ _ _ c.sub-r1.ensures) (n.added _ _ _ c.add-r2.ensures) (n.taken _ _ _ c.sub-r3.ensures)
