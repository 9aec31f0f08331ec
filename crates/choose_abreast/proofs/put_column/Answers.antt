use Rattle.std.proofs.Common.{◌≡◌, length, arith, rules}
use Rattle.std.proofs.lemmas.List.{get_or_default}
use Rattle.choose_recorded.proofs.Columns.{column_none, column_more}
use Rattle.choose_abreast.proofs.put_column.Goals as goal

pub loop-k-init : goal.loop-k-init
loop-k-init g c = λ d. column_none d _ _ _ _

pub loop-k-preserved : goal.loop-k-preserved
loop-k-preserved g c =
    let few = c.loop-k-test.true in
    let long_i : length c.args.i ≡ 8 = search rules in
    let long_q : length c.args.q ≡ 8 = search rules in
    λ d. column_more _ _ (c.loop-k.invariant d) few c.requires.0 c.requires.1
    (get_or_default c.args.i c.loop-k.k _ d (omega arith)) (get_or_default c.args.q c.loop-k.k _ d (omega arith))

pub returns : goal.returns
returns g c =
    let all : c.loop-k.k ≡ 8 = omega (arith, c.loop-k.auto.k-end, c.loop-k-test.false) in
    record { row = λ d. rw all at c.loop-k.invariant d }
