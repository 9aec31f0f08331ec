-- The row is the store's octets, and the rest is filled. Assumes nothing.
use Rattle.std.proofs.Common.{ℕ, List, ◌++◌, drop, refl, ap}
use Rattle.base.specs.Over.{over}
use Rattle.base.proofs.Over.{over_filled}
use Rattle.rules_store.specs.Pieces.{table_from, bodies, laid_out, store_of}
use Rattle.store_keep.proofs.put.Goals as goal

pub returns : goal.returns
unfolding table_from bodies laid_out over
returns c =
    let row = store_of c.args.kind c.args.rate c.args.phase in
    record {
      store = over_filled row c.args.store.now _ _ 17 0
          (ap (λ (l : List ℕ). l ++ drop 17 c.args.store.now) c.copy_from_slice.ensures.after) refl c.requires
          c.fill.ensures.row;
    }
