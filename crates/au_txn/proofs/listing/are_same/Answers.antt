use Rattle.std.proofs.lemmas.Slice.Eq.{slice_eq-Decides}
use Rattle.au_txn.proofs.listing.are_same.Goals as goal

pub returns : goal.returns
returns c = slice_eq-Decides c.same_cells_are_equal.ensures c.args.a.now c.args.b.now c.eq.result c.eq.ensures
