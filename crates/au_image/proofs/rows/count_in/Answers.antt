use Rattle.std.proofs.Common.{◌∙◌, ap, map}
use Rattle.au_rows.specs.Held.{lent}
use Rattle.au_txn.specs.Desks.{open_of}
use Rattle.au_image.proofs.RowPieces.{lent_count}
use Rattle.au_image.proofs.rows.count_in.Goals as goal

pub returns : goal.returns
returns c = lent_count c.args.table.now c.args.desk.now.rows (open_of c.args.desk.now c.args.client) _ (ap (map lent) c.as_slice.ensures.value ∙ c.in_ok-view.ensures)
