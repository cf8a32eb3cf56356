use Rattle.au_txn.specs.Desks.{open_of}
use Rattle.au_image.specs.descent.Rows.{seen_by}
use Rattle.au_image.proofs.RowPieces.{all_rows, laid_open}
use Rattle.au_image.proofs.rows.seen_stand_by_tables.Goals as goal

pub returns : goal.returns
returns c =
    let desk = c.args.desk.now in
    let changes = open_of desk c.args.client in
    let are_open = laid_open c.laid_rows_answer.ensures.laid desk.tables desk.rows changes (λ row has. (c.holds_together.ensures.open row has).0) (c.holds_together.ensures.there c.args.client) in
    all_rows c.args.tables.now desk.tables (seen_by c.args.client desk) c.requires
    (c.rows_stand_by_tables.ensures.parts desk.tables (seen_by c.args.client desk) c.holds_together.ensures.tables
    (c.rows_are_what_they_answer.ensures.ordered desk.rows changes c.holds_together.ensures.rows) are_open)
