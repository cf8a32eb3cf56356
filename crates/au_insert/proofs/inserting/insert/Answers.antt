use Rattle.std.proofs.Common.{◌≡◌, ◌∙◌, ap, sym}
use Rattle.au_insert.specs.Inserting.{IsInsertion}
use Rattle.au_insert.specs.Inside.{IsPlacedRow}
use Rattle.au_world.specs.Sights.{columns_by, columns_in, columns_of, sight_of, table_named}
use Rattle.au_insert.proofs.Standing.{by_placed, if_ok}
use Rattle.au_insert.proofs.inserting.insert.Goals as goal

pub returns-in-Ok : goal.returns-in-Ok
returns-in-Ok c =
    let tables = c.args.world.now.catalog.now.tables in
    let table = c.args.table.now in
    let client = c.args.client in
    let session = c.args.session.now in
    let insert = c.args.insert.now in
    let sight = sight_of c.args.world.now client in
    let columns = c.columns_in-columns.result.now in
    let makes = rw c.in-Ok.is at c.in_ok-code.ensures in
    let same : columns ≡ columns_of tables table =
    c.columns_in-columns.ensures ∙ ap (λ some. columns_in (table_named some table)) c.as_slice.ensures ∙ sym (ap (columns_by tables table) c.requires.created) in
    if_ok (IsPlacedRow sight client table c.in-Ok.row) (IsInsertion sight client session table insert)
    (by_placed sight client session table insert columns c.in-Ok.row same makes) c.placed_row.result c.placed_row.ensures
