use Rattle.au_image.specs.descent.Rows.{seen_by}
use Rattle.au_image.proofs.RowPieces.{table_left, table_spelled, table_written, tables_written}
use Rattle.au_image.proofs.rows.write_by_tables.Goals as goal

pub loop-table-init : goal.loop-table-init
loop-table-init c = c.writes_join.ensures.none _

pub write_table_rows-requires-clause-left : goal.write_table_rows-requires-clause-left
write_table_rows-requires-clause-left c =
    table_left (seen_by c.args.client c.args.desk.now) c.args.tables.now c.loop-table.table-index _ _ _ c.loop-table-test.true c.table-item.is c.requires.left c.loop-table.invariant

pub write_table_rows-requires-clause-spellable : goal.write_table_rows-requires-clause-spellable
write_table_rows-requires-clause-spellable c =
    table_spelled (seen_by c.args.client c.args.desk.now) c.args.tables.now c.loop-table.table-index _ c.loop-table-test.true c.table-item.is c.requires.spellable

pub loop-table-preserved : goal.loop-table-preserved
loop-table-preserved c =
    table_written c.writes_join.ensures (seen_by c.args.client c.args.desk.now) c.args.tables.now c.loop-table.table-index _ _ _ _ c.loop-table-test.true c.table-item.is c.loop-table.invariant c.in_ok-write_table_rows.ensures

pub returns : goal.returns
returns c = tables_written (seen_by c.args.client c.args.desk.now) c.args.tables.now c.loop-table.table-index _ _ c.loop-table-test.false c.loop-table.invariant
