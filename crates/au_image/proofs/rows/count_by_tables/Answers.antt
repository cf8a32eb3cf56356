use Rattle.au_image.specs.descent.Rows.{seen_by}
use Rattle.au_image.proofs.RowPieces.{count_all, count_more}
use Rattle.au_image.proofs.rows.count_by_tables.Goals as goal

pub loop-table-preserved : goal.loop-table-preserved
loop-table-preserved c =
    count_more (seen_by c.args.client c.args.desk.now) c.args.tables.now c.loop-table.table-index _ _ _ _ c.loop-table-test.true c.table-item.is c.loop-table.invariant c.in_ok-count_in.ensures c.in_ok-count.ensures.ok

pub returns : goal.returns
returns c = count_all (seen_by c.args.client c.args.desk.now) c.args.tables.now c.loop-table.table-index _ c.loop-table-test.false c.loop-table.invariant
