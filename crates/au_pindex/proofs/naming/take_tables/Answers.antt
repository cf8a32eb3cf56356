use Rattle.au_base.specs.declared.table.TableName.{TableName}
use Rattle.au_pindex.specs.Buckets.{is_in_bucket}
use Rattle.au_pindex.specs.Indexing.{table_cmp}
use Rattle.au_pindex.proofs.Keys.{next_taken}
use Rattle.au_pindex.proofs.naming.take_tables.Goals as goal

pub loop-table-preserved : goal.loop-table-preserved
loop-table-preserved c = λ at.
    next_taken (λ (table : TableName). is_in_bucket table_cmp c.args.buckets.now table at) c.args.tables.now c.loop-table.table-index c.table-item.result _ _ _ c.loop-table-test.true c.table-item.is
    (c.in_ok-take_bucket.ensures at) (c.loop-table.invariant at)
