use Rattle.std.proofs.Common.{◌≡◌, List, [], arith, subst}
use Rattle.std.specs.Prelude.{filter}
use Rattle.au_base.specs.declared.table.TableName.{TableName}
use Rattle.au_txn.specs.Desks.{open_of}
use Rattle.au_txn.specs.Transactions.{names_table}
use Rattle.au_engine.proofs.Taken.{none_more_named, take_all}
use Rattle.au_engine.proofs.busy.are_settled.Goals as goal

pub loop-table-preserved : goal.loop-table-preserved
loop-table-preserved c = λ client.
    none_more_named (λ (table : TableName). names_table table (open_of c.args.desk.now client)) c.args.tables.now c.loop-table.table-index c.table-item.result (omega arith) c.table-item.is (c.loop-table.invariant client)
    (c.is_settled.ensures.0 c.if-not-is_settled.false client)

pub returns : goal.returns
returns c = λ done client.
    subst (λ (tables : List TableName). filter (λ table. names_table table (open_of c.args.desk.now client)) tables ≡ []) (take_all c.args.tables.now c.loop-table.table-index (omega arith)) (c.loop-table.invariant client)
