use Rattle.std.proofs.Common.{◌≡◌, ◌++◌, map, take}
use Rattle.std.specs.Prelude.{filter}
use Rattle.au_txn.specs.Transactions.{names_table}
use Rattle.au_engine.proofs.busy.add_busy.Given as goal

abbrev pub invariant-loop-table : goal.invariant-loop-table
invariant-loop-table l = l.busy ≡ l.fn.busy ++ map (λ table. (table, l.client)) (filter (λ table. names_table table l.changes) (take l.table-index l.tables))
