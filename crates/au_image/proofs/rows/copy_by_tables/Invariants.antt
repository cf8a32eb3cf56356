use Rattle.std.proofs.Common.{◌≡◌, ◌++◌, drop}
use Rattle.au_image.specs.descent.Rows.{rows_by_tables, seen_by}
use Rattle.au_txn.specs.Desks.{replayer}
use Rattle.au_image.proofs.rows.copy_by_tables.Given as goal

abbrev pub invariant-loop-table : goal.invariant-loop-table
invariant-loop-table l = l.rows ++ rows_by_tables (seen_by replayer l.desk) (drop l.table-index l.tables) ≡ rows_by_tables (seen_by replayer l.desk) l.tables
