use Rattle.std.proofs.Common.{◌≡◌, length, take}
use Rattle.au_image.specs.descent.Rows.{rows_by_tables, seen_by}
use Rattle.au_image.proofs.rows.count_by_tables.Given as goal

abbrev pub invariant-loop-table : goal.invariant-loop-table
invariant-loop-table l = l.count ≡ length (rows_by_tables (seen_by l.client l.desk) (take l.table-index l.tables))
