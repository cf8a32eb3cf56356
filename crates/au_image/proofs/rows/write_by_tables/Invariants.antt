use Rattle.std.proofs.Common.{[], map, take}
use Rattle.au_entries.specs.Imaging.{row_change}
use Rattle.rec_codec.specs.Images.{Wrote}
use Rattle.au_image.specs.descent.Rows.{rows_by_tables, seen_by}
use Rattle.au_image.proofs.rows.write_by_tables.Given as goal

abbrev pub invariant-loop-table : goal.invariant-loop-table
invariant-loop-table l = Wrote l.fn.writer l.writer (map row_change (rows_by_tables (seen_by l.client l.desk) (take l.table-index l.tables))) []
