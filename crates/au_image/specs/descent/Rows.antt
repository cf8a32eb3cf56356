-- Rows of a desk, table by table.
use Rattle.std.specs.Prelude.{List, flat_map, map}
use Rattle.std.specs.Borrow.{Bor}
use Rattle.au_base.specs.declared.cell.Cell.{Cell}
use Rattle.au_base.specs.declared.numbers.ClientNo.{ClientNo}
use Rattle.au_base.specs.declared.numbers.RowNo.{RowNo}
use Rattle.au_base.specs.declared.table.TableName.{TableName}
use Rattle.au_entries.specs.declared.change.Change.{Change}
use Rattle.au_entries.specs.declared.table.Table.{Table}
use Rattle.au_entries.specs.Changing.{KeptRow}
use Rattle.au_entries.specs.Imaging.{row_change}
use Rattle.au_rows.specs.Held.{lent}
use Rattle.au_txn.specs.Desks.{Contents as Desk, open_of}
use Rattle.au_txn.specs.Rows.{Row, rows_in, triple_of}
use Rattle.au_txn.specs.Transactions.{laid_over}

-- the rows as the client sees them
abbrev pub seen_by : ClientNo → Desk → List Row
seen_by client desk = laid_over desk.rows (open_of desk client)

-- a row of the table, by its number and its cells
abbrev pub row_of : TableName → RowNo × List Cell → KeptRow
row_of table row = (table, row.0, row.1)

-- the rows of a table
abbrev pub rows_of : List Row → Table → List KeptRow
rows_of rows table = map triple_of (rows_in table.name rows)

-- the rows of the tables, one table after another
abbrev pub rows_by_tables : List Row → List Table → List KeptRow
rows_by_tables rows tables = flat_map (rows_of rows) tables

-- a row of the table that is lent, as the change that puts it
abbrev pub lent_change : TableName → RowNo × Bor (List Cell) → Change
lent_change table row = row_change (row_of table (lent row))
