-- What contracts see of a desk.
use Rattle.std.specs.Prelude.{◌⊎◌, ℕ, List, [], ◌∷◌, ◌++◌, ◌≤◌, ◌==◌, Bool, IsSome, IsTrue, Option, if◌then◌else◌, min}
use Rattle.std.specs.List.{list_any}
use Rattle.au_base.specs.declared.numbers.ClientNo.{ClientNo}
use Rattle.au_base.specs.declared.numbers.RowNo.{RowNo}
use Rattle.au_base.specs.declared.table.TableName.{TableName}
use Rattle.au_base.specs.Order.{fields_before}
use Rattle.au_base.specs.Sameness.{same_table}
use Rattle.au_rows.specs.declared.table.Table.{Table}
use Rattle.au_txn.specs.declared.change.RowChange.{RowChange}
use Rattle.au_txn.specs.Logs.{Changes, changes_of, room_of}
use Rattle.au_txn.specs.Rows.{Row, row_at}
use Rattle.au_txn.specs.Transactions.{IsRowLocked, laid_over}
use Rattle.au_base.specs.declared.cell.Cell.{Cell}

-- the open tables, each with the places of its key's columns, by owner and name; the committed rows by owner, table
-- and number; a list of changes for each client; the rows that replay has laid and neither kept nor dropped, as changes
-- of client 0 that stand in no list; and how many more rows and tables are sure to find their memory
pub record Contents : Type 0 where
  pub tables : List Table
  pub rows : List Row
  pub logs : List Changes
  pub laid : List RowChange
  pub spare : ℕ

-- the client by which replay lays rows
abbrev pub replayer : ClientNo
replayer = record { 0 = 0 }

-- what the client has laid: nobody but the replayer has
abbrev pub laid_by : ClientNo → List RowChange → List RowChange
laid_by client laid = if client.0 == 0 then laid else []

-- a client's changes, by what is laid and by the lists: what it has laid, and behind that its list
abbrev pub open_in : List RowChange → List Changes → ClientNo → List RowChange
open_in laid logs client = laid_by client laid ++ changes_of client logs

-- each client's changes, which are open until it commits them or rolls them back
abbrev pub open_of : Contents → ClientNo → List RowChange
open_of desk client = open_in desk.laid desk.logs client

-- what is laid once the client's changes have ended
abbrev pub laid_but : ClientNo → List RowChange → List RowChange
laid_but client laid = if client.0 == 0 then [] else laid

-- a row that is laid, as a change of what the replayer sees
abbrev pub laid_row : Contents → TableName → RowNo → Option (List Cell) → RowChange
laid_row desk table number content =
    record { table = table; row = number; old = row_at table number (laid_over desk.rows (open_of desk replayer)); new = content }

-- how many more changes of the client are sure to find their memory
abbrev pub spare_of : ClientNo → Contents → ℕ
spare_of client desk = min (room_of client desk.logs) desk.spare

-- the first table comes before the second, by owner and name in byte order
abbrev pub table_before : Table → Table → Bool
table_before a b = fields_before (a.name.owner ∷ a.name.name ∷ []) (b.name.owner ∷ b.name.name ∷ [])

-- the table has this name
abbrev pub has_name : TableName → Table → Bool
has_name name table = same_table table.name name

-- a table of this name is open
abbrev pub is_open : TableName → List Table → Bool
is_open name tables = list_any (has_name name) tables

-- the places of the key's columns of the table with this name, none where no such table is open
abbrev pub key_of : TableName → List Table → List ℕ
key_of name [] = []
key_of name (table ∷ tables) = if has_name name table then table.key else key_of name tables

-- the client may make the change: its table is open, no other client has a change of its row, its row's number is at
-- least 1, and it has an old or a new content
pub record IsWritable (tables : List Table) (transactions : ClientNo → List RowChange) (client : ClientNo) (change : RowChange) : Type 0 where
  pub there : IsTrue (is_open change.table tables)
  pub free : ¬ IsRowLocked transactions client change.table change.row
  pub numbered : 1 ≤ change.row.0
  pub content : IsSome change.old ⊎ IsSome change.new

-- a row of a table, as its number and its cells
abbrev pub contents_of : Row → RowNo × List Cell
contents_of row = (row.number, row.cells)
