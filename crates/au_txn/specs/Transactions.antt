-- Transactions: what a client sees, what is locked, and what a commit leaves (this project's profile of row locks
-- and read consistency, Database Concepts, "Data Concurrency and Consistency").
use Rattle.std.specs.Prelude.{◌≡◌, ◌≢◌, ◌&&◌, ◌==◌, ◌⊎◌, ⊤, ℕ, List, [], ◌∷◌, Bool, true, not, IsTrue, IsSome, Some, map}
use Rattle.std.specs.List.{Contains, list_any}
use Rattle.au_base.specs.declared.cell.Cell.{Cell}
use Rattle.au_base.specs.declared.numbers.ClientNo.{ClientNo}
use Rattle.au_base.specs.declared.numbers.RowNo.{RowNo}
use Rattle.au_base.specs.declared.table.TableName.{TableName}
use Rattle.au_base.specs.Sameness.{same_table}
use Rattle.au_rows.specs.Held.{HasKey}
use Rattle.au_txn.specs.declared.change.RowChange.{RowChange}
use Rattle.au_txn.specs.declared.finals.Final.{Final}
use Rattle.au_txn.specs.Rows.{Row, laid_all, row_at, rows_in, with_content}

-- what a change makes of its row
abbrev pub made : RowChange → Final
made change = record { table = change.table; row = change.row; content = change.new }

-- the rows with a client's changes laid over them, in order
abbrev pub laid_over : List Row → List RowChange → List Row
laid_over rows changes = laid_all rows (map made changes)

-- what a client sees of a table: the committed rows with its own changes laid over them, by row number
abbrev pub view : List Row → List RowChange → TableName → List Row
view rows changes table = rows_in table (laid_over rows changes)

-- the change is of this row
abbrev pub is_of_row : TableName → RowNo → RowChange → Bool
is_of_row table number change = same_table change.table table && (change.row.0 == number.0)

-- one of the changes is of this row
abbrev pub names_row : TableName → RowNo → List RowChange → Bool
names_row table number changes = list_any (is_of_row table number) changes

-- the change is of a row of the table
abbrev pub is_of_table : TableName → RowChange → Bool
is_of_table table change = same_table change.table table

-- one of the changes is of a row of the table
abbrev pub names_table : TableName → List RowChange → Bool
names_table table changes = list_any (is_of_table table) changes

-- one of the changes is of the table and has the key as its old or its new one
abbrev pub NamesKey : List ℕ → TableName → List Cell → List RowChange → Type 0
NamesKey places table key changes =
    (change : RowChange) × Contains changes change × (change.table ≡ table) × (HasKey places key change.old ⊎ HasKey places key change.new)

-- one of the changes is of the table and has the key as its new one
abbrev pub MakesKey : List ℕ → TableName → List Cell → List RowChange → Type 0
MakesKey places table key changes =
    (change : RowChange) × Contains changes change × (change.table ≡ table) × HasKey places key change.new

-- no two of the changes are of one row
abbrev pub rows_differ : List RowChange → Bool
rows_differ [] = true
rows_differ (change ∷ changes) = not (names_row change.table change.row changes) && rows_differ changes

-- another client has a change of the row
abbrev pub IsRowLocked : (ClientNo → List RowChange) → ClientNo → TableName → RowNo → Type 0
IsRowLocked transactions client table number = (other : ClientNo) × (other.0 ≢ client.0) × IsTrue (names_row table number (transactions other))

-- another client has a change with the key as its old or its new one
abbrev pub IsKeyLocked : List ℕ → (ClientNo → List RowChange) → ClientNo → TableName → List Cell → Type 0
IsKeyLocked places transactions client table key = (other : ClientNo) × (other.0 ≢ client.0) × NamesKey places table key (transactions other)

-- each change's old content is what stood of its row before it
abbrev pub AreFrom : List Row → List RowChange → Type 0
AreFrom rows [] = ⊤
AreFrom rows (change ∷ changes) =
    (change.old ≡ row_at change.table change.row rows) × AreFrom (with_content change.table change.row change.new rows) changes

-- a committed row has the number, or a change of an open transaction names it
abbrev pub IsNumber : List Row → (ClientNo → List RowChange) → TableName → RowNo → Type 0
IsNumber rows transactions table number =
    IsSome (row_at table number rows) ⊎ ((client : ClientNo) × IsTrue (names_row table number (transactions client)))

-- a row that is seen of the table, with its number, has the key
abbrev pub IsUnder : List ℕ → List Cell → TableName → List Row → RowNo × List Cell → Type 0
IsUnder places key table seen row = (row_at table row.0 seen ≡ Some row.1) × HasKey places key (Some row.1)

-- a row that is seen of the table under another number than this one has the key
abbrev pub IsUnderOther : List ℕ → List Cell → TableName → List Row → RowNo → RowNo → Type 0
IsUnderOther places key table seen row other = (other ≢ row) × HasKey places key (row_at table other seen)
