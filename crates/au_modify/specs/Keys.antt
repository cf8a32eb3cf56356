-- The keys of a table's rows, and whether a new one may come (Database Concepts, "Data Integrity"; that no statement waits
-- for a key is this project's profile).
use Rattle.std.specs.Prelude.{◌≡◌, ◌≢◌, ℕ, List, [], Option, None, Some}
use Rattle.std.specs.List.{Contains}
use Rattle.au_base.specs.declared.cell.Cell.{Cell}
use Rattle.au_base.specs.declared.numbers.ClientNo.{ClientNo}
use Rattle.au_base.specs.declared.numbers.RowNo.{RowNo}
use Rattle.au_base.specs.declared.table.TableName.{TableName}
use Rattle.au_entries.specs.declared.table.Table.{Table}
use Rattle.au_rows.specs.Held.{HasKey}
use Rattle.au_txn.specs.Keys.{AreDoubled}
use Rattle.au_txn.specs.declared.change.RowChange.{RowChange}
use Rattle.au_txn.specs.Transactions.{IsKeyLocked, IsUnder, laid_over}
use Rattle.au_world.specs.Sights.{Sight, table_named}

abbrev pub key_of : Option Table → List ℕ
key_of None = []
key_of (Some table) = table.key

-- the places of the columns of the table's key, none where it has no key
abbrev pub key_in : List Table → TableName → List ℕ
key_in tables name = key_of (table_named tables name)

-- the table has a key, and another client has a change with the key of these cells, as its old or its new one
abbrev pub IsLockedKey : Sight → ClientNo → TableName → List Cell → Type 0
IsLockedKey sight client table cells =
    (key_in sight.catalog.tables table ≢ [])
    × ((key : List Cell) × HasKey (key_in sight.catalog.tables table) key (Some cells) × IsKeyLocked (key_in sight.catalog.tables table) sight.transactions client table key)

-- the table has a key, and a row that the client sees has the key of these cells
abbrev pub IsPresentKey : Sight → TableName → List Cell → Type 0
IsPresentKey sight table cells =
    (key_in sight.catalog.tables table ≢ [])
    × ((key : List Cell) × HasKey (key_in sight.catalog.tables table) key (Some cells)
    × ((row : RowNo × List Cell) × IsUnder (key_in sight.catalog.tables table) key table (laid_over sight.rows sight.own) row))

-- one of the changes makes a key that is locked so
abbrev pub IsSomeKeyLocked : Sight → ClientNo → TableName → List RowChange → Type 0
IsSomeKeyLocked sight client table changes =
    (change : RowChange) × Contains changes change × ((cells : List Cell) × (change.new ≡ Some cells) × IsLockedKey sight client table cells)

-- the table has a key, and two of its rows have one key once the changes are made
abbrev pub AreTwoUnderOne : Sight → TableName → List RowChange → Type 0
AreTwoUnderOne sight table changes =
    (key_in sight.catalog.tables table ≢ []) × AreDoubled (key_in sight.catalog.tables table) table (laid_over (laid_over sight.rows sight.own) changes)
