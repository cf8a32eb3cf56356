-- What the changes of a frame touch, and what has to be whole of it. The rest was whole before them.
use Rattle.std.specs.Prelude.{◌≡◌, ◌≢◌, ◌≤◌, ◌&&◌, ◌==◌, Bool, false, IsTrue, List, [], filter, length}
use Rattle.std.specs.List.{Contains, list_any}
use Rattle.au_base.specs.Limits.{CATALOG_OBJECTS, GRANTS, TABLE_COLUMNS, TABLE_ROW_NUMBERS}
use Rattle.au_base.specs.Sameness.{same_table}
use Rattle.au_base.specs.declared.numbers.RowNo.{RowNo}
use Rattle.au_base.specs.declared.table.TableName.{TableName}
use Rattle.au_entries.specs.declared.change.Change.{Change}
use Rattle.au_entries.specs.declared.change.Change.TheVariants.{Put, Table}
use Rattle.au_entries.specs.declared.kept.Kept.{Kept}
use Rattle.au_entries.specs.declared.table.Table.{Table as AnyTable}
use Rattle.au_entries.specs.Changing.{KeptRow}
use Rattle.au_entries.specs.Lawful.{FitColumns, key_of}
use Rattle.au_entries.specs.Replaying.{IsKeptTable}
use Rattle.au_grants.specs.Rights.{grant_count}

-- the change puts the row of this table and number
abbrev pub puts_row : TableName → RowNo → Change → Bool
puts_row table number (Put other row cells) = same_table other table && row.0 == number.0
puts_row table number _ = false

-- the change puts a row of the table
abbrev pub puts_into : TableName → Change → Bool
puts_into table (Put other row cells) = same_table other table
puts_into table _ = false

-- the change makes the table
abbrev pub makes_table : TableName → Change → Bool
makes_table name (Table other columns key) = same_table other name
makes_table name _ = false

-- the rows of the table
abbrev pub rows_in : TableName → List KeptRow → List KeptRow
rows_in name rows = filter (λ row. same_table row.0 name) rows

-- The row fits the columns of its table; and where the table has a key, no other row of the table has the row's.
pub record IsWholeRow (kept : Kept) (row : KeptRow) : Type 0 where
  pub fits : (table : AnyTable) → IsKeptTable kept row.0 table → FitColumns table.columns row.2
  pub alone : (table : AnyTable) (other : KeptRow) → IsKeptTable kept row.0 table → Contains kept.rows other → other.0 ≡ row.0
      → table.key ≢ [] → key_of table.key row.2 ≡ key_of table.key other.2 → row.1 ≡ other.1

-- there are 10,000 users at most, and as many roles, tables, audit policies and fine-grained policies; and 100,000 grants
pub record AreFew (kept : Kept) : Type 0 where
  pub users : length kept.users ≤ CATALOG_OBJECTS
  pub roles : length kept.roles ≤ CATALOG_OBJECTS
  pub tables : length kept.tables ≤ CATALOG_OBJECTS
  pub policies : length kept.policies ≤ CATALOG_OBJECTS
  pub fga : length kept.fga ≤ CATALOG_OBJECTS
  pub grants : grant_count kept.grants ≤ GRANTS

-- What is kept after the changes is whole where they touched it: each row that one of them put and that is there is whole;
-- a table that one of them made has 64 columns at most, and one into which they put rows 1,000,000 rows; and the counts of
-- all lists are within their limits.
pub record IsWholeWhereTouched (changes : List Change) (kept : Kept) : Type 0 where
  pub rows : (row : KeptRow) → Contains kept.rows row → IsTrue (list_any (puts_row row.0 row.1) changes) → IsWholeRow kept row
  pub columns : (table : AnyTable) → Contains kept.tables table → IsTrue (list_any (makes_table table.name) changes) → length table.columns ≤ TABLE_COLUMNS
  pub counts : (table : AnyTable) → Contains kept.tables table → IsTrue (list_any (puts_into table.name) changes) → length (rows_in table.name kept.rows) ≤ TABLE_ROW_NUMBERS
  pub few : AreFew kept
