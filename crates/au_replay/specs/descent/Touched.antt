-- What one change of a frame touches, and what has to be whole of it.
use Rattle.std.specs.Prelude.{◌≡◌, ◌≢◌, ◌≤◌, ℕ, ⊤, List, [], length, Option, Some, None}
use Rattle.std.specs.List.{Contains}
use Rattle.au_base.specs.Limits.{TABLE_COLUMNS, TABLE_ROW_NUMBERS}
use Rattle.au_base.specs.declared.cell.Cell.{Cell}
use Rattle.au_base.specs.declared.numbers.RowNo.{RowNo}
use Rattle.au_base.specs.declared.table.TableName.{TableName}
use Rattle.au_entries.specs.declared.change.Change.{Change}
use Rattle.au_entries.specs.declared.change.Change.TheVariants.{Put, Table}
use Rattle.au_entries.specs.declared.kept.Kept.{Kept}
use Rattle.au_entries.specs.declared.table.Table.{Table as AnyTable}
use Rattle.au_entries.specs.Changing.{KeptRow}
use Rattle.au_entries.specs.Lawful.{FitColumns, key_of}
use Rattle.au_entries.specs.Replaying.{IsKeptTable}
use Rattle.au_replay.specs.Touched.{IsWholeRow, rows_in}

-- the row of this table and number, where it is there, is whole, and its table has no more rows than a table may have
pub record IsPutWhole (kept : Kept) (table : TableName) (number : RowNo) : Type 0 where
  pub row : (row : KeptRow) → Contains kept.rows row → row.0 ≡ table → row.1 ≡ number → IsWholeRow kept row
  pub count : (found : AnyTable) → IsKeptTable kept table found → length (rows_in table kept.rows) ≤ TABLE_ROW_NUMBERS

-- what the change touched is whole
abbrev pub IsWholeBy : Kept → Change → Type 0
IsWholeBy kept (Put table number cells) = IsPutWhole kept table number
IsWholeBy kept (Table name columns key) = (found : AnyTable) → IsKeptTable kept name found → length found.columns ≤ TABLE_COLUMNS
IsWholeBy kept _ = ⊤

-- no other row of the table has the key of these cells
abbrev pub IsAlone : List ℕ → List Cell → List KeptRow → TableName → RowNo → Type 0
IsAlone key cells rows table number =
    (other : KeptRow) → Contains rows other → other.0 ≡ table → key_of key cells ≡ key_of key other.2 → number ≡ other.1

-- the cells of a row of the table that has this number fit its columns, and have a key of their own where it has one
pub record IsContentWhole (rows : List KeptRow) (table : AnyTable) (number : RowNo) (cells : List Cell) : Type 0 where
  pub fits : FitColumns table.columns cells
  pub alone : table.key ≢ [] → IsAlone table.key cells rows table.name number

-- the content of the row, where there is one, is so
abbrev pub IsSeenWhole : List KeptRow → AnyTable → RowNo → Option (List Cell) → Type 0
IsSeenWhole rows table number None = ⊤
IsSeenWhole rows table number (Some cells) = IsContentWhole rows table number cells
