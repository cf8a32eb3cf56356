-- Rows by owner, table and number, and what is left of them once changes are laid over them.
use Rattle.std.specs.Prelude.{◌&&◌, ◌==◌, ℕ, List, [], ◌∷◌, Bool, not, if◌then◌else◌, Option, None, Some}
use Rattle.std.specs.List.{filter}
use Rattle.au_base.specs.declared.cell.Cell.{Cell}
use Rattle.au_base.specs.declared.numbers.RowNo.{RowNo}
use Rattle.au_base.specs.declared.table.TableName.{TableName}
use Rattle.au_base.specs.Order.{fields_before, is_in_order, placed}
use Rattle.au_base.specs.Sameness.{same_table}
use Rattle.au_txn.specs.declared.finals.Final.{Final}

-- a row of a table: its number in the table, and its cells
pub record Row : Type 0 where
  pub table : TableName
  pub number : RowNo
  pub cells : List Cell

-- what rows stand in the order of: owner, table and number
abbrev pub place_of : TableName → RowNo → List (List ℕ)
place_of table number = table.owner ∷ table.name ∷ (number.0 ∷ []) ∷ []

-- the first row comes before the second: owner and table in byte order, and then the number
abbrev pub row_before : Row → Row → Bool
row_before a b = fields_before (place_of a.table a.number) (place_of b.table b.number)

-- the rows stand in order, each once
abbrev pub are_in_order : List Row → Bool
are_in_order rows = is_in_order row_before rows

-- it is the row of this table and number
abbrev pub is_row : TableName → RowNo → Row → Bool
is_row table number row = same_table row.table table && (row.number.0 == number.0)

-- the cells of the row with this number, where the table has one
abbrev pub row_at : TableName → RowNo → List Row → Option (List Cell)
row_at table number [] = None
row_at table number (row ∷ rows) = if is_row table number row then Some row.cells else row_at table number rows

-- it is a row of the table
abbrev pub is_in : TableName → Row → Bool
is_in table row = same_table row.table table

-- the rows of the table
abbrev pub rows_in : TableName → List Row → List Row
rows_in table rows = filter (is_in table) rows

-- all other rows
abbrev pub without : TableName → RowNo → List Row → List Row
without table number rows = filter (λ row. not (is_row table number row)) rows

-- the rows once one has this content, or none
abbrev pub with_content : TableName → RowNo → Option (List Cell) → List Row → List Row
with_content table number None rows = without table number rows
with_content table number (Some cells) rows =
    placed row_before (record { table = table; number = number; cells = cells }) (without table number rows)

-- the rows once they have these contents, one after another
abbrev pub laid_all : List Row → List Final → List Row
laid_all rows [] = rows
laid_all rows (final ∷ finals) = laid_all (with_content final.table final.row final.content rows) finals

-- a row as what is kept lists it: its table, its number and its cells
abbrev pub triple_of : Row → TableName × RowNo × List Cell
triple_of row = (row.table, row.number, row.cells)

-- and back
abbrev pub of_triple : TableName × RowNo × List Cell → Row
of_triple row = record { table = row.0; number = row.1; cells = row.2 }
